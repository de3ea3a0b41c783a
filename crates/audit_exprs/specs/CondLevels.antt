-- Conditions, read level by level.
use Rattle.std.specs.Prelude.{zero, List, reverse, map, Bool, if◌then◌else◌, Option, Some, None}
use Rattle.read_laws.specs.Bounded.{Builder, bounded, bounded_join}
use Rattle.read_laws.specs.Chain.{Parser, first_token, after_first}
use Rattle.read_laws.specs.CondReader.{and_in, both_of, or_in, either_of, range_at, operand, unit}
use Rattle.sql_tree.specs.Tree.{ExprTree, CondTree, cond_tree}
use Rattle.sql_tree.specs.Tree.CondTree.{Negation, Compare, Either}
use Rattle.sql_tree.specs.declared.token.Keyword.{Keyword}
use Rattle.sql_tree.specs.declared.token.Keyword.TheVariants as word
use Rattle.sql_tree.specs.declared.token.Symbol.TheVariants as symbol
use Rattle.sql_tree.specs.declared.token.Token.{Token}
use Rattle.sql_tree.specs.declared.token.Token.TheVariants.{Key}
use Rattle.sql_tree.specs.declared.token.Token.TheVariants as token
use Rattle.sql_tree.specs.declared.tree.CmpOp.TheVariants as compare
use Rattle.sql_tree.specs.declared.tree.Cond.{Cond}
use Rattle.text_bytes.specs.Found.{then_read}
use Rattle.audit_exprs.specs.Ahead.{has_test}
use Rattle.audit_exprs.specs.Between.{Rules, Waits, Next, GoesOn, Stops}
use Rattle.audit_exprs.specs.Between.Next.{Wanted, Was, Done}
use Rattle.audit_exprs.specs.declared.openings.Opening.{Opening}
use Rattle.audit_exprs.specs.declared.openings.Opening.TheVariants as opening_of
use Rattle.audit_exprs.specs.declared.conds.CondLevel.{CondLevel}
use Rattle.audit_exprs.specs.declared.conds.CondLevels.{CondLevels}
use Rattle.audit_exprs.specs.declared.conds.CondStep.{CondStep}
use Rattle.audit_exprs.specs.declared.conds.CondStep.TheVariants as step

-- ## Tests

-- BETWEEN or IN, after an operand
abbrev pub range_after : Parser ExprTree → ExprTree → Parser CondTree
range_after part of tokens = range_at bounded part of (first_token tokens) (after_first tokens)

-- the members of a list after IN so far, and the next one
abbrev pub member_after : Parser ExprTree → ExprTree → CondTree → Parser CondTree
member_after part of so_far tokens = then_read (part tokens) (λ member. Some (bounded_join Either so_far (Compare compare.Eq of member.0), member.1))

-- ## Levels

-- what opens a unit of several parts: NOT, and a `(` with a test's word before its `)`
abbrev pub cond_opening : Option Token → List Token → Option Opening
cond_opening (Some (Key word.Not)) rest = Some opening_of.Prefix
cond_opening (Some (token.Symbol symbol.Open)) rest = if has_test zero rest then Some opening_of.Parenthesis else None
cond_opening other rest = None

abbrev pub cond_rules : Builder → Parser ExprTree → Rules CondTree Keyword Keyword
cond_rules build part = record {
  near = and_in;
  near_join = both_of build;
  far = or_in;
  far_join = either_of build;
  prefix = Negation;
  part = unit build part;
}

-- a condition after the left side of its AND or OR
abbrev pub joined : (CondTree → CondTree → CondTree) → Option Cond → CondTree → CondTree
joined join None right = right
joined join (Some left) right = join (cond_tree left) right

-- ## The levels of the code

abbrev pub cond_waits : CondLevel → Waits CondTree
cond_waits level = record { prefixes = level.nots; near = joined bounded.both level.conjunction; far = joined bounded.either level.disjunction }

abbrev pub conds_wait : List CondLevel → List (Waits CondTree)
conds_wait outer = map cond_waits (reverse outer)

abbrev pub cond_next : CondStep → Next CondTree
cond_next step.Unit = Wanted
cond_next (step.Was c) = Was (cond_tree c)
cond_next (step.Done c) = Done (cond_tree c)

abbrev pub CondGoesOn : Bool → CondLevels → CondStep → List Token → CondLevels → CondStep → List Token → Type 0
CondGoesOn aggregates old from tokens new to rest =
    GoesOn (cond_rules bounded (operand bounded aggregates)) (cond_waits old.level) (conds_wait old.outer.items) (cond_next from) tokens (cond_waits new.level) (conds_wait new.outer.items) (cond_next to) rest

abbrev pub CondStops : Bool → CondLevels → CondStep → List Token → Type 0
CondStops aggregates old from tokens = Stops (cond_rules bounded (operand bounded aggregates)) (cond_waits old.level) (conds_wait old.outer.items) (cond_next from) tokens
