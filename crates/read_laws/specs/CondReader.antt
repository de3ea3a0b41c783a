-- A reader of aggregates and conditions, on plain lists of tokens: a definition for each of its steps. What
-- it finds is what tokens derive (proofs/CondLaws).
use Rattle.std.specs.Prelude.{ℕ, zero, suc, List, length, Bool, true, false, if◌then◌else◌, Option, Some, None}
use Rattle.read_laws.specs.Bounded.{Builder}
use Rattle.read_laws.specs.Chain.{Found, Parser, first_token, after_first, or_read, given, chain}
use Rattle.read_laws.specs.Parts.{is_key, behind_key, behind_symbol, comma_in}
use Rattle.read_laws.specs.ExprReader.{expr_after, expr, factor, closed}
use Rattle.sql_tree.specs.Tree.{ExprTree, CondTree}
use Rattle.sql_tree.specs.Tree.ExprTree.{AggregateAll, Aggregate}
use Rattle.sql_tree.specs.Tree.CondTree.{Compare, Within, IsNull, Negation}
use Rattle.sql_tree.specs.declared.token.Keyword.{Keyword}
use Rattle.sql_tree.specs.declared.token.Keyword.TheVariants as word
use Rattle.sql_tree.specs.declared.token.Symbol.{Symbol}
use Rattle.sql_tree.specs.declared.token.Symbol.TheVariants as symbol
use Rattle.sql_tree.specs.declared.token.Token.{Token}
use Rattle.sql_tree.specs.declared.token.Token.TheVariants.{Key}
use Rattle.sql_tree.specs.declared.token.Token.TheVariants as token
use Rattle.sql_tree.specs.declared.tree.AggOp.{AggOp}
use Rattle.sql_tree.specs.declared.tree.AggOp.TheVariants as aggregate
use Rattle.sql_tree.specs.declared.tree.CmpOp.{CmpOp}
use Rattle.sql_tree.specs.declared.tree.CmpOp.TheVariants as compare
use Rattle.text_bytes.specs.Found.{then_read}

-- ## Tokens

-- an aggregate
abbrev pub aggregate_in : Option Token → Option AggOp
aggregate_in (Some (Key word.Count)) = Some aggregate.Count
aggregate_in (Some (Key word.Sum)) = Some aggregate.Sum
aggregate_in (Some (Key word.Min)) = Some aggregate.Min
aggregate_in (Some (Key word.Max)) = Some aggregate.Max
aggregate_in other = None

-- a comparison
abbrev pub comparison_in : Option Token → Option CmpOp
comparison_in (Some (token.Symbol symbol.Equal)) = Some compare.Eq
comparison_in (Some (token.Symbol symbol.NotEqual)) = Some compare.Ne
comparison_in (Some (token.Symbol symbol.BangEqual)) = Some compare.Ne
comparison_in (Some (token.Symbol symbol.Less)) = Some compare.Lt
comparison_in (Some (token.Symbol symbol.LessEqual)) = Some compare.Le
comparison_in (Some (token.Symbol symbol.Greater)) = Some compare.Gt
comparison_in (Some (token.Symbol symbol.GreaterEqual)) = Some compare.Ge
comparison_in other = None

-- OR
abbrev pub or_in : Option Token → Option Keyword
or_in (Some (Key word.Or)) = Some word.Or
or_in other = None

-- AND
abbrev pub and_in : Option Token → Option Keyword
and_in (Some (Key word.And)) = Some word.And
and_in other = None

-- `*` as the argument of COUNT
abbrev pub is_all : AggOp → Option Token → Bool
is_all aggregate.Count (Some (token.Symbol symbol.Star)) = true
is_all f other = false

-- ## Expressions and aggregates

module _ (build : Builder) where
  -- an expression, with as many levels as there are tokens
  unfoldable pub whole_expr : Parser ExprTree
  whole_expr tokens = expr build (factor build (length tokens)) tokens

  -- what follows an aggregate's word
  unfoldable pub argument : AggOp → Parser ExprTree
  argument f tokens =
      if is_all f (first_token tokens) then closed (AggregateAll f, after_first tokens)
      else then_read (whole_expr tokens) (λ of. closed (Aggregate f of.0, of.1))

  -- expr | agg
  unfoldable pub value : Parser ExprTree
  value tokens = given (aggregate_in (first_token tokens)) (whole_expr tokens) (λ f. behind_symbol symbol.Open (argument f) (after_first tokens))

  -- an expression, or an aggregate too
  abbrev pub operand : Bool → Parser ExprTree
  operand true = value
  operand false = whole_expr

-- ## Conditions over operands

-- a condition after AND or OR
abbrev pub both_of : Builder → Keyword → CondTree → CondTree → CondTree
both_of build and left right = build.both left right

abbrev pub either_of : Builder → Keyword → CondTree → CondTree → CondTree
either_of build or left right = build.either left right

-- a member of an IN list, joined to those before it
abbrev pub or_member : Builder → ExprTree → Symbol → CondTree → ExprTree → CondTree
or_member build of s so_far member = build.either so_far (Compare compare.Eq of member)

-- the negation of a condition that is found
abbrev pub denied : CondTree × List Token → Found CondTree
denied found = Some (Negation found.0, found.1)

-- [NOT] NULL, after `e IS`
unfoldable pub null_test : ExprTree → Parser CondTree
null_test of tokens =
    if is_key word.Not (first_token tokens) then behind_key word.Null (λ rest. Some (Negation (IsNull of), rest)) (after_first tokens)
    else behind_key word.Null (λ rest. Some (IsNull of, rest)) tokens

module _ (build : Builder) (operand : Parser ExprTree) where
  -- what follows `e BETWEEN`
  unfoldable pub within : ExprTree → Parser CondTree
  within of tokens =
      then_read (operand tokens) (λ low.
      behind_key word.And (λ tokens. then_read (operand tokens) (λ high. Some (Within of low.0 high.0, high.1))) low.1)

  -- the members of an IN list
  unfoldable pub members : ExprTree → Parser CondTree
  members of tokens = then_read (operand tokens) (λ first. chain comma_in (or_member build of) operand (length first.1) (Compare compare.Eq of first.0) first.1)

  -- what follows `e IN`
  unfoldable pub listed : ExprTree → Parser CondTree
  listed of = behind_symbol symbol.Open (λ tokens. then_read (members of tokens) closed)

  -- BETWEEN or IN, after its operand
  abbrev pub range_at : ExprTree → Option Token → Parser CondTree
  range_at of (Some (Key word.Between)) rest = within of rest
  range_at of (Some (Key word.In)) rest = listed of rest
  range_at of other rest = None

  -- [NOT] BETWEEN or IN, after its operand
  unfoldable pub range : ExprTree → Parser CondTree
  range of tokens =
      if is_key word.Not (first_token tokens) then then_read (range_at of (first_token (after_first tokens)) (after_first (after_first tokens))) denied
      else range_at of (first_token tokens) (after_first tokens)

  -- a test that begins with a word, after its operand
  unfoldable pub word_test : ExprTree → Parser CondTree
  word_test of tokens = if is_key word.Is (first_token tokens) then null_test of (after_first tokens) else range of tokens

  -- what follows a test's first operand
  unfoldable pub test_behind : ExprTree → Parser CondTree
  test_behind of tokens =
      given (comparison_in (first_token tokens)) (word_test of tokens) (λ op. then_read (operand (after_first tokens)) (λ right. Some (Compare op of right.0, right.1)))

  -- test = e cmp e | e [NOT] BETWEEN e AND e | e [NOT] IN "(" e {"," e} ")" | e IS [NOT] NULL
  unfoldable pub any_test : Parser CondTree
  any_test tokens = then_read (operand tokens) (λ of. test_behind of.0 of.1)

module _ (build : Builder) where
  -- the rest of a conjunction after its first unit
  abbrev pub conjunction_after : Parser CondTree → CondTree → Parser CondTree
  conjunction_after unit first tokens = chain and_in (both_of build) unit (length tokens) first tokens

  -- conj = unit {AND unit}
  unfoldable pub conjunction : Parser CondTree → Parser CondTree
  conjunction unit tokens = then_read (unit tokens) (λ first. conjunction_after unit first.0 first.1)

  -- the rest of a condition after its first unit
  unfoldable pub condition_after : Parser CondTree → CondTree → Parser CondTree
  condition_after unit first tokens =
      then_read (conjunction_after unit first tokens) (λ first. chain or_in (either_of build) (conjunction unit) (length first.1) first.0 first.1)

  -- cond = conj {OR conj}
  unfoldable pub condition : Parser CondTree → Parser CondTree
  condition unit tokens = then_read (conjunction unit tokens) (λ first. chain or_in (either_of build) (conjunction unit) (length first.1) first.0 first.1)

  -- the rest of a condition after its first unit, and the `)` after it
  abbrev pub closed_condition : Parser CondTree → CondTree → Parser CondTree
  closed_condition unit first tokens = then_read (condition_after unit first tokens) closed

  -- what follows a `(`, with its `)`: an expression, or a condition
  abbrev pub operand_inside : Parser ExprTree
  operand_inside tokens = then_read (whole_expr build tokens) closed

  abbrev pub condition_inside : Parser CondTree → Parser CondTree
  condition_inside unit tokens = then_read (condition unit tokens) closed

  -- an expression after a `(`, of so many levels and after its first factor, and its `)`
  abbrev pub operand_from : ℕ → ExprTree → Parser ExprTree
  operand_from levels first tokens = then_read (expr_after build (factor build levels) first tokens) closed

  -- "(" cond ")"
  unfoldable pub enclosed : Parser CondTree → Parser CondTree
  enclosed unit = behind_symbol symbol.Open (λ tokens. then_read (condition unit tokens) closed)

  module _ (operand : Parser ExprTree) where
    -- unit = NOT unit | test | "(" cond ")": what is no test may be a condition in parentheses
    abbrev pub unit_of : Parser CondTree → Parser CondTree
    unit_of inner tokens =
        if is_key word.Not (first_token tokens) then then_read (inner (after_first tokens)) denied
        else or_read (any_test build operand tokens) (enclosed inner tokens)

    -- a unit of so many levels at most
    unfoldable pub unit : ℕ → Parser CondTree
    unit zero tokens = None
    unit (suc n) tokens = unit_of (unit n) tokens

    -- a test whose first operand has so many levels and begins with a factor that was read
    unfoldable pub test_from : ℕ → ExprTree → Parser CondTree
    test_from levels first tokens = then_read (expr_after build (factor build levels) first tokens) (λ of. test_behind build operand of.0 of.1)

    -- a condition after a `(` whose first unit is such a test, and its `)`
    abbrev pub condition_from : Parser CondTree → ℕ → ExprTree → Parser CondTree
    condition_from unit levels first tokens =
        then_read (test_from levels first tokens) (λ (found : CondTree × List Token). closed_condition unit found.0 found.1)

    -- a condition, with as many levels as there are tokens
    unfoldable pub whole_cond : Parser CondTree
    whole_cond tokens = condition (unit (length tokens)) tokens
