-- Expressions, read level by level.
use Rattle.std.specs.Prelude.{List, reverse, map, Option, Some, None, pos}
use Rattle.read_laws.specs.Bounded.{Builder, bounded}
use Rattle.read_laws.specs.Chain.{Found, Parser, first_token, given}
use Rattle.read_laws.specs.ExprReader.{sign_in, star_in, digits_in, name_in, factor}
use Rattle.read_laws.specs.StmtReader.{column, literal}
use Rattle.cell_core.specs.declared.cell.Cell.{Cell}
use Rattle.sql_tree.specs.Tree.{ExprTree, expr_tree}
use Rattle.sql_tree.specs.Tree.ExprTree.{Literal, ColumnOf}
use Rattle.sql_tree.specs.declared.token.Symbol.TheVariants as symbol
use Rattle.sql_tree.specs.declared.token.Token.{Token}
use Rattle.sql_tree.specs.declared.token.Token.TheVariants as token
use Rattle.sql_tree.specs.declared.tree.ArithOp.{ArithOp}
use Rattle.sql_tree.specs.declared.tree.ArithOp.TheVariants as arith
use Rattle.sql_tree.specs.declared.tree.ColRef.{ColRef}
use Rattle.sql_tree.specs.declared.tree.Expr.{Expr}
use Rattle.text_bytes.specs.Found.{then_read}
use Rattle.audit_exprs.specs.Between.{Rules, Waits, Next, GoesOn, Stops}
use Rattle.audit_exprs.specs.Between.Next.{Wanted, Was, Done}
use Rattle.audit_exprs.specs.declared.openings.Opening.{Opening}
use Rattle.audit_exprs.specs.declared.openings.Opening.TheVariants as opening_of
use Rattle.audit_exprs.specs.declared.level.ExprLevel.{ExprLevel}
use Rattle.audit_exprs.specs.declared.exprs.ExprLevels.{ExprLevels}
use Rattle.audit_exprs.specs.declared.exprs.ExprStep.{ExprStep}
use Rattle.audit_exprs.specs.declared.exprs.ExprStep.TheVariants as step

-- what opens a factor of several parts: a `-` that is no digits' sign, and a `(`
abbrev pub expr_opening : Option Token → List Token → Option Opening
expr_opening (Some (token.Symbol symbol.Minus)) rest = given (digits_in (first_token rest)) (Some opening_of.Prefix) (λ _. None)
expr_opening (Some (token.Symbol symbol.Open)) rest = Some opening_of.Parenthesis
expr_opening other rest = None

module _ (build : Builder) where
  abbrev pub literal_found : Cell × List Token → Found ExprTree
  literal_found cell = Some (Literal cell.0, cell.1)

  abbrev pub column_found : ColRef × List Token → Found ExprTree
  column_found column = Some (ColumnOf column.0, column.1)

  -- a factor of one part: a column, or a literal
  unfoldable pub atom : Parser ExprTree
  atom tokens = given (name_in (first_token tokens)) (then_read (literal build tokens) literal_found) (λ _. then_read (column tokens) column_found)

  -- a factor after a `-`
  abbrev pub minus : ExprTree → ExprTree
  minus f = build.operator arith.Minus (Literal (build.number (pos 0))) f

  abbrev pub expr_rules : Rules ExprTree ArithOp ArithOp
  expr_rules = record {
    near = star_in;
    near_join = build.operator;
    far = sign_in;
    far_join = build.operator;
    prefix = minus;
    part = factor build;
  }

  -- a factor after the left side of its `*`
  abbrev pub times : Option Expr → ExprTree → ExprTree
  times None f = f
  times (Some left) f = build.operator arith.Times (expr_tree left) f

  -- a term after the left side of its `+` or `-`
  abbrev pub added : Option (ArithOp × Expr) → ExprTree → ExprTree
  added None t = t
  added (Some left) t = build.operator left.0 (expr_tree left.1) t

-- ## The levels of the code

abbrev pub expr_waits : ExprLevel → Waits ExprTree
expr_waits level = record { prefixes = level.minuses; near = times bounded level.product; far = added bounded level.sum }

abbrev pub exprs_wait : List ExprLevel → List (Waits ExprTree)
exprs_wait outer = map expr_waits (reverse outer)

abbrev pub expr_next : ExprStep → Next ExprTree
expr_next step.Factor = Wanted
expr_next (step.Was e) = Was (expr_tree e)
expr_next (step.Done e) = Done (expr_tree e)

abbrev pub ExprGoesOn : ExprLevels → ExprStep → List Token → ExprLevels → ExprStep → List Token → Type 0
ExprGoesOn old from tokens new to rest = GoesOn (expr_rules bounded) (expr_waits old.level) (exprs_wait old.outer.items) (expr_next from) tokens (expr_waits new.level) (exprs_wait new.outer.items) (expr_next to) rest

abbrev pub ExprStops : ExprLevels → ExprStep → List Token → Type 0
ExprStops old from tokens = Stops (expr_rules bounded) (expr_waits old.level) (exprs_wait old.outer.items) (expr_next from) tokens
