-- Plain expressions, which have no aggregate and whose cells literals can write, and what is built of them.
use Rattle.std.specs.Prelude.{◌≡◌, ℕ, List, IsTrue}
use Rattle.cell_core.specs.Calc.{fits_int}
use Rattle.cell_core.specs.Day.{IsDayText, day_in}
use Rattle.cell_core.specs.declared.cell.Cell.{Cell}
use Rattle.cell_core.specs.declared.cell.Cell.TheVariants as cell
use Rattle.sql_tree.specs.Tree.{ExprTree, CondTree}
use Rattle.sql_tree.specs.Tree.ExprTree.{Literal, ColumnOf, Operator, AggregateAll, Aggregate}
use Rattle.sql_tree.specs.declared.tree.AggOp.TheVariants as aggregate
use Rattle.sql_tree.specs.Tree.CondTree.{Compare, Within, IsNull, Negation, Both, Either}

-- a cell that a literal can write
abbrev pub IsLiteral : Cell → Type 0
IsLiteral cell.Nil = Unit {0}
IsLiteral (cell.Int n) = IsTrue (fits_int n)
IsLiteral (cell.Text text) = Unit {0}
IsLiteral (cell.Day day) = (text : List ℕ) × IsDayText text × (day_in text ≡ day)
IsLiteral other = ⊥

-- an expression without aggregates, whose cells literals can write
abbrev pub IsPlain : ExprTree → Type 0
IsPlain (Literal literal) = IsLiteral literal
IsPlain (ColumnOf column) = Unit {0}
IsPlain (Operator op left right) = IsPlain left × IsPlain right
IsPlain (AggregateAll f) = ⊥
IsPlain (Aggregate f of) = ⊥

-- a condition whose operands are all of a form
abbrev pub IsCondOver : (ExprTree → Type 0) → CondTree → Type 0
IsCondOver HasForm (Compare op left right) = HasForm left × HasForm right
IsCondOver HasForm (Within of low high) = HasForm of × HasForm low × HasForm high
IsCondOver HasForm (IsNull of) = HasForm of
IsCondOver HasForm (Negation cond) = IsCondOver HasForm cond
IsCondOver HasForm (Both left right) = IsCondOver HasForm left × IsCondOver HasForm right
IsCondOver HasForm (Either left right) = IsCondOver HasForm left × IsCondOver HasForm right

-- a condition over plain expressions
abbrev pub IsPlainCond : CondTree → Type 0
IsPlainCond = IsCondOver IsPlain

-- a plain expression, or an aggregate of one: what an item is, and an operand of HAVING
abbrev pub IsValue : ExprTree → Type 0
IsValue (Literal literal) = IsPlain (Literal literal)
IsValue (ColumnOf column) = IsPlain (ColumnOf column)
IsValue (Operator op left right) = IsPlain (Operator op left right)
IsValue (AggregateAll f) = f ≡ aggregate.Count
IsValue (Aggregate f of) = IsPlain of

-- a condition over such values
abbrev pub IsValueCond : CondTree → Type 0
IsValueCond = IsCondOver IsValue
