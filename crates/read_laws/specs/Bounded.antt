-- How a reader keeps what it reads. A number of more than 64 bits becomes a Huge, which no literal
-- writes. An expression of more than 64 nodes and a condition of more than 128 are past their
-- limits, and grow no further. Of what else belongs to them only signs are kept, for what is asked
-- of a statement later: whether it has a column, a Huge, or arithmetic over columns.
use Rattle.std.specs.Prelude.{[], Bool, not, ◌&&◌, nat_lt, if◌then◌else◌, None, ℤ}
use Rattle.std.specs.List.{list_any}
use Rattle.cell_core.specs.declared.cell.Cell.{Cell}
use Rattle.cell_core.specs.declared.cell.Cell.TheVariants as cell
use Rattle.sql_tree.specs.Exprs.{cond_exprs}
use Rattle.sql_grammar.specs.Refused.{expr_nodes, cond_nodes, has_column, has_column_arithmetic, is_out_of_range}
use Rattle.read_laws.specs.Unread.{has_literal, unread_cell, is_unread_cell}
use Rattle.sql_tree.specs.Tree.{ExprTree, CondTree}
use Rattle.sql_tree.specs.Tree.ExprTree.{Literal, ColumnOf, Operator}
use Rattle.sql_tree.specs.Tree.CondTree.{Compare, IsNull, Both, Either}
use Rattle.sql_tree.specs.declared.tree.ArithOp.{ArithOp}
use Rattle.sql_tree.specs.declared.tree.ArithOp.TheVariants as arith
use Rattle.sql_tree.specs.declared.tree.CmpOp.TheVariants as compare

-- how a reader keeps numbers, an operator of two expressions, and two conditions joined by AND or OR
pub record Builder : Type 0 where
  pub number : ℤ → Cell
  pub operator : ArithOp → ExprTree → ExprTree → ExprTree
  pub both : CondTree → CondTree → CondTree
  pub either : CondTree → CondTree → CondTree

-- all as it is written
abbrev pub as_written : Builder
as_written = record { number = cell.Int; operator = Operator; both = Both; either = Either }

-- a number of 64 bits as it is; any other as a Huge, which no literal writes
abbrev pub number_cell : ℤ → Cell
number_cell n = if is_out_of_range n then unread_cell else cell.Int n

-- ## Expressions

-- a column without a name, which no text has
abbrev pub some_column : ExprTree
some_column = ColumnOf (record { table = None; column = [] })

-- a literal of the expression could not be read
abbrev pub has_unread : ExprTree → Bool
has_unread expr = has_literal is_unread_cell expr

-- the expression, with a column where only the other has one
abbrev pub with_column : ExprTree → ExprTree → ExprTree
with_column other expr = if has_column other && not (has_column expr) then Operator arith.Plus expr some_column else expr

-- the expression, with a Huge where only the other has a literal that could not be read
abbrev pub with_unread : ExprTree → ExprTree → ExprTree
with_unread other expr = if has_unread other && not (has_unread expr) then Operator arith.Plus expr (Literal unread_cell) else expr

-- the expression, with a sign of each of these that only the other has
abbrev pub with_signs : ExprTree → ExprTree → ExprTree
with_signs other expr = with_unread other (with_column other expr)

-- an operator of two expressions; where one of them is past the limit of 64 nodes, that one with signs of the other
abbrev pub bounded_operator : ArithOp → ExprTree → ExprTree → ExprTree
bounded_operator op left right =
    if nat_lt 64 (expr_nodes left) then with_signs right left
    else (if nat_lt 64 (expr_nodes right) then with_signs left right else Operator op left right)

-- ## Conditions

-- a literal of the condition could not be read
abbrev pub cond_has_unread : CondTree → Bool
cond_has_unread cond = list_any has_unread (cond_exprs cond)

-- the condition, with arithmetic over columns where only the other has that
abbrev pub with_arithmetic : CondTree → CondTree → CondTree
with_arithmetic other cond =
    if has_column_arithmetic other && not (has_column_arithmetic cond)
    then Both cond (Compare compare.Eq (Operator arith.Plus some_column some_column) some_column) else cond

-- the condition, with a Huge where only the other has a literal that could not be read
abbrev pub with_unread_test : CondTree → CondTree → CondTree
with_unread_test other cond =
    if cond_has_unread other && not (cond_has_unread cond)
    then Both cond (IsNull (Literal unread_cell)) else cond

-- the condition, with a sign of each of these that only the other has
abbrev pub with_cond_signs : CondTree → CondTree → CondTree
with_cond_signs other cond = with_unread_test other (with_arithmetic other cond)

-- two conditions joined; where one of them is past the limit of 128 nodes, that one with signs of the other
abbrev pub bounded_join : (CondTree → CondTree → CondTree) → CondTree → CondTree → CondTree
bounded_join join left right =
    if nat_lt 128 (cond_nodes left) then with_cond_signs right left
    else (if nat_lt 128 (cond_nodes right) then with_cond_signs left right else join left right)

-- numbers of 64 bits, expressions of 64 nodes and conditions of 128 as they are written
abbrev pub bounded : Builder
bounded = record { number = number_cell; operator = bounded_operator; both = bounded_join Both; either = bounded_join Either }
