-- Formed statements: what holds of each statement that reading returns, whatever its text.
use Rattle.std.specs.Prelude.{◌≡◌, ◌≢◌, ℕ, List, [], Option, Some, None}
use Rattle.std.specs.List.{AllByRecursion}
use Rattle.cell_core.specs.declared.cell.Kind.{Kind}
use Rattle.cell_core.specs.declared.cell.Kind.TheVariants as kind
use Rattle.cell_core.specs.declared.table.Column.{Column}
use Rattle.sql_grammar.specs.Refused.{left_out, tree_limits, first_passed}
use Rattle.sql_grammar.specs.Written.{IsLiteral, IsPlain, IsPlainCond, IsValue, IsValueCond}
use Rattle.sql_tree.specs.Tree.{ExprTree, CondTree, ItemTree, QueryTree, StmtTree}
use Rattle.sql_tree.specs.Tree.StmtTree.{CreateTable, DropTable, AlterTable, InsertInto, DeleteFrom, UpdateTable, Select, ExplainSelect}

-- what holds of a condition, where there is one
abbrev pub IfWritten : (CondTree → Type 0) → Option CondTree → Type 0
IfWritten Holds None = Unit {0}
IfWritten Holds (Some cond) = Holds cond

-- the kinds of columns that can be written
abbrev pub IsColumnKind : Kind → Type 0
IsColumnKind kind.Int = Unit {0}
IsColumnKind kind.Text = Unit {0}
IsColumnKind kind.Day = Unit {0}
IsColumnKind other = ⊥

pub record IsShapedColumn (column : Column) : Type 0 where
  pub kind : IsColumnKind column.kind
  pub default : IsLiteral column.default

pub record IsShapedQuery (query : QueryTree) : Type 0 where
  pub froms : query.froms ≢ []
  pub items : AllByRecursion (λ (item : ItemTree). IsValue item.expr) query.items
  pub cond : IfWritten IsPlainCond query.cond
  pub having : IfWritten IsValueCond query.having

-- the parts of a statement have forms that can be written: a table has a column, an INSERT a row, a row a cell,
-- an UPDATE a change, a query a source; aggregates occur only at the top of items and of operands of HAVING; each
-- cell is one that a literal can write
abbrev pub IsShaped : StmtTree → Type 0
IsShaped (CreateTable table columns) = (columns ≢ []) × AllByRecursion IsShapedColumn columns
IsShaped (DropTable table) = Unit {0}
IsShaped (AlterTable table column) = IsShapedColumn column
IsShaped (InsertInto table columns rows) = (rows ≢ []) × AllByRecursion (λ row. (row ≢ []) × AllByRecursion IsLiteral row) rows
IsShaped (DeleteFrom table cond) = IfWritten IsPlainCond cond
IsShaped (UpdateTable table sets cond) = (sets ≢ []) × AllByRecursion (λ (set : List ℕ × ExprTree). IsPlain set.1) sets × IfWritten IsPlainCond cond
IsShaped (Select query) = IsShapedQuery query
IsShaped (ExplainSelect query) = IsShapedQuery query

-- the parts have these forms; nothing is left out, so no condition has an operator over a column; and no limit is
-- passed that depends on the tree alone
pub record IsFormed (statement : StmtTree) : Type 0 where
  pub shaped : IsShaped statement
  pub kept : left_out statement ≡ None
  pub within : first_passed (tree_limits statement) ≡ None
