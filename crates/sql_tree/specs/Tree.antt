-- Statements as plain data, without the pointers by which the code keeps them, and how each type of the
-- code is seen as that.
use Rattle.std.specs.Prelude.{ℕ, List, Bool, map, Option}
use Rattle.std.specs.Option.{option_map}
use Rattle.cell_core.specs.declared.cell.Cell.{Cell}
use Rattle.cell_core.specs.declared.table.Column.{Column}
use Rattle.sql_tree.specs.declared.tree.AggOp.{AggOp}
use Rattle.sql_tree.specs.declared.tree.ArithOp.{ArithOp}
use Rattle.sql_tree.specs.declared.tree.CmpOp.{CmpOp}
use Rattle.sql_tree.specs.declared.tree.ColRef.{ColRef}
use Rattle.sql_tree.specs.declared.tree.Cond.{Cond}
use Rattle.sql_tree.specs.declared.tree.Cond as cond
use Rattle.sql_tree.specs.declared.tree.Expr.{Expr}
use Rattle.sql_tree.specs.declared.tree.Expr as expr
use Rattle.sql_tree.specs.declared.tree.FromItem.{FromItem}
use Rattle.sql_tree.specs.declared.tree.Item.{Item}
use Rattle.sql_tree.specs.declared.tree.Query.{Query}
use Rattle.sql_tree.specs.declared.tree.SortKey.{SortKey}
use Rattle.sql_tree.specs.declared.tree.Stmt.{Stmt}
use Rattle.sql_tree.specs.declared.tree.Stmt.TheVariants as stmt

-- an expression: a literal, a column, an operator, an aggregate of all rows, an aggregate of a value
pub data ExprTree : Type 0 where
  Literal : Cell → ExprTree
  ColumnOf : ColRef → ExprTree
  Operator : ArithOp → ExprTree → ExprTree → ExprTree
  AggregateAll : AggOp → ExprTree
  Aggregate : AggOp → ExprTree → ExprTree

-- a condition
pub data CondTree : Type 0 where
  Compare : CmpOp → ExprTree → ExprTree → CondTree
  Within : ExprTree → ExprTree → ExprTree → CondTree
  IsNull : ExprTree → CondTree
  Negation : CondTree → CondTree
  Both : CondTree → CondTree → CondTree
  Either : CondTree → CondTree → CondTree

-- an item of a query
pub record ItemTree : Type 0 where
  pub expr : ExprTree
  pub alias : Option (List ℕ)

-- a query
pub record QueryTree : Type 0 where
  pub distinct : Bool
  pub items : List ItemTree
  pub froms : List FromItem
  pub cond : Option CondTree
  pub groups : List ColRef
  pub having : Option CondTree
  pub keys : List SortKey
  pub limit : Option ℕ

-- a statement
pub data StmtTree : Type 0 where
  CreateTable : List ℕ → List Column → StmtTree
  DropTable : List ℕ → StmtTree
  AlterTable : List ℕ → Column → StmtTree
  InsertInto : List ℕ → List (List ℕ) → List (List Cell) → StmtTree
  DeleteFrom : List ℕ → Option CondTree → StmtTree
  UpdateTable : List ℕ → List (List ℕ × ExprTree) → Option CondTree → StmtTree
  Select : QueryTree → StmtTree
  ExplainSelect : QueryTree → StmtTree

-- ## The code's types

abbrev mutual
  pub expr_tree : Expr → ExprTree
  expr_tree (expr.Lit literal) = Literal literal
  expr_tree (expr.Col column) = ColumnOf column
  expr_tree (expr.Arith' op p left q right) = Operator op (expr_tree left) (expr_tree right)
  expr_tree (expr.Agg' f of) = aggregate_tree f of

  pub aggregate_tree : AggOp → expr.Held-Expr-Agg-1 → ExprTree
  aggregate_tree f expr.None' = AggregateAll f
  aggregate_tree f (expr.Some' p of) = Aggregate f (expr_tree of)

abbrev pub cond_tree : Cond → CondTree
cond_tree (cond.Cmp op left right) = Compare op (expr_tree left) (expr_tree right)
cond_tree (cond.Between of low high) = Within (expr_tree of) (expr_tree low) (expr_tree high)
cond_tree (cond.IsNull of) = IsNull (expr_tree of)
cond_tree (cond.Not' p c) = Negation (cond_tree c)
cond_tree (cond.And' p left q right) = Both (cond_tree left) (cond_tree right)
cond_tree (cond.Or' p left q right) = Either (cond_tree left) (cond_tree right)

abbrev pub item_tree : Item → ItemTree
item_tree item = record { expr = expr_tree item.expr; alias = item.alias }

abbrev pub query_tree : Query → QueryTree
query_tree query = record {
  distinct = query.distinct;
  items = map item_tree query.items;
  froms = query.froms;
  cond = option_map cond_tree query.cond;
  groups = query.groups;
  having = option_map cond_tree query.having;
  keys = query.keys;
  limit = query.limit;
}

abbrev pub set_tree : List ℕ × Expr → List ℕ × ExprTree
set_tree set = (set.0, expr_tree set.1)

abbrev pub stmt_tree : Stmt → StmtTree
stmt_tree (stmt.Create table columns) = CreateTable table columns
stmt_tree (stmt.Drop table) = DropTable table
stmt_tree (stmt.Alter table column) = AlterTable table column
stmt_tree (stmt.Insert table columns rows) = InsertInto table columns rows
stmt_tree (stmt.Delete table cond) = DeleteFrom table (option_map cond_tree cond)
stmt_tree (stmt.Update table sets cond) = UpdateTable table (map set_tree sets) (option_map cond_tree cond)
stmt_tree (stmt.Query query) = Select (query_tree query)
stmt_tree (stmt.Explain query) = ExplainSelect (query_tree query)
