-- A statement whose cells, expressions, conditions and numbers are replaced, each by a function of it.
use Rattle.std.specs.Prelude.{ℕ, List, map}
use Rattle.std.specs.Option.{option_map}
use Rattle.cell_core.specs.declared.cell.Cell.{Cell}
use Rattle.cell_core.specs.declared.table.Column.{Column}
use Rattle.sql_tree.specs.Tree.{ExprTree, CondTree, ItemTree, QueryTree, StmtTree}
use Rattle.sql_tree.specs.Tree.StmtTree.{CreateTable, DropTable, AlterTable, InsertInto, DeleteFrom, UpdateTable, Select, ExplainSelect}
use Rattle.sql_tree.specs.declared.tree.Place.{Place}
use Rattle.sql_tree.specs.declared.tree.Place.TheVariants.{Position, Named}
use Rattle.sql_tree.specs.declared.tree.SortKey.{SortKey}

-- its default, and the length of its texts
abbrev pub column_mapped : (Cell → Cell) → (ℕ → ℕ) → Column → Column
column_mapped cell width column = record { name = column.name; kind = column.kind; width = width column.width; not_null = column.not_null; default = cell column.default }

abbrev pub place_mapped : (ℕ → ℕ) → Place → Place
place_mapped number (Position n) = Position (number n)
place_mapped number (Named column) = Named column

abbrev pub key_mapped : (ℕ → ℕ) → SortKey → SortKey
key_mapped number key = record { at = place_mapped number key.at; ascending = key.ascending }

abbrev pub item_mapped : (ExprTree → ExprTree) → ItemTree → ItemTree
item_mapped expr item = record { expr = expr item.expr; alias = item.alias }

abbrev pub set_mapped : (ExprTree → ExprTree) → List ℕ × ExprTree → List ℕ × ExprTree
set_mapped expr set = (set.0, expr set.1)

-- its positions and its LIMIT are numbers
abbrev pub query_mapped : (ExprTree → ExprTree) → (CondTree → CondTree) → (ℕ → ℕ) → QueryTree → QueryTree
query_mapped expr cond number query = record {
  distinct = query.distinct;
  items = map (item_mapped expr) query.items;
  froms = query.froms;
  cond = option_map cond query.cond;
  groups = query.groups;
  having = option_map cond query.having;
  keys = map (key_mapped number) query.keys;
  limit = option_map number query.limit;
}

abbrev pub stmt_mapped : (Cell → Cell) → (ExprTree → ExprTree) → (CondTree → CondTree) → (ℕ → ℕ) → (ℕ → ℕ) → StmtTree → StmtTree
stmt_mapped cell expr cond number width (CreateTable table columns) = CreateTable table (map (column_mapped cell width) columns)
stmt_mapped cell expr cond number width (DropTable table) = DropTable table
stmt_mapped cell expr cond number width (AlterTable table column) = AlterTable table (column_mapped cell width column)
stmt_mapped cell expr cond number width (InsertInto table columns rows) = InsertInto table columns (map (map cell) rows)
stmt_mapped cell expr cond number width (DeleteFrom table condition) = DeleteFrom table (option_map cond condition)
stmt_mapped cell expr cond number width (UpdateTable table sets condition) = UpdateTable table (map (set_mapped expr) sets) (option_map cond condition)
stmt_mapped cell expr cond number width (Select query) = Select (query_mapped expr cond number query)
stmt_mapped cell expr cond number width (ExplainSelect query) = ExplainSelect (query_mapped expr cond number query)
