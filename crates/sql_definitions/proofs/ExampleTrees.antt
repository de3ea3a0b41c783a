-- Short names for the trees of the examples.
use Rattle.std.proofs.Common.{ℕ, List, [], ◌∷◌, false, Some, None, pos, codes}
use Rattle.std.specs.Prelude.{Option}
use Rattle.cell_core.specs.declared.cell.Cell.{Cell}
use Rattle.cell_core.specs.declared.cell.Cell.TheVariants as cell
use Rattle.cell_core.specs.declared.cell.Kind.{Kind}
use Rattle.cell_core.specs.declared.cell.Kind.TheVariants as kind
use Rattle.cell_core.specs.declared.table.Column.{Column}
use Rattle.sql_tree.specs.Tree.{ExprTree, CondTree, ItemTree, QueryTree, StmtTree}
use Rattle.sql_tree.specs.Tree.ExprTree.{Literal, ColumnOf}
use Rattle.sql_tree.specs.Tree.StmtTree.{CreateTable, InsertInto}
use Rattle.sql_tree.specs.declared.tree.FromItem.{FromItem}

abbrev pub int : ℕ → Cell
int n = cell.Int (pos n)

abbrev pub column : List ℕ → Kind → Column
column name k = record { name = name; kind = k; width = 0; not_null = false; default = cell.Nil }

abbrev pub number : ℕ → ExprTree
number n = Literal (int n)

-- a column by its name alone, and after a FROM name
abbrev pub col : List ℕ → ExprTree
col name = ColumnOf (record { table = None; column = name })

abbrev pub col_of : List ℕ → List ℕ → ExprTree
col_of table name = ColumnOf (record { table = Some table; column = name })

abbrev pub item : ExprTree → ItemTree
item expr = record { expr = expr; alias = None }

abbrev pub from : List ℕ → FromItem
from table = record { table = table; alias = None }

-- SELECT .. FROM .. WHERE ..
abbrev pub select : List ItemTree → List FromItem → Option CondTree → QueryTree
select items froms cond = record {
  distinct = false;
  items = items;
  froms = froms;
  cond = cond;
  groups = [];
  having = None;
  keys = [];
  limit = None;
}

-- the table t with the one column a
abbrev pub create_t : StmtTree
create_t = CreateTable (codes "t") (column (codes "a") kind.Int ∷ [])

abbrev pub insert : List ℕ → List (List Cell) → StmtTree
insert table rows = InsertInto table [] rows

-- SELECT a FROM t WHERE ..
abbrev pub a_where : CondTree → QueryTree
a_where cond = select (item (col (codes "a")) ∷ []) (from (codes "t") ∷ []) (Some cond)
