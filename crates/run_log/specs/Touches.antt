-- What an accepted write touches.
use Rattle.std.specs.Prelude.{ℕ, List, [], ◌∷◌, map, Option, Some, None}
use Rattle.cell_core.specs.declared.table.Column.{Column}
use Rattle.cell_core.specs.declared.table.Db.{Db}
use Rattle.cell_core.specs.Pairs.{Pairs}
use Rattle.cell_core.specs.Tables.{all_columns, row_count}
use Rattle.mal_meaning.specs.Meaning.{column_pairs}
use Rattle.sql_tree.specs.Tree.{ExprTree, StmtTree}
use Rattle.sql_tree.specs.Tree.StmtTree.{CreateTable, DropTable, AlterTable, InsertInto, DeleteFrom, UpdateTable}
use Rattle.sql_definitions.specs.Effect.{effect}
use Rattle.pool_policy.specs.declared.touched.Touched.{Touched}

-- each column of a table with its name, its cells beside the numbers of their rows
abbrev pub whole_columns : List ℕ → Db → List (List ℕ × Pairs)
whole_columns table db = map (λ (name : List ℕ). (name, column_pairs table name db)) (all_columns table db)

-- columns of a table, as it is before the write; those that an INSERT added to are beside their names
abbrev pub touching : List ℕ → Db → List (List ℕ) → Option (List (List ℕ × Pairs)) → Touched
touching table db columns added = record { table = table; columns = columns; old_rows = row_count table db; added = added }

-- what an accepted write touches: CREATE, DROP, INSERT and DELETE all columns of their table, an UPDATE those that it sets, an ALTER the one that it adds
abbrev pub touched_by : StmtTree → Db → Touched
touched_by (CreateTable table columns) db = touching table db (map (λ (c : Column). c.name) columns) None
touched_by (DropTable table) db = touching table db (all_columns table db) None
touched_by (AlterTable table column) db = touching table db (column.name ∷ []) None
touched_by (InsertInto table listed rows) db = touching table db (all_columns table db) (Some (whole_columns table (effect (InsertInto table listed rows) db).0))
touched_by (DeleteFrom table condition) db = touching table db (all_columns table db) None
touched_by (UpdateTable table sets condition) db = touching table db (map (λ (set : List ℕ × ExprTree). set.0) sets) None
touched_by _ db = touching [] db [] None
