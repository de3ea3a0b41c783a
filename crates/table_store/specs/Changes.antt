-- Prepared changes, and the content after them.
use Rattle.std.specs.Prelude.{◌≡◌, ℕ, List, ◌++◌, [], ◌∷◌, map, filter, not, bytes_eq, false, IsTrue}
use Rattle.std.specs.Option.{option_map_or}
use Rattle.cell_core.specs.declared.cell.Cell.{Cell}
use Rattle.cell_core.specs.declared.table.Column.{Column}
use Rattle.cell_core.specs.declared.table.Table.{Table}
use Rattle.cell_core.specs.declared.table.Db.{Db}
use Rattle.cell_core.specs.Tables.{named_table, names_differ, with_column, with_new_rows}
use Rattle.pool_policy.specs.declared.touched.Touched.{Touched}
use Rattle.table_store.specs.Content.{Content, version_of}
use Rattle.pool_policy.specs.Versions.{is_of}

-- a prepared change: the content after it, with the versions from before, and what it touches
pub record Prepared : Type 0 where
  pub content : Content
  pub touched : Touched

-- a change was prepared on this content: columns that it doesn't touch have the versions that they had
pub record IsPrepared (change : Prepared) (content : Content) : Type 0 where
  pub others : (table column : List ℕ) → is_of change.touched table column ≡ false → version_of table column change.content ≡ version_of table column content

-- a table without rows, after the others
abbrev pub with_table : List ℕ → List Column → Db → Db
with_table name columns db = record { tables = db.tables ++ record { name = name; columns = columns; rows = [] } ∷ [] }

-- the tables that don't have this name
abbrev pub without_table : List ℕ → Db → Db
without_table name db = record { tables = filter (λ (table : Table). not (bytes_eq table.name name)) db.tables }

-- ## A table that changes

abbrev pub NamesDiffer : Db → Type 0
NamesDiffer db = IsTrue (names_differ (map (λ (table : Table). table.name) db.tables))

-- the columns and the rows of a table, none where it doesn't exist
abbrev pub columns_of : List ℕ → Db → List Column
columns_of name db = option_map_or (λ (table : Table). table.columns) (named_table name db) []

abbrev pub rows_of : List ℕ → Db → List (List Cell)
rows_of name db = option_map_or (λ (table : Table). table.rows) (named_table name db) []

abbrev pub with_rows : List ℕ → List (List Cell) → Db → Db
with_rows name rows db = record { tables = map (with_new_rows name rows) db.tables }

abbrev pub with_last_column : List ℕ → Column → Db → Db
with_last_column name column db = record { tables = map (with_column name column) db.tables }
