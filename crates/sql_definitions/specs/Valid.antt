-- Which databases are valid: those that statements lead to.
use Rattle.std.specs.Prelude.{ℕ, List, [], ◌∷◌, length, map, Bool, true, false, not, ◌&&◌, ◌==◌, Some, IsTrue}
use Rattle.std.specs.List.{list_all}
use Rattle.cell_core.specs.declared.cell.Cell.{Cell}
use Rattle.cell_core.specs.declared.cell.Kind.{Kind}
use Rattle.cell_core.specs.declared.cell.Kind.TheVariants as kind
use Rattle.cell_core.specs.declared.table.Column.{Column}
use Rattle.cell_core.specs.declared.table.Table.{Table}
use Rattle.cell_core.specs.declared.table.Db.{Db}
use Rattle.cell_core.specs.Kinds.{is_of_kind}
use Rattle.cell_core.specs.Tables.{names_differ}

-- ## Columns

abbrev pub column_names : List Column → List (List ℕ)
column_names columns = map (λ (column : Column). column.name) columns

-- the kinds of columns
abbrev pub is_stored : Kind → Bool
is_stored kind.Int = true
is_stored kind.Text = true
is_stored kind.Day = true
is_stored _ = false

-- the default is Nil or of the column's kind
abbrev pub is_valid_column : Column → Bool
is_valid_column column = is_stored column.kind && is_of_kind (Some column.kind) column.default

-- at least one column, under names that differ
abbrev pub are_valid_columns : List Column → Bool
are_valid_columns columns = not (length columns == 0) && list_all is_valid_column columns && names_differ (column_names columns)

-- ## Tables

-- the row has one cell for each column, which is Nil or of the column's kind
abbrev pub fits_columns : List Column → List Cell → Bool
fits_columns [] [] = true
fits_columns [] (cell ∷ row) = false
fits_columns (column ∷ columns) [] = false
fits_columns (column ∷ columns) (cell ∷ row) = is_of_kind (Some column.kind) cell && fits_columns columns row

abbrev pub is_valid_table : Table → Bool
is_valid_table table = are_valid_columns table.columns && list_all (fits_columns table.columns) table.rows

abbrev pub table_names : List Table → List (List ℕ)
table_names tables = map (λ (table : Table). table.name) tables

-- the tables' names differ, and each table is valid
pub record IsValid (db : Db) : Type 0 where
  pub names : IsTrue (names_differ (table_names db.tables))
  pub tables : IsTrue (list_all is_valid_table db.tables)
