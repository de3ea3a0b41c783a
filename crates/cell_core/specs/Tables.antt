-- Tables and columns by their names, and tables that change.
use Rattle.std.specs.Prelude.{ℕ, suc, List, [], ◌∷◌, ◌++◌, length, map, Bool, true, false, not, ◌&&◌, if◌then◌else◌, bytes_eq, Option, Some, None}
use Rattle.std.specs.List.{list_any}
use Rattle.std.specs.Option.{option_map, option_map_or}
use Rattle.cell_core.specs.declared.cell.Cell.{Cell}
use Rattle.cell_core.specs.declared.table.Column.{Column}
use Rattle.cell_core.specs.declared.table.Table.{Table}
use Rattle.cell_core.specs.declared.table.Db.{Db}

-- the first table with this name
abbrev pub first_named : List ℕ → List Table → Option Table
first_named name [] = None
first_named name (table ∷ tables) = if bytes_eq table.name name then Some table else first_named name tables

abbrev pub named_table : List ℕ → Db → Option Table
named_table name db = first_named name db.tables

-- the place of the first column with this name, from 0
abbrev pub column_place : List ℕ → List Column → Option ℕ
column_place name [] = None
column_place name (column ∷ columns) = if bytes_eq column.name name then Some 0 else option_map suc (column_place name columns)

-- no name occurs twice
abbrev pub names_differ : List (List ℕ) → Bool
names_differ [] = true
names_differ (name ∷ names) = not (list_any (bytes_eq name) names) && names_differ names

-- ## What there is of a table

abbrev pub names_in : List Column → List (List ℕ)
names_in columns = map (λ (c : Column). c.name) columns

-- the names of all columns of a table, none where it isn't there
abbrev pub all_columns : List ℕ → Db → List (List ℕ)
all_columns table db = option_map_or (λ (t : Table). names_in t.columns) (named_table table db) []

-- how many rows a table has, 0 where it isn't there
abbrev pub row_count : List ℕ → Db → ℕ
row_count table db = option_map_or (λ (t : Table). length t.rows) (named_table table db) 0

-- the database has a table with this column
abbrev pub has_column : List ℕ → List ℕ → Db → Bool
has_column table column db = option_map_or (λ (t : Table). list_any (λ (c : Column). bytes_eq c.name column) t.columns) (named_table table db) false

-- ## A table that changes

-- the table with other rows, where it has this name
abbrev pub with_new_rows : List ℕ → List (List Cell) → Table → Table
with_new_rows name rows table = if bytes_eq table.name name then record table { rows = rows } else table

-- the table with one more column at its end; each row has the column's default there
abbrev pub grown : Column → Table → Table
grown column table = record table { columns = table.columns ++ column ∷ []; rows = map (λ (row : List Cell). row ++ column.default ∷ []) table.rows }

-- the same, where the table has this name
abbrev pub with_column : List ℕ → Column → Table → Table
with_column name column table = if bytes_eq table.name name then grown column table else table
