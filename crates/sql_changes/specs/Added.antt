-- What an INSERT adds to a table.
use Rattle.std.specs.Prelude.{ℕ, List, ◌++◌, length, map, bytes_eq, slice_index_or, Result, Ok, Err}
use Rattle.std.specs.List.{position_or_len}
use Rattle.cell_core.specs.declared.cell.Cell.{Cell}
use Rattle.cell_core.specs.declared.table.Column.{Column}
use Rattle.cell_core.specs.declared.table.Table.{Table}
use Rattle.sql_definitions.specs.declared.refusal.Refusal.{Refusal}
use Rattle.sql_definitions.specs.Effect.{Change}
use Rattle.sql_changes.specs.declared.insert.AddedRows.{AddedRows}
use Rattle.sql_changes.specs.declared.insert.AddedRows.TheVariants.{Lent, Made}

-- the rows that are added
abbrev pub added_rows : AddedRows → List (List Cell)
added_rows (Lent rows) = rows.now
added_rows (Made rows) = rows

-- rows that are added to a table, or why there are none, as a change of it
abbrev pub added_to : Table → Result AddedRows Refusal → Change
added_to table (Ok added) = Ok (table.rows ++ added_rows added, length (added_rows added))
added_to table (Err refusal) = Err refusal

-- the values that a row has for the listed columns, each in its column's place, and the defaults of the others
abbrev pub by_name : List Column → List (List ℕ) → List Cell → List Cell
by_name columns listed row = map (λ (column : Column). slice_index_or row (position_or_len (bytes_eq column.name) listed) column.default) columns
