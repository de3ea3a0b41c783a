-- What a change can touch of a table.
use Rattle.std.specs.Prelude.{ℕ, List, [], map}
use Rattle.std.specs.List.{enumerate_from}
use Rattle.std.specs.Option.{option_map_or}
use Rattle.cell_core.specs.declared.cell.Cell.{Cell}
use Rattle.cell_core.specs.declared.table.Column.{Column}
use Rattle.cell_core.specs.declared.table.Table.{Table}
use Rattle.cell_core.specs.declared.table.Db.{Db}
use Rattle.cell_core.specs.Pairs.{Pairs, numbered}
use Rattle.cell_core.specs.Relations.{column_cells}
use Rattle.cell_core.specs.Tables.{named_table}

-- the names of columns from a place on, each beside the cells of the rows there
abbrev pub columns_beside : ℕ → List Column → List (List Cell) → List (List ℕ × Pairs)
columns_beside place columns rows = map (λ (at : ℕ × Column). (at.1.name, numbered (column_cells at.0 rows))) (enumerate_from place columns)

-- the columns of a table, each under its name, and none where the table doesn't exist
abbrev pub whole_columns : List ℕ → Db → List (List ℕ × Pairs)
whole_columns table db = option_map_or (λ (t : Table). columns_beside 0 t.columns t.rows) (named_table table db) []
