-- Rows that are kept as columns.
use Rattle.std.specs.Prelude.{◌≡◌, ℕ, List, [], ◌∷◌, length, map, replicate, if◌then◌else◌, bytes_eq, slice_index_or}
use Rattle.std.specs.List.{AllByRecursion, list_any}
use Rattle.cell_core.specs.declared.cell.Cell.{Cell}
use Rattle.cell_core.specs.declared.cell.Cell.TheVariants.{Nil}
use Rattle.cell_core.specs.declared.table.Column.{Column}
use Rattle.cell_core.specs.Pairs.{Pairs, tails_of, numbered}

-- a table as contracts see it: how many columns it has, its rows, and a version for each column
pub record KeptTable : Type 0 where
  pub width : ℕ
  pub rows : List (List Cell)
  pub versions : List ℕ

-- each row has this many cells
abbrev pub AreWide : ℕ → List (List Cell) → Type 0
AreWide width rows = AllByRecursion (λ (row : List Cell). length row ≡ width) rows

-- the versions of columns, of which those with one of these names have another now
abbrev pub stamped : List (List ℕ) → ℕ → List Column → List ℕ → List ℕ
stamped names version [] versions = versions
stamped names version (column ∷ columns) [] = []
stamped names version (column ∷ columns) (v ∷ versions) = (if list_any (bytes_eq column.name) names then version else v) ∷ stamped names version columns versions

-- ## Inside

-- each cell before the row beside it
abbrev pub before_rows : List Cell → List (List Cell) → List (List Cell)
before_rows [] rows = []
before_rows (cell ∷ cells) [] = []
before_rows (cell ∷ cells) (row ∷ rows) = (cell ∷ row) ∷ before_rows cells rows

-- this many rows of these columns
abbrev pub rows_beside : ℕ → List Pairs → List (List Cell)
rows_beside count [] = replicate count []
rows_beside count (column ∷ columns) = before_rows (tails_of column) (rows_beside count columns)

-- the cells of columns at a place
abbrev pub row_cells : ℕ → List Pairs → List Cell
row_cells at columns = map (λ (column : Pairs). slice_index_or (tails_of column) at Nil) columns

-- a column has this many cells, each beside its number
pub record IsColumn (count : ℕ) (column : Pairs) : Type 0 where
  pub cells : length column ≡ count
  pub heads : column ≡ numbered (tails_of column)

-- the columns are of one length, and have a version each
pub record AreColumns (count : ℕ) (columns : List Pairs) (versions : List ℕ) : Type 0 where
  pub even : AllByRecursion (IsColumn count) columns
  pub beside : length versions ≡ length columns

abbrev pub kept_from : ℕ → List Pairs → List ℕ → KeptTable
kept_from count columns versions = record { width = length columns; rows = rows_beside count columns; versions = versions }
