-- Rows after a change: some are removed, or have other cells.
use Rattle.std.specs.Prelude.{ℕ, ◌+◌, List, [], ◌∷◌, ◌++◌, map, zip, find, Bool, if◌then◌else◌, bytes_eq, slice_index_or, Option, Some, None}
use Rattle.std.specs.List.{enumerate_from}
use Rattle.cell_core.specs.declared.cell.Cell.{Cell}
use Rattle.cell_core.specs.declared.table.Column.{Column}
use Rattle.cell_core.specs.Pairs.{Pairs, tails_of, numbered}
use Rattle.cell_core.specs.Relations.{column_cells}

-- ## Rows that stay

-- the elements beside which there is no flag
abbrev pub unflagged : {X : Type 0} → List Bool → List X → List X
unflagged [] xs = []
unflagged (flag ∷ flags) [] = []
unflagged (flag ∷ flags) (x ∷ xs) = if flag then unflagged flags xs else x ∷ unflagged flags xs

-- ## Rows that get other cells

-- a column that is set, by its name, and its cells
abbrev pub NewCells : Type 0
NewCells = List ℕ × List Cell

-- the cells for a column, if it is set
abbrev pub set_of : List NewCells → Column → Option NewCells
set_of sets column = find (λ (set : NewCells). bytes_eq set.0 column.name) sets

-- the cell at a place among those for a column, or the old cell where there is none
abbrev pub new_cell : Option NewCells → ℕ → Cell → Cell
new_cell None at cell = cell
new_cell (Some set) at cell = slice_index_or set.1 at cell

-- a row in which each column that is set has its cell at a place
abbrev pub set_row : List NewCells → List Column → ℕ → List Cell → List Cell
set_row sets columns at row = map (λ (c : Column × Cell). new_cell (set_of sets c.0) at c.1) (zip columns row)

-- rows of which the first with a flag has the cells at a place, the next with a flag those at the next place, and so on
abbrev pub set_rows : List NewCells → List Column → ℕ → List Bool → List (List Cell) → List (List Cell)
set_rows sets columns at [] rows = []
set_rows sets columns at (hit ∷ hits) [] = []
set_rows sets columns at (hit ∷ hits) (row ∷ rows) = if hit then set_row sets columns at row ∷ set_rows sets columns (at + 1) hits rows else row ∷ set_rows sets columns at hits rows

-- ## Inside: the same of columns

-- columns, each followed by the cells of rows, from a place on
abbrev pub grown_columns : ℕ → List Pairs → List (List Cell) → List Pairs
grown_columns place columns rows = map (λ (at : ℕ × Pairs). numbered (tails_of at.1 ++ column_cells at.0 rows)) (enumerate_from place columns)

-- columns without the cells that have a flag
abbrev pub columns_left : List Bool → List Pairs → List Pairs
columns_left gone columns = map (λ (column : Pairs). numbered (unflagged gone (tails_of column))) columns

-- cells of which those with a flag are set
abbrev pub set_cells : Option NewCells → ℕ → List Bool → List Cell → List Cell
set_cells set at [] cells = []
set_cells set at (hit ∷ hits) [] = []
set_cells set at (hit ∷ hits) (cell ∷ cells) = if hit then new_cell set at cell ∷ set_cells set (at + 1) hits cells else cell ∷ set_cells set at hits cells

abbrev pub set_column : Option NewCells → List Bool → Pairs → Pairs
set_column None hits column = column
set_column (Some set) hits column = numbered (set_cells (Some set) 0 hits (tails_of column))

abbrev pub columns_set : List NewCells → List Bool → List Column → List Pairs → List Pairs
columns_set sets hits columns stored = map (λ (at : Column × Pairs). set_column (set_of sets at.0) hits at.1) (zip columns stored)
