-- What is kept of the cells of a column: their stated bytes, whether they rise, whether they are dense.
use Rattle.std.specs.Prelude.{◌≡◌, ℕ, ◌+◌, ◌==◌, ◌<◌, ◌^◌, List, [], ◌∷◌, Bool, true, false, ◌&&◌, Option, None, Some}
use Rattle.std.specs.Ordering.{is_lt}
use Rattle.std.specs.List.{sum_by}
use Rattle.cell_core.specs.declared.cell.Cell.{Cell}
use Rattle.cell_core.specs.declared.cell.Cell.TheVariants.{Oid}
use Rattle.cell_core.specs.Order.{cell_cmp, cell_bytes}
use Rattle.chunk_core.specs.declared.facts.Facts.{Facts}

-- a cell is strictly before another in the order of cells
abbrev pub is_below : Cell → Cell → Bool
is_below a b = is_lt (cell_cmp a b)

-- a cell is an oid
abbrev pub is_oid : Cell → Bool
is_oid (Oid n) = true
is_oid _ = false

-- two cells are oids, the second one more than the first
abbrev pub is_next_oid : Cell → Cell → Bool
is_next_oid (Oid m) (Oid n) = n == m + 1
is_next_oid _ _ = false

-- the test holds of each two neighbours in the list of x and the others
abbrev pub neighbours_from : (Cell → Cell → Bool) → Cell → List Cell → Bool
neighbours_from p x [] = true
neighbours_from p x (y ∷ ys) = p x y && neighbours_from p y ys

-- each cell is strictly before the next
abbrev pub rises : List Cell → Bool
rises [] = true
rises (x ∷ xs) = neighbours_from is_below x xs

-- the cells are dense: oids that rise by one each
abbrev pub is_dense : List Cell → Bool
is_dense [] = true
is_dense (x ∷ xs) = is_oid x && neighbours_from is_next_oid x xs

-- the sum of the stated bytes of the cells
abbrev pub cells_bytes : List Cell → ℕ
cells_bytes cells = sum_by cell_bytes cells

-- the last cell of x and the others
abbrev pub last_from : Cell → List Cell → Cell
last_from x [] = x
last_from x (y ∷ ys) = last_from y ys

-- the last cell
abbrev pub last_cell : List Cell → Option Cell
last_cell [] = None
last_cell (x ∷ xs) = Some (last_from x xs)

-- whether cells rise once one more follows the last
abbrev pub rises_with : Bool → Option Cell → Cell → Bool
rises_with so_far None cell = true
rises_with so_far (Some last) cell = so_far && is_below last cell

-- whether cells are dense once one more follows the last
abbrev pub dense_with : Bool → Option Cell → Cell → Bool
dense_with so_far None cell = is_oid cell
dense_with so_far (Some last) cell = so_far && is_next_oid last cell

-- whether cells rise once others follow the last
abbrev pub rises_with_all : Bool → Option Cell → List Cell → Bool
rises_with_all so_far None more = rises more
rises_with_all so_far (Some last) more = so_far && neighbours_from is_below last more

-- whether cells are dense once others follow the last
abbrev pub dense_with_all : Bool → Option Cell → List Cell → Bool
dense_with_all so_far None more = is_dense more
dense_with_all so_far (Some last) more = so_far && neighbours_from is_next_oid last more

-- these facts hold of these cells, whose bytes stay below a limit
pub record AreToldOf (facts : Facts) (cells : List Cell) : Type 0 where
  pub bytes : facts.bytes ≡ cells_bytes cells
  pub few : cells_bytes cells < 2 ^ 60
  pub rising : facts.rises ≡ rises cells
  pub dense : facts.dense ≡ is_dense cells
