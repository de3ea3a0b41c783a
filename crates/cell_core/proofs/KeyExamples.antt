-- What the order by keys says of small rows.
use Rattle.std.proofs.Common.{◌≡◌, ℕ, List, [], ◌∷◌, true, false, pos, refl}
use Rattle.cell_core.specs.declared.cell.Cell.{Cell}
use Rattle.cell_core.specs.declared.cell.Cell.TheVariants.{Nil, Int}
use Rattle.cell_core.specs.Sorted.{sorted_by}
use Rattle.cell_core.specs.Keys.{is_keyed_below}

abbrev row : ℕ → ℕ → List Cell
row a b = Int (pos a) ∷ Int (pos b) ∷ []

abbrev rows : List (List Cell)
rows = row 1 2 ∷ row 2 1 ∷ row 1 1 ∷ (Nil ∷ Int (pos 3) ∷ []) ∷ []

-- without keys by all cells; by the first cell descending, ties by all cells; by the second cell, then the first one descending
sorted : (sorted_by (is_keyed_below []) rows ≡ (Nil ∷ Int (pos 3) ∷ []) ∷ row 1 1 ∷ row 1 2 ∷ row 2 1 ∷ [])
    × (sorted_by (is_keyed_below ((0, false) ∷ [])) rows ≡ row 2 1 ∷ row 1 1 ∷ row 1 2 ∷ (Nil ∷ Int (pos 3) ∷ []) ∷ [])
    × (sorted_by (is_keyed_below ((1, true) ∷ (0, false) ∷ [])) rows ≡ row 2 1 ∷ row 1 1 ∷ row 1 2 ∷ (Nil ∷ Int (pos 3) ∷ []) ∷ [])
sorted = (refl, refl, refl)
