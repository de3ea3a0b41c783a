-- The order of rows by keys.
use Rattle.std.specs.Prelude.{ℕ, List, [], ◌∷◌, Bool, true, false, if◌then◌else◌, slice_index_or}
use Rattle.std.specs.Ordering.{ordering_then, is_lt}
use Rattle.std.specs.declared.cmp.Ordering.{Ordering}
use Rattle.std.specs.Cmp.{IsTotalOrder}
use Rattle.std.proofs.lemmas.Cmp.{then_total, on_total, back_total}
use Rattle.cell_core.specs.declared.cell.Cell.{Cell}
use Rattle.cell_core.specs.declared.cell.Cell.TheVariants.{Nil}
use Rattle.cell_core.specs.Order.{cell_cmp, cells_cmp, cell_cmp_total, cells_cmp_total}

-- the cell at a place of a row
abbrev pub place_in : ℕ → List Cell → Cell
place_in place row = slice_index_or row place Nil

-- rows compare by the cell at one place, ascending or descending
abbrev pub key_cmp : ℕ × Bool → List Cell → List Cell → Ordering
key_cmp key a b = if key.1 then cell_cmp (place_in key.0 a) (place_in key.0 b) else cell_cmp (place_in key.0 b) (place_in key.0 a)

-- rows compare by the first key that distinguishes them, else by their cells
abbrev pub keyed_cmp : List (ℕ × Bool) → List Cell → List Cell → Ordering
keyed_cmp [] a b = cells_cmp a b
keyed_cmp (key ∷ keys) a b = ordering_then (key_cmp key a b) (keyed_cmp keys a b)

-- a row comes before another
abbrev pub is_keyed_below : List (ℕ × Bool) → List Cell → List Cell → Bool
is_keyed_below keys a b = is_lt (keyed_cmp keys a b)

-- the order by keys is total
key_total : (place : ℕ) → (is_ascending : Bool) → IsTotalOrder (key_cmp (place, is_ascending))
key_total place true = on_total (place_in place) cell_cmp_total
key_total place false = back_total (on_total (place_in place) cell_cmp_total)

pub keyed_total : (keys : List (ℕ × Bool)) → IsTotalOrder (keyed_cmp keys)
keyed_total [] = cells_cmp_total
keyed_total (key ∷ keys) = then_total (key_total key.0 key.1) (keyed_total keys)
