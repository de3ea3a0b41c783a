-- The numbers of a kind that lie between two bounds.
use Rattle.std.specs.Prelude.{◌≡◌, ◌^◌, ◌-◌, ℤ, pos, negsuc, int_le, Bool, true, ◌&&◌, ◌||◌}
use Rattle.cell_core.specs.declared.cell.Cell.{Cell}
use Rattle.cell_core.specs.Pairs.{is_nil}
use Rattle.cell_core.specs.Relations.{is_ordered, is_within}

-- a number that a day may have
abbrev pub fits_day : ℤ → Bool
fits_day n = int_le (negsuc (2 ^ 31 - 1)) n && int_le n (pos (2 ^ 31 - 1))

-- of the numbers of a kind, those above a low bound are those from first on
abbrev pub IsFirst : {X : Type 0} → (X → Cell) → (X → Bool) → X → Cell → Bool → Type 0
IsFirst {X} cell_of is_one first low li = (x : X) → is_one x ≡ true → is_ordered true (cell_of first) (cell_of x) ≡ (is_nil low || is_ordered li low (cell_of x))

-- and those below a high bound are those up to last
abbrev pub IsLast : {X : Type 0} → (X → Cell) → (X → Bool) → X → Cell → Bool → Type 0
IsLast {X} cell_of is_one last high hi = (x : X) → is_one x ≡ true → is_ordered true (cell_of x) (cell_of last) ≡ (is_nil high || is_ordered hi (cell_of x) high)

-- those between two bounds are those from first to last
abbrev pub IsSpan : {X : Type 0} → (X → Cell) → (X → Bool) → X → X → Cell → Cell → Bool → Bool → Type 0
IsSpan {X} cell_of is_one first last low high li hi = (x : X) → is_one x ≡ true → is_within (cell_of first) (cell_of last) true true (cell_of x) ≡ is_within low high li hi (cell_of x)
