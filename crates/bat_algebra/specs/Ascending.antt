-- Pairs in the order of their heads, and which of two parts has the next one.
use Rattle.std.specs.Prelude.{◌≡◌, [], ◌∷◌, Bool, true, false}
use Rattle.std.specs.List.{AllByRecursion}
use Rattle.cell_core.specs.Pairs.{Pairs}
use Rattle.cell_core.specs.Merged.{by_head}

-- no later head is before an earlier one
abbrev pub Ascends : Pairs → Type 0
Ascends [] = Unit {0}
Ascends (p ∷ ps) = AllByRecursion (λ q. by_head q p ≡ false) ps × Ascends ps

-- the next pair is the first of the second part: the first part is empty, or its first head is after that of the second
abbrev pub is_second : Pairs → Pairs → Bool
is_second [] ys = true
is_second (x ∷ xs) [] = false
is_second (x ∷ xs) (y ∷ ys) = by_head y x
