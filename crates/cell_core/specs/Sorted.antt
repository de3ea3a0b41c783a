-- The result of a stable sort, and the first of some elements, as functions.
use Rattle.std.specs.Prelude.{List, [], ◌∷◌, Bool, if◌then◌else◌, Option, Some, None, fold}
use Rattle.std.specs.Option.{option_map_or}

module _ {X : Type 0} (below : X → X → Bool) where
  -- the element comes after those that are below it, and before the others
  abbrev pub insert_sorted : X → List X → List X
  insert_sorted x [] = x ∷ []
  insert_sorted x (y ∷ ys) = if below y x then y ∷ insert_sorted x ys else x ∷ y ∷ ys

  -- the elements in order; those that tie keep their places among each other
  abbrev pub sorted_by : List X → List X
  sorted_by [] = []
  sorted_by (x ∷ xs) = insert_sorted x (sorted_by xs)

-- the first of the elements, by a test of which of two comes first; where two tie, the earlier in the list
abbrev pub first_by : {X : Type 0} → (X → X → Bool) → List X → Option X
first_by before xs = fold (λ best x. Some (option_map_or (λ b. if before x b then x else b) best x)) None xs
