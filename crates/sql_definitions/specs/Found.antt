-- How many places a reference has.
use Rattle.std.specs.Prelude.{ℕ, List, [], ◌∷◌, Option, Some, None}
use Rattle.sql_definitions.specs.declared.called.Resolved.{Resolved}
use Rattle.sql_definitions.specs.declared.called.Resolved.TheVariants.{Nowhere, At, Twice}

-- none, one, or more
abbrev pub found_of : List (ℕ × ℕ) → Resolved
found_of [] = Nowhere
found_of (place ∷ []) = At place.0 place.1
found_of (place ∷ other ∷ more) = Twice

-- what is found so far, and then at these places
abbrev pub joined : Resolved → List (ℕ × ℕ) → Resolved
joined Nowhere places = found_of places
joined (At table column) [] = At table column
joined (At table column) (place ∷ places) = Twice
joined Twice places = Twice

-- the place, where there is exactly one
abbrev pub place_found : Resolved → Option (ℕ × ℕ)
place_found Nowhere = None
place_found (At table column) = Some (table, column)
place_found Twice = None
