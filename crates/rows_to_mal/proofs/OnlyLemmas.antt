-- The place that a reference means, among what is found of it.
use Rattle.std.proofs.Common.{◌≡◌, ℕ, List, [], ◌∷◌, refl}
use Rattle.sql_definitions.specs.Sources.{only}
use Rattle.sql_definitions.specs.Found.{found_of, place_found}

pub only_found : (places : List (ℕ × ℕ)) → place_found (found_of places) ≡ only places
only_found [] = refl
only_found (place ∷ []) = refl
only_found (place ∷ other ∷ more) = refl
