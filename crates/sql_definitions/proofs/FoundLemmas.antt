-- Places that are found one after the other.
use Rattle.std.proofs.Common.{◌≡◌, ℕ, List, [], ◌∷◌, ◌++◌, refl}
use Rattle.sql_definitions.specs.declared.called.Resolved.{Resolved}
use Rattle.sql_definitions.specs.declared.called.Resolved.TheVariants.{Nowhere, At, Twice}
use Rattle.sql_definitions.specs.Sources.{only}
use Rattle.sql_definitions.specs.Found.{found_of, joined, place_found}

-- one place, and then more
pub joined_one : (found : Resolved) (place : ℕ × ℕ) (places : List (ℕ × ℕ)) → joined (joined found (place ∷ [])) places ≡ joined found (place ∷ places)
joined_one Nowhere place [] = refl
joined_one Nowhere place (other ∷ places) = refl
joined_one (At table column) place places = refl
joined_one Twice place places = refl

-- some places, and then more
pub joined_more : (found : Resolved) (some more : List (ℕ × ℕ)) → joined (joined found some) more ≡ joined found (some ++ more)
joined_more Nowhere [] more = refl
joined_more Nowhere (place ∷ []) [] = refl
joined_more Nowhere (place ∷ []) (other ∷ more) = refl
joined_more Nowhere (place ∷ other ∷ some) more = refl
joined_more (At table column) [] more = refl
joined_more (At table column) (place ∷ some) more = refl
joined_more Twice some more = refl

-- no further place
pub joined_none : (found : Resolved) → joined found [] ≡ found
joined_none Nowhere = refl
joined_none (At table column) = refl
joined_none Twice = refl

-- the only place is the one that is found
pub only_is : (places : List (ℕ × ℕ)) → only places ≡ place_found (found_of places)
only_is [] = refl
only_is (place ∷ []) = refl
only_is (place ∷ other ∷ more) = refl
