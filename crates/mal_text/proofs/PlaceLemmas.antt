-- Places in lists.
use Rattle.std.proofs.Common.{◌≡◌, ℕ, suc, ◌+◌, ◌≤◌, List, [], ◌∷◌, length, Bool, true, false, not, cond, Some, None, refl, arith}
use Rattle.std.specs.Prelude.{nat_lt}
use Rattle.std.specs.List.{position, position_or_len}
use Rattle.std.proofs.lemmas.Bool.Decides.{nat_tests}

-- the first place at which a test passes is no further than the end
place_within : {X : Type 0} (p : X → Bool) (xs : List X) → position_or_len p xs ≤ length xs
place_within p [] = omega arith
place_within p (x ∷ xs) = at (p x) (place_within p xs)
  where
    at : (b : Bool) → position_or_len p xs ≤ length xs → cond (not b) (1 + position_or_len p xs) 0 ≤ suc (length xs)
    at true h = omega arith
    at false h = omega (arith, h)

-- where there is none, it is the end
pub no_place : {X : Type 0} (p : X → Bool) (xs : List X) → position p xs ≡ None → length xs ≡ position_or_len p xs
no_place p xs h = at (nat_lt (position_or_len p xs) (length xs)) refl h (place_within p xs)
  where
    not_less : (a b : ℕ) → nat_lt a b ≡ false → a ≤ b → b ≡ a
    not_less a b h few = grind (arith, nat_tests)

    at : (b : Bool) → nat_lt (position_or_len p xs) (length xs) ≡ b → cond b (Some (position_or_len p xs)) None ≡ None → position_or_len p xs ≤ length xs → length xs ≡ position_or_len p xs
    at true e h few = cc
    at false e h few = not_less (position_or_len p xs) (length xs) e few
