-- Lists: what is found in a longer list, a list as its first element beside the others, and lists of which each element may be missing.
use Rattle.std.proofs.Common.{◌≡◌, ℕ, suc, zero, ◌-◌, ◌<◌, ◌≤◌, List, [], ◌∷◌, ◌++◌, length, take, drop, Option, Some, None, ap, sym, refl, ◌∙◌, arith}
use Rattle.std.specs.Prelude.{get_or, slice_get}
use Rattle.std.specs.Option.{option_map, option_and_then}
use Rattle.std.proofs.lemmas.List.{take_all}
use Rattle.std.proofs.lemmas.Option.{same_Some}

-- a place of the first of two lists
pub slice_get-append_left : {X : Type 0} (xs ys : List X) (n : ℕ) → n < length xs → slice_get (xs ++ ys) n ≡ slice_get xs n
slice_get-append_left [] ys n low = absurd (omega (arith, low))
slice_get-append_left (x ∷ xs) ys zero low = refl
slice_get-append_left (x ∷ xs) ys (suc n) low = slice_get-append_left xs ys n (omega (arith, low))

-- what is found in the first of two lists
pub slice_get-append_found : {X : Type 0} (xs ys : List X) (n : ℕ) (x : X) → slice_get xs n ≡ Some x → slice_get (xs ++ ys) n ≡ Some x
slice_get-append_found [] ys n x e = cc
slice_get-append_found (y ∷ xs) ys zero x e = e
slice_get-append_found (y ∷ xs) ys (suc n) x e = slice_get-append_found xs ys n x e

-- the element between two lists
pub slice_get-append_middle : {X : Type 0} (xs : List X) (y : X) (ys : List X) → slice_get (xs ++ y ∷ ys) (length xs) ≡ Some y
slice_get-append_middle [] y ys = refl
slice_get-append_middle (x ∷ xs) y ys = slice_get-append_middle xs y ys

pub slice_get-append_last : {X : Type 0} (xs : List X) (x : X) (n : ℕ) → n ≡ length xs → slice_get (xs ++ x ∷ []) n ≡ Some x
slice_get-append_last xs x n e = ap (slice_get (xs ++ x ∷ [])) e ∙ slice_get-append_middle xs x []

-- a list of one and others
pub first_and_rest : {X : Type 0} (xs : List X) (x : X) → 1 ≤ length xs → x ≡ get_or xs 0 x → xs ≡ x ∷ take (length xs - 1) (drop 1 xs)
first_and_rest [] x low e = absurd (omega (arith, low))
first_and_rest (y ∷ ys) x low e = ap (λ z. z ∷ ys) (sym e) ∙ ap (λ zs. x ∷ zs) (sym (take_all (length (y ∷ ys) - 1) ys (omega arith)))

-- a first and others that are all there: what they are, and back
pub both_found : {X : Type 0} (x : Option X) (xs : Option (List X)) (zs : List X) → option_and_then (λ y. option_map (λ ys. y ∷ ys) xs) x ≡ Some zs
    → (y : X) × (ys : List X) × (x ≡ Some y) × (xs ≡ Some ys) × (y ∷ ys ≡ zs)
both_found None xs zs e = cc
both_found (Some y) None zs e = cc
both_found (Some y) (Some ys) zs e = (y, ys, refl, refl, same_Some (y ∷ ys) zs e)

pub both_from : {X : Type 0} {x : Option X} {xs : Option (List X)} (y : X) (ys : List X) → x ≡ Some y → xs ≡ Some ys → option_and_then (λ y. option_map (λ ys. y ∷ ys) xs) x ≡ Some (y ∷ ys)
both_from {X} {x} {xs} y ys e f = ap (option_and_then (λ z. option_map (λ zs. z ∷ zs) xs)) e ∙ ap (option_map (λ zs. y ∷ zs)) f
