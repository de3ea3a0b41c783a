-- Tests, choices and lists that the lemmas share.
use Rattle.std.proofs.Common.{◌≡◌, ℕ, suc, ◌<◌, ◌≤◌, List, [], ◌∷◌, Bool, true, false, not, ◌||◌, ◌&&◌, min, map, refl, ap, ◌∙◌, arith, nat_lt}
use Rattle.std.specs.Prelude.{if◌then◌else◌}
use Rattle.std.specs.List.{list_any}
use Rattle.std.proofs.lemmas.Bool.Decides.{nat_tests}

pub or_left : (a b : Bool) → (a || b) ≡ false → a ≡ false
or_left true b e = cc
or_left false b e = refl

pub or_right : (a b : Bool) → (a || b) ≡ false → b ≡ false
or_right true b e = cc
or_right false b e = e

pub both : (a b c d : Bool) → a ≡ c → b ≡ d → (a || b) ≡ (c || d)
both a b c d e f = cc

pub or_swapped : (a b : Bool) → (a || b) ≡ (b || a)
or_swapped true true = refl
or_swapped true false = refl
or_swapped false true = refl
or_swapped false false = refl

pub or_false : (a : Bool) → (a || false) ≡ a
or_false true = refl
or_false false = refl

-- what is added only where the other has it and this hasn't: then it has what either has
pub added : (a b : Bool) → (if b && not a then (a || true) else a) ≡ (a || b)
added true true = refl
added true false = refl
added false true = refl
added false false = refl

-- what is added changes nothing where it hasn't what is asked
pub unchanged : (test a : Bool) → (if test then (a || false) else a) ≡ a
unchanged true a = or_false a
unchanged false a = refl

-- a function of a choice
pub of_choice : {X Y : Type 0} (f : X → Y) (b : Bool) (x y : X) → f (if b then x else y) ≡ (if b then f x else f y)
of_choice f true x y = refl
of_choice f false x y = refl

pub is_past : (k n : ℕ) → nat_lt k n ≡ true → k < n
is_past k n e = grind (arith, nat_tests)

pub is_at_most : (k n : ℕ) → nat_lt k n ≡ false → n ≤ k
is_at_most k n e = grind (arith, nat_tests)

pub past : (k n : ℕ) → k < n → nat_lt k n ≡ true
past k n e = grind (arith, nat_tests)

pub within : (k n : ℕ) → n ≤ k → nat_lt k n ≡ false
within k n e = grind (arith, nat_tests)

-- numbers that are the same up to a limit pass it both or neither
pub same_past : (k m n : ℕ) → min (suc k) m ≡ min (suc k) n → nat_lt k m ≡ nat_lt k n
same_past k m n e = go (nat_lt k n) refl
  where
    go : (b : Bool) → nat_lt k n ≡ b → nat_lt k m ≡ b
    go true h = let low = is_past k n h in past k m (omega arith)
    go false h = let high = is_at_most k n h in within k m (omega arith)

pub any_same : {X Y : Type 0} (f : X → Y) (p : Y → Bool) (q : X → Bool) → ((x : X) → p (f x) ≡ q x) → (xs : List X) → list_any p (map f xs) ≡ list_any q xs
any_same f p q one [] = refl
any_same f p q one (x ∷ xs) = both _ _ _ _ (one x) (any_same f p q one xs)

-- two tests of the results of two functions
pub any_alike : {X Y Z : Type 0} (f : X → Y) (g : X → Z) (p : Y → Bool) (q : Z → Bool) → ((x : X) → p (f x) ≡ q (g x)) → (xs : List X) → list_any p (map f xs) ≡ list_any q (map g xs)
any_alike f g p q one [] = refl
any_alike f g p q one (x ∷ xs) = both _ _ _ _ (one x) (any_alike f g p q one xs)

-- a function that changes nothing of what fails a test changes no list of what fails it
pub map_same : {X : Type 0} (f : X → X) (p : X → Bool) → ((x : X) → p x ≡ false → f x ≡ x) → (xs : List X) → list_any p xs ≡ false → map f xs ≡ xs
map_same f p one [] h = refl
map_same f p one (x ∷ xs) h = ap (λ y. y ∷ map f xs) (one x (or_left _ _ h)) ∙ ap (λ ys. x ∷ ys) (map_same f p one xs (or_right _ _ h))
