-- One element of a list is set, or one more is added at its end.
use Rattle.std.proofs.Common.{◌≡◌, ◌≢◌, ℕ, zero, suc, ◌+◌, ◌<◌, List, [], ◌∷◌, ◌++◌, length, map, Some, Option, refl, ap, sym, ◌∙◌, subst, arith, get_or, slice_set}
use Rattle.std.specs.Prelude.{slice_get, sum_by, unwrap_or}
use Rattle.std.specs.List.{AllByRecursion}
use Rattle.std.proofs.lemmas.List.Sums.{sum_by-cons}
use Rattle.std.proofs.lemmas.Option.{slice_get_within}

-- two numbers are the same, or not
pub same_or : {P : Type 0} (a b : ℕ) → (a ≡ b → P) → (a ≢ b → P) → P
same_or zero zero same apart = same refl
same_or zero (suc b) same apart = apart (λ e. omega (arith, e))
same_or (suc a) zero same apart = apart (λ e. omega (arith, e))
same_or (suc a) (suc b) same apart = same_or a b (λ e. same (ap suc e)) (λ far. apart (λ e. far (omega (arith, e))))

pub none_there : {X P : Type 0} (j : ℕ) (z : X) → slice_get [] j ≡ Some z → P
none_there j z there = absurd (let low = slice_get_within [] j z there in let none : ⊥ = omega (arith, low) in none)

same_there : {X : Type 0} (x y : X) → Some x ≡ Some y → x ≡ y
same_there {X = X} x y same = ap (λ (o : Option X). unwrap_or o x) same

module _ {X : Type 0} where
  -- what holds of the element that is set and of each other
  pub set_all : (P : ℕ → X → Type 0) (xs : List X) (i : ℕ) (y : X) → P i y → ((j : ℕ) (z : X) → j ≢ i → slice_get xs j ≡ Some z → P j z) → (j : ℕ) (z : X) → slice_get (slice_set xs i y) j ≡ Some z → P j z
  set_all P [] zero y here others j z there = none_there j z there
  set_all P [] (suc i) y here others j z there = none_there j z there
  set_all P (x ∷ xs) zero y here others zero z there = subst (P 0) (same_there y z there) here
  set_all P (x ∷ xs) zero y here others (suc j) z there = others (suc j) z (λ e. omega (arith, e)) there
  set_all P (x ∷ xs) (suc i) y here others zero z there = others zero z (λ e. omega (arith, e)) there
  set_all P (x ∷ xs) (suc i) y here others (suc j) z there = set_all (λ n. P (suc n)) xs i y here (λ k w apart at. others (suc k) w (λ e. apart (omega (arith, e))) at) j z there

  -- the elements that aren't set
  pub set_other : (xs : List X) (i j : ℕ) (y : X) → j ≢ i → slice_get (slice_set xs i y) j ≡ slice_get xs j
  set_other [] zero j y apart = refl
  set_other [] (suc i) j y apart = refl
  set_other (x ∷ xs) zero zero y apart = absurd (apart refl)
  set_other (x ∷ xs) zero (suc j) y apart = refl
  set_other (x ∷ xs) (suc i) zero y apart = refl
  set_other (x ∷ xs) (suc i) (suc j) y apart = set_other xs i j y (λ e. apart (ap suc e))

  -- what no change shows
  pub map_set : {Y : Type 0} (f : X → Y) (xs : List X) (i : ℕ) (x y : X) → slice_get xs i ≡ Some x → f y ≡ f x → map f (slice_set xs i y) ≡ map f xs
  map_set f [] zero x y there same = refl
  map_set f [] (suc i) x y there same = refl
  map_set f (w ∷ xs) zero x y there same = ap (λ v. v ∷ map f xs) (same ∙ ap f (sym (same_there w x there)))
  map_set f (w ∷ xs) (suc i) x y there same = ap (λ vs. f w ∷ vs) (map_set f xs i x y there same)

  -- a sum of what each counts
  pub sum_set : (f : X → ℕ) (xs : List X) (i : ℕ) (x y : X) → slice_get xs i ≡ Some x → sum_by f (slice_set xs i y) + f x ≡ sum_by f xs + f y
  sum_set f [] zero x y there = none_there 0 x there
  sum_set f [] (suc i) x y there = none_there (suc i) x there
  sum_set f (w ∷ xs) zero x y there =
      let same = ap f (same_there w x there) in
      let old = sum_by-cons f w xs in
      let new = sum_by-cons f y xs in
      omega (arith, same, old, new)
  sum_set f (w ∷ xs) (suc i) x y there =
      let more = sum_set f xs i x y there in
      let old = sum_by-cons f w xs in
      let new = sum_by-cons f w (slice_set xs i y) in
      omega (arith, more, old, new)

  -- what holds of the last element and of each before it
  pub append_all : (P : ℕ → X → Type 0) (xs : List X) (y : X) → P (length xs) y → ((j : ℕ) (z : X) → slice_get xs j ≡ Some z → P j z) → (j : ℕ) (z : X) → slice_get (xs ++ y ∷ []) j ≡ Some z → P j z
  append_all P [] y last others zero z there = subst (P 0) (same_there y z there) last
  append_all P [] y last others (suc j) z there = none_there j z there
  append_all P (x ∷ xs) y last others zero z there = others zero z there
  append_all P (x ∷ xs) y last others (suc j) z there = append_all (λ n. P (suc n)) xs y last (λ k w at. others (suc k) w at) j z there

  -- an element of what was mapped
  pub map_there : {Y Q : Type 0} (f : X → Y) (xs : List X) (i : ℕ) (v : Y) → slice_get (map f xs) i ≡ Some v → ((x : X) → slice_get xs i ≡ Some x → f x ≡ v → Q) → Q
  map_there f [] i v there found = none_there i v there
  map_there f (x ∷ xs) zero v there found = found x refl (same_there (f x) v there)
  map_there f (x ∷ xs) (suc i) v there found = map_there f xs i v there found

  -- what holds of each holds of one
  pub one_of_all : (P : X → Type 0) (xs : List X) (y : X) (ys : List X) → AllByRecursion P (xs ++ y ∷ ys) → P y
  one_of_all P [] y ys all = all.0
  one_of_all P (x ∷ xs) y ys all = one_of_all P xs y ys all.1

  pub all_at : (P : X → Type 0) (xs : List X) (i : ℕ) (d : X) → AllByRecursion P xs → i < length xs → P (get_or xs i d)
  all_at P [] i d all low = absurd (let none : ⊥ = omega (arith, low) in none)
  all_at P (x ∷ xs) zero d all low = all.0
  all_at P (x ∷ xs) (suc i) d all low = all_at P xs i d all.1 (omega (arith, low))
