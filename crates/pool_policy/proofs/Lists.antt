-- Members, filters and the first by a test.
use Rattle.std.proofs.Common.{◌≡◌, ℕ, zero, suc, ◌≤◌, List, [], ◌∷◌, ◌++◌, Bool, true, false, not, ◌&&◌, ◌||◌, cond, Some, ◌⊎◌, inl, inr, refl, ap, sym, ◌∙◌, subst, arith, length, drop, slice_index_or}
use Rattle.std.specs.Prelude.{filter, ◌==◌, sum_by}
use Rattle.std.specs.List.{AllByRecursion, find, slice_get}
use Rattle.std.proofs.lemmas.Bool.Decides.{Decides-eqb}
use Rattle.std.proofs.lemmas.List.Sums.{sum_by-cons}
use Rattle.subsume.proofs.Members.{In}
use Rattle.evict_admit.specs.Runs.{is_one_of}

pub either : (b : Bool) → (b ≡ true) ⊎ (b ≡ false)
either true = inl refl
either false = inr refl

pub unnot : (b : Bool) → not b ≡ true → b ≡ false
unnot true e = sym e
unnot false e = refl

-- ## Numbers among numbers

pub among_in : (ids : List ℕ) (n : ℕ) → is_one_of ids n ≡ true → In n ids
among_in [] n e = cc
among_in (i ∷ ids) n e = elim (n == i) as (λ b. (n == i) ≡ b → (b || is_one_of ids n) ≡ true → In n (i ∷ ids)) [
  | true ↦ λ is _. inl ((Decides-eqb n i).0 is)
  | false ↦ λ _ more. inr (among_in ids n more)
] refl e

pub in_among : (ids : List ℕ) (n : ℕ) → In n ids → is_one_of ids n ≡ true
in_among [] n h = absurd h
in_among (i ∷ ids) n (inl e) = ap (λ b. b || is_one_of ids n) ((Decides-eqb n i).1 e)
in_among (i ∷ ids) n (inr h) = let more = in_among ids n h in elim (n == i) as (λ b. (b || is_one_of ids n) ≡ true) [ true ↦ refl | false ↦ more ]

pub not_among : (ids : List ℕ) (n : ℕ) → (In n ids → ⊥) → is_one_of ids n ≡ false
not_among ids n h = elim (is_one_of ids n) as (λ b. is_one_of ids n ≡ b → b ≡ false) [ true ↦ λ e. absurd (h (among_in ids n e)) | false ↦ λ e. refl ] refl

module _ {X : Type 0} where
  pub keep_all : (p : X → Bool) (xs : List X) → ((x : X) → p x ≡ true) → filter p xs ≡ xs
  keep_all p [] h = refl
  keep_all p (x ∷ xs) h = ap (λ b. cond b (x ∷ filter p xs) (filter p xs)) (h x) ∙ ap (λ ys. x ∷ ys) (keep_all p xs h)

  pub filter_both : (p q r : X → Bool) (xs : List X) → ((x : X) → r x ≡ (q x && p x)) → filter r xs ≡ filter p (filter q xs)
  filter_both p q r [] h = refl
  filter_both p q r (x ∷ xs) h = ap (λ b. cond b (x ∷ filter r xs) (filter r xs)) (h x) ∙ elim (q x) as (λ b. cond (b && p x) (x ∷ filter r xs) (filter r xs) ≡ filter p (cond b (x ∷ filter q xs) (filter q xs))) [
    | true ↦ ap (λ ys. cond (p x) (x ∷ ys) ys) (filter_both p q r xs h)
    | false ↦ filter_both p q r xs h
  ]

  pub all_filter : (P : X → Type 0) (p : X → Bool) (xs : List X) → AllByRecursion P xs → AllByRecursion P (filter p xs)
  all_filter P p [] h = tt
  all_filter P p (x ∷ xs) h = elim (p x) as (λ b. AllByRecursion P (cond b (x ∷ filter p xs) (filter p xs))) [ true ↦ (h.0, all_filter P p xs h.1) | false ↦ all_filter P p xs h.1 ]

  pub all_on : (P Q : X → Type 0) (xs : List X) → ((x : X) → In x xs → P x → Q x) → AllByRecursion P xs → AllByRecursion Q xs
  all_on P Q [] h a = tt
  all_on P Q (x ∷ xs) h a = (h x (inl refl) a.0, all_on P Q xs (λ y i. h y (inr i)) a.1)

  pub all_snoc : (P : X → Type 0) (xs : List X) (x : X) → AllByRecursion P xs → P x → AllByRecursion P (xs ++ x ∷ [])
  all_snoc P [] x a h = (h, tt)
  all_snoc P (y ∷ ys) x a h = (a.0, all_snoc P ys x a.1 h)

  pub all_at : (P : X → Type 0) (xs : List X) (x : X) → AllByRecursion P xs → In x xs → P x
  all_at P [] x a h = absurd h
  all_at P (y ∷ ys) x a (inl e) = subst P (sym e) a.0
  all_at P (y ∷ ys) x a (inr h) = all_at P ys x a.1 h

  pub sum_keeps : (f : X → ℕ) (p : X → Bool) (xs : List X) → sum_by f (filter p xs) ≤ sum_by f xs
  sum_keeps f p [] = omega arith
  sum_keeps f p (x ∷ xs) =
      let rest = sum_keeps f p xs in
      let all = sum_by-cons f x xs in
      elim (p x) as (λ b. sum_by f (cond b (x ∷ filter p xs) (filter p xs)) ≤ sum_by f (x ∷ xs)) [
        | true ↦ let one = sum_by-cons f x (filter p xs) in omega (arith, rest, all, one)
        | false ↦ omega (arith, rest, all)
      ]

-- ## The place of the first that passes

got_first : {X : Type 0} (xs : List X) (k : ℕ) (y : X) (ys : List X) → drop k xs ≡ y ∷ ys → slice_get xs k ≡ Some y
got_first [] zero y ys e = cc
got_first [] (suc k) y ys e = cc
got_first (x ∷ xs) zero y ys e = let same : x ≡ y = cc in ap (λ z. Some z) same
got_first (x ∷ xs) (suc k) y ys e = got_first xs k y ys e

pub found_at : {X : Type 0} (p : X → Bool) (xs rest : List X) (k : ℕ) (x : X) → find p rest ≡ find p xs → rest ≡ drop k xs → 1 ≤ length rest → x ≡ slice_index_or rest 0 x → p x ≡ true → slice_get xs k ≡ find p xs
found_at p xs [] k x same is some first pass = absurd (omega arith)
found_at p xs (y ∷ ys) k x same is some first pass =
    got_first xs k y ys (sym is) ∙ sym (ap (λ b. cond b (Some y) (find p ys)) (ap p (sym first) ∙ pass)) ∙ same
