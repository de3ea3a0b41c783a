-- Lists: what holds of each element after one is set or added, beginnings, and the entries by one number.
use Rattle.std.proofs.Common.{◌≡◌, ◌≢◌, ℕ, ◌+◌, ◌<◌, ◌≤◌, ◌⊎◌, List, [], ◌∷◌, ◌++◌, length, set, zero, suc, sym, refl, ap, subst, ◌∙◌, inl, inr, ⊎_elim, arith, Bool, eqb, eq-eqb, ne_eqb, append_assoc, cond}
use Rattle.std.specs.Prelude.{sum_by, filter, if◌then◌else◌, Some}
use Rattle.std.proofs.lemmas.List.{append-nil}
use Rattle.std.proofs.lemmas.Bool.Decides.{leb_tells}
use Rattle.std.proofs.lemmas.List.Sums.{sum_by-cons}
use Rattle.std.proofs.lemmas.List.Elements.{filter-append}
use mathlib.Core.Option.{some, some-injective, some-ne-none}
use lib.ListN.{get_elem?}
use Rattle.atomic_table.proofs.Lists.{at_set}
use Rattle.turn_hall.specs.Entries.{StartsWith, entries_by, longer, kept_under}

module _ {A : Type 0} where
  -- an element that is there lies below the length
  pub at_below : (l : List A) (k : ℕ) (a : A) → get_elem? l k ≡ some a → k < length l
  at_below [] k a e = absurd (some-ne-none a (sym e))
  at_below (x ∷ xs) zero a e = omega arith
  at_below (x ∷ xs) (suc k) a e = omega (arith, at_below xs k a e)

  -- below the length there is an element
  pub below_at : (l : List A) (k : ℕ) → k < length l → (a : A) × (get_elem? l k ≡ some a)
  below_at [] k h = absurd (omega arith)
  below_at (x ∷ xs) zero h = (x, refl)
  below_at (x ∷ xs) (suc k) h = below_at xs k (omega arith)

  pub at_once : (l : List A) (k : ℕ) (a b : A) → get_elem? l k ≡ some a → get_elem? l k ≡ some b → a ≡ b
  at_once l k a b p q = some-injective a b (sym p ∙ q)

  -- an element of a longer list is one of the first list, or the last
  pub at_snoc : (l : List A) (a : A) (k : ℕ) (b : A) → get_elem? (l ++ a ∷ []) k ≡ some b → (get_elem? l k ≡ some b) ⊎ ((k ≡ length l) × (a ≡ b))
  at_snoc [] a zero b e = inr (refl, some-injective a b e)
  at_snoc [] a (suc k) b e = absurd (some-ne-none b (sym e))
  at_snoc (x ∷ xs) a zero b e = inl e
  at_snoc (x ∷ xs) a (suc k) b e = ⊎_elim (λ h. inl h) (λ h. inr (ap suc h.0, h.1)) (at_snoc xs a k b e)

  -- what holds of each element holds again after one is set
  pub each_set : (P : ℕ → A → Type 0) (l : List A) (i : ℕ) (w : A) → P i w
      → ((k : ℕ) (u : A) → k ≢ i → get_elem? l k ≡ some u → P k u)
      → (k : ℕ) (u : A) → get_elem? (set l i w) k ≡ some u → P k u
  each_set P l i w here others k u e =
      ⊎_elim (λ h. subst (λ j. P j u) (sym h.0) (subst (P i) h.1 here)) (λ h. others k u h.0 h.1) (at_set l i k w u e)

  -- what holds of each element holds again after one is added
  pub each_snoc : (P : ℕ → A → Type 0) (l : List A) (a : A) → P (length l) a
      → ((k : ℕ) (u : A) → get_elem? l k ≡ some u → P k u)
      → (k : ℕ) (u : A) → get_elem? (l ++ a ∷ []) k ≡ some u → P k u
  each_snoc P l a here others k u e =
      ⊎_elim (λ h. others k u h) (λ h. subst (λ j. P j u) (sym h.0) (subst (P (length l)) h.1 here)) (at_snoc l a k u e)

  -- a sum after one element is set
  pub sum_by-set : (f : A → ℕ) (l : List A) (i : ℕ) (v w : A) → get_elem? l i ≡ some v → sum_by f (set l i w) + f v ≡ sum_by f l + f w
  sum_by-set f [] i v w e = absurd (some-ne-none v (sym e))
  sum_by-set f (x ∷ xs) zero v w e = omega (arith, sum_by-cons f x xs, sum_by-cons f w xs, ap f (some-injective x v e))
  sum_by-set f (x ∷ xs) (suc i) v w e = omega (arith, sum_by-cons f x xs, sum_by-cons f x (set xs i w), sum_by-set f xs i v w e)

  -- a sum after one element is added
  pub sum_by-snoc : (f : A → ℕ) (l : List A) (a : A) → sum_by f (l ++ a ∷ []) ≡ sum_by f l + f a
  sum_by-snoc f [] a = omega (arith, sum_by-cons f a [])
  sum_by-snoc f (x ∷ xs) a = omega (arith, sum_by-cons f x xs, sum_by-cons f x (xs ++ a ∷ []), sum_by-snoc f xs a)

  -- a list of one element, when that is set
  pub set-only : (l : List A) (a : A) → length l ≡ 1 → set l 0 a ≡ a ∷ []
  set-only [] a h = absurd (omega arith)
  set-only (x ∷ []) a h = refl
  set-only (x ∷ y ∷ ys) a h = absurd (omega arith)

  -- a sum of numbers that are at most 1
  pub sum_by-le_length : (f : A → ℕ) → ((a : A) → f a ≤ 1) → (l : List A) → sum_by f l ≤ length l
  sum_by-le_length f one [] = omega arith
  sum_by-le_length f one (x ∷ xs) = omega (arith, sum_by-cons f x xs, one x, sum_by-le_length f one xs)

module _ {E : Type 0} where
  pub starts_itself : (l : List E) → StartsWith l l
  starts_itself l = ([], sym (append-nil l))

  pub starts_longer : (l first more : List E) → StartsWith l first → StartsWith (l ++ more) first
  starts_longer l first more h = (h.0 ++ more, ap (λ x. x ++ more) h.1 ∙ append_assoc first h.0 more)

  -- of two beginnings of one list, the longer begins with the shorter
  starts_both : (xs ys r q : List E) → xs ++ r ≡ ys ++ q → length ys ≤ length xs → StartsWith xs ys
  starts_both xs [] r q e h = (xs, refl)
  starts_both [] (y ∷ ys) r q e h = absurd (omega arith)
  starts_both (x ∷ xs) (y ∷ ys) r q e h =
      let first : x ≡ y = cc in
      let others : xs ++ r ≡ ys ++ q = cc in
      let t = starts_both xs ys r q others (omega arith) in
      let same : xs ≡ ys ++ t.0 = t.1 in
      (t.0, cc)

  pub longer_begins : (log xs ys : List E) → StartsWith log xs → StartsWith log ys
      → StartsWith (longer xs ys) xs × StartsWith (longer xs ys) ys × StartsWith log (longer xs ys)
  longer_begins log xs ys p q =
      let F : Bool → Type 0 = λ b. let l = if b then xs else ys in StartsWith l xs × StartsWith l ys × StartsWith log l in
      ⊎_elim
      (λ h. subst F (sym h.0) (starts_itself xs, starts_both xs ys p.0 q.0 (sym p.1 ∙ q.1) h.1, p))
      (λ h. subst F (sym h.0) (starts_both ys xs q.0 p.0 (sym q.1 ∙ p.1) (omega (arith, h.1)), starts_itself ys, q))
      (leb_tells (length ys) (length xs))

  pub entries_by-own : (author : E → ℕ) (k : ℕ) (log : List E) (e : E) → author e ≡ k → entries_by author k (log ++ e ∷ []) ≡ entries_by author k log ++ e ∷ []
  entries_by-own author k log e h =
      filter-append (λ x. eqb (author x) k) log (e ∷ [])
      ∙ ap (λ b. filter (λ x. eqb (author x) k) log ++ cond b (e ∷ []) []) (eq-eqb (author e) k h)

  pub entries_by-other : (author : E → ℕ) (k : ℕ) (log : List E) (e : E) → author e ≢ k → entries_by author k (log ++ e ∷ []) ≡ entries_by author k log
  entries_by-other author k log e h =
      filter-append (λ x. eqb (author x) k) log (e ∷ [])
      ∙ ap (λ b. filter (λ x. eqb (author x) k) log ++ cond b (e ∷ []) []) (ne_eqb (author e) k h)
      ∙ append-nil _

  pub kept_under-here : (k j : ℕ) (own : List E) (joined : List (ℕ × List E)) → j ≡ k → kept_under k ((j, own) ∷ joined) ≡ Some own
  kept_under-here k j own joined h = ap (λ b. cond b (Some own) (kept_under k joined)) (eq-eqb j k h)

  pub kept_under-else : (k j : ℕ) (own : List E) (joined : List (ℕ × List E)) → j ≢ k → kept_under k ((j, own) ∷ joined) ≡ kept_under k joined
  kept_under-else k j own joined h = ap (λ b. cond b (Some own) (kept_under k joined)) (ne_eqb j k h)
