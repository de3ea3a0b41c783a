-- A sorted list in which ties keep their order is the one that `sorted_by` makes.
use Rattle.std.proofs.Common.{◌≡◌, suc, List, [], ◌∷◌, Bool, true, false, not, ◌&&◌, cond, refl, ap, sym, ◌∙◌, arith, add-one}
use Rattle.std.specs.Prelude.{filter}
use Rattle.std.specs.List.{AllByRecursion}
use Rattle.std.specs.List.Sorted.{IsSortedBy, IsStableBy, ties}
use Rattle.std.specs.Cmp.{IsStrictWeakOrder}
use Rattle.cell_core.specs.Sorted.{insert_sorted, sorted_by}

module _ {X : Type 0} (below : X → X → Bool) (order : IsStrictWeakOrder below) where
  -- no later element is below an earlier one
  abbrev Ascends : List X → Type 0
  Ascends [] = Unit {0}
  Ascends (y ∷ ys) = AllByRecursion (λ e. below e y ≡ false) ys × Ascends ys

  not_below_itself : (x : X) → below x x ≡ false
  not_below_itself x = elim (below x x) as (λ b. below x x ≡ b → below x x ≡ false) [ true ↦ λ e. order.one_way x x e | false ↦ λ e. e ] refl

  ties_itself : (x : X) → ties below x x ≡ true
  ties_itself x = ap (λ b. not b && not b) (not_below_itself x)

  all_insert : (P : X → Type 0) (x : X) (ys : List X) → P x → AllByRecursion P ys → AllByRecursion P (insert_sorted below x ys)
  all_insert P x [] here rest = (here, tt)
  all_insert P x (y ∷ ys) here rest =
      elim (below y x) as (λ b. AllByRecursion P (cond b (y ∷ insert_sorted below x ys) (x ∷ y ∷ ys))) [
        | true ↦ (rest.0, all_insert P x ys here rest.1)
        | false ↦ (here, rest)
      ]

  -- what isn't below y isn't below x, where y isn't
  all_further : (y x : X) (es : List X) → below y x ≡ false → AllByRecursion (λ e. below e y ≡ false) es → AllByRecursion (λ e. below e x ≡ false) es
  all_further y x [] h rest = tt
  all_further y x (e ∷ es) h rest = (order.chain e y x rest.0 h, all_further y x es h rest.1)

  sorted_ascends : (x : X) (ys : List X) → Ascends ys → Ascends (insert_sorted below x ys)
  sorted_ascends x [] up = (tt, tt)
  sorted_ascends x (y ∷ ys) up =
      elim (below y x) as (λ b. below y x ≡ b → Ascends (cond b (y ∷ insert_sorted below x ys) (x ∷ y ∷ ys))) [
        | true ↦ λ e. (all_insert (λ e. below e y ≡ false) x ys (order.one_way y x e) up.0, sorted_ascends x ys up.1)
        | false ↦ λ e. ((e, all_further y x ys e up.0), up)
      ] refl

  sort_ascends : (xs : List X) → Ascends (sorted_by below xs)
  sort_ascends [] = tt
  sort_ascends (x ∷ xs) = sorted_ascends x (sorted_by below xs) (sort_ascends xs)

  -- what ties with w ties with what ties with w
  both_tie : (w x y : X) → below y x ≡ true → ties below w x ≡ true → ties below w y ≡ true → true ≡ false
  both_tie w x y low a b = sym low ∙ order.chain y w x (second (below w y) (below y w) b) (first (below w x) (below x w) a)
    where
      first : (p q : Bool) → (not p && not q) ≡ true → p ≡ false
      first true q h = sym h
      first false q h = refl

      second : (p q : Bool) → (not p && not q) ≡ true → q ≡ false
      second true q h = cc
      second false true h = sym h
      second false false h = refl

  swapped : (w x y : X) (fs : List X) → below y x ≡ true → cond (ties below w y) (y ∷ cond (ties below w x) (x ∷ fs) fs) (cond (ties below w x) (x ∷ fs) fs) ≡ cond (ties below w x) (x ∷ cond (ties below w y) (y ∷ fs) fs) (cond (ties below w y) (y ∷ fs) fs)
  swapped w x y fs low =
      elim (ties below w x) as (λ a. ties below w x ≡ a → cond (ties below w y) (y ∷ cond a (x ∷ fs) fs) (cond a (x ∷ fs) fs) ≡ cond a (x ∷ cond (ties below w y) (y ∷ fs) fs) (cond (ties below w y) (y ∷ fs) fs)) [
        | true ↦ λ p. elim (ties below w y) as (λ b. ties below w y ≡ b → cond b (y ∷ x ∷ fs) (x ∷ fs) ≡ x ∷ cond b (y ∷ fs) fs) [
          | true ↦ λ q. let wrong : true ≡ false = both_tie w x y low p q in cc
          | false ↦ λ q. refl
        ] refl
        | false ↦ λ p. refl
      ] refl

  inserted_ties : (w x : X) (ys : List X) → filter (ties below w) (insert_sorted below x ys) ≡ filter (ties below w) (x ∷ ys)
  inserted_ties w x [] = refl
  inserted_ties w x (y ∷ ys) =
      elim (below y x) as (λ b. below y x ≡ b → filter (ties below w) (cond b (y ∷ insert_sorted below x ys) (x ∷ y ∷ ys)) ≡ filter (ties below w) (x ∷ y ∷ ys)) [
        | true ↦ λ e. ap (λ fs. cond (ties below w y) (y ∷ fs) fs) (inserted_ties w x ys) ∙ swapped w x y (filter (ties below w) ys) e
        | false ↦ λ e. refl
      ] refl

  sort_ties : (w : X) (xs : List X) → filter (ties below w) (sorted_by below xs) ≡ filter (ties below w) xs
  sort_ties w [] = refl
  sort_ties w (x ∷ xs) = inserted_ties w x (sorted_by below xs) ∙ ap (λ fs. cond (ties below w x) (x ∷ fs) fs) (sort_ties w xs)

  -- y is below z, and so ties with nothing that isn't
  none_tie : (y z : X) (es : List X) → below y z ≡ true → AllByRecursion (λ e. below e z ≡ false) es → filter (ties below y) es ≡ []
  none_tie y z [] low rest = refl
  none_tie y z (e ∷ es) low rest =
      elim (below y e) as (λ b. below y e ≡ b → cond (not b && not (below e y)) (e ∷ filter (ties below y) es) (filter (ties below y) es) ≡ []) [
        | true ↦ λ h. none_tie y z es low rest.1
        | false ↦ λ h. let wrong : true ≡ false = sym low ∙ order.chain y e z h rest.0 in cc
      ] refl

  itself_first : (y : X) (ys : List X) → filter (ties below y) (y ∷ ys) ≡ y ∷ filter (ties below y) ys
  itself_first y ys = ap (λ b. cond b (y ∷ filter (ties below y) ys) (filter (ties below y) ys)) (ties_itself y)

  -- the first of one is not below the first of the other
  not_less : (y z : X) (ys zs : List X) → AllByRecursion (λ e. below e z ≡ false) zs → filter (ties below y) (y ∷ ys) ≡ filter (ties below y) (z ∷ zs) → below y z ≡ false
  not_less y z ys zs least same =
      elim (below y z) as (λ b. below y z ≡ b → b ≡ false) [
        | true ↦ λ low. let none : filter (ties below y) (z ∷ zs) ≡ [] = none_tie y z (z ∷ zs) low (not_below_itself z, least) in
            let some : y ∷ filter (ties below y) ys ≡ [] = sym (itself_first y ys) ∙ same ∙ none in cc
        | false ↦ λ _. refl
      ] refl

  heads : (y z : X) (ys zs : List X) → below y z ≡ false → below z y ≡ false → filter (ties below y) (y ∷ ys) ≡ filter (ties below y) (z ∷ zs) → y ≡ z
  heads y z ys zs a b same =
      let there : filter (ties below y) (z ∷ zs) ≡ z ∷ filter (ties below y) zs = ap (λ t. cond t (z ∷ filter (ties below y) zs) (filter (ties below y) zs)) (ap (λ p. not p && not (below z y)) a ∙ ap (λ p. not p) b) in
      let both : y ∷ filter (ties below y) ys ≡ z ∷ filter (ties below y) zs = sym (itself_first y ys) ∙ same ∙ there in cc

  tails : (w y : X) (ys zs : List X) → filter (ties below w) (y ∷ ys) ≡ filter (ties below w) (y ∷ zs) → filter (ties below w) ys ≡ filter (ties below w) zs
  tails w y ys zs same =
      elim (ties below w y) as (λ b. cond b (y ∷ filter (ties below w) ys) (filter (ties below w) ys) ≡ cond b (y ∷ filter (ties below w) zs) (filter (ties below w) zs) → filter (ties below w) ys ≡ filter (ties below w) zs) [
        | true ↦ λ e. cc
        | false ↦ λ e. e
      ] same

  -- two lists in order, with the same ties in the same order, are one
  one_order : (ys zs : List X) → Ascends ys → Ascends zs → ((w : X) → filter (ties below w) ys ≡ filter (ties below w) zs) → ys ≡ zs
  one_order [] [] up upz same = refl
  one_order [] (z ∷ zs) up upz same = let wrong : [] ≡ z ∷ filter (ties below z) zs = same z ∙ itself_first z zs in cc
  one_order (y ∷ ys) [] up upz same = let wrong : y ∷ filter (ties below y) ys ≡ [] = sym (itself_first y ys) ∙ same y in cc
  one_order (y ∷ ys) (z ∷ zs) up upz same =
      let e : y ≡ z = heads y z ys zs (not_less y z ys zs upz.0 (same y)) (not_less z y zs ys up.0 (sym (same z))) (same y) in
      let rest : (w : X) → filter (ties below w) ys ≡ filter (ties below w) zs = λ w. tails w y ys zs (same w ∙ ap (λ x. filter (ties below w) (x ∷ zs)) (sym e)) in
      ap (λ x. x ∷ ys) e ∙ ap (λ xs. z ∷ xs) (one_order ys zs up.1 upz.1 rest)

  -- what a sort says by neighbours
  ascends : (ys : List X) → IsSortedBy below ys → Ascends ys
  ascends [] up = tt
  ascends (y ∷ []) up = (tt, tt)
  ascends (y ∷ z ∷ zs) up =
      let later : Ascends (z ∷ zs) = ascends (z ∷ zs) (λ k d low high. rw add-one (rw add-one at (up (suc k) d (omega arith) (omega arith)))) in
      let here : below z y ≡ false = up 0 y (omega arith) (omega arith) in
      ((here, all_further z y zs here later.0), later)

  -- a stable sort yields `sorted_by`
  pub sorted_is : (xs ys : List X) → IsSortedBy below ys → IsStableBy below xs ys → ys ≡ sorted_by below xs
  sorted_is xs ys up stable = one_order ys (sorted_by below xs) (ascends ys up) (sort_ascends xs) (λ w. stable w ∙ sym (sort_ties w xs))
