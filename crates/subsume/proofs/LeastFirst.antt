-- The first of some elements by a test: which one it is, and what it is.
use Rattle.std.proofs.Common.{◌≡◌, List, [], ◌∷◌, Bool, true, false, true≢false, Option, Some, None, ◌⊎◌, inl, inr, refl, ap, sym, ◌∙◌, subst}
use Rattle.std.specs.Prelude.{fold, if◌then◌else◌}
use Rattle.std.specs.Option.{option_map_or}
use Rattle.std.specs.Cmp.{IsStrictWeakOrder}
use Rattle.cell_core.specs.Sorted.{first_by}
use Rattle.subsume.proofs.Members.{In}
use Rattle.subsume.proofs.Orderings.{never_itself}

module _ {X : Type 0} where
  abbrev pub IsLeastBeside : (X → X → Bool) → X → X → Type 0
  IsLeastBeside before x z = (z ≡ x) ⊎ ((before x z ≡ true) × (before z x ≡ false))

  abbrev Rest : (X → X → Bool) → X → List X → Type 0
  Rest before x ys = (b : X) → ((Some b ≡ Some x) ⊎ In x ys) → ((z : X) → Some b ≡ Some z → IsLeastBeside before x z) → fold (λ best x. Some (option_map_or (λ b. if before x b then x else b) best x)) (Some b) ys ≡ Some x

  -- the one that comes before all others is found, in whatever order they are
  pub least_first : (before : X → X → Bool) (x : X) (xs : List X) (best : Option X) → ((best ≡ Some x) ⊎ In x xs)
      → ((y : X) → best ≡ Some y → (y ≡ x) ⊎ ((before x y ≡ true) × (before y x ≡ false)))
      → ((y : X) → In y xs → (y ≡ x) ⊎ ((before x y ≡ true) × (before y x ≡ false)))
      → fold (λ best x. Some (option_map_or (λ b. if before x b then x else b) best x)) best xs ≡ Some x
  least_first before x [] best (inl is) hb hs = is
  least_first before x [] best (inr never) hb hs = absurd never
  least_first before x (y ∷ ys) None h hb hs = least_first before x ys (Some y) there (λ z e. let is : z ≡ y = cc in elim (hs y (inl refl)) [ inl same ↦ inl (is ∙ same) | inr two ↦ inr (ap (before x) is ∙ two.0, ap (λ w. before w x) is ∙ two.1) ]) (λ z i. hs z (inr i))
    where
      there : (Some y ≡ Some x) ⊎ In x ys
      there = elim h [ inl never ↦ cc | inr i ↦ elim i [ inl is ↦ inl (ap (λ z. Some z) (sym is)) | inr more ↦ inr more ] ]
  least_first before x (y ∷ ys) (Some b) h hb hs = step (λ b there hb. least_first before x ys (Some b) there hb (λ z i. hs z (inr i))) (before y b) refl
    where
      all : (z : X) → IsLeastBeside before x z → (w : X) → Some z ≡ Some w → IsLeastBeside before x w
      all z h w e = let is : z ≡ w = cc in subst (IsLeastBeside before x) is h

      step : Rest before x ys → (r : Bool) → before y b ≡ r → fold (λ best x. Some (option_map_or (λ b. if before x b then x else b) best x)) (Some (if before y b then y else b)) ys ≡ Some x
      step rest true e = ap (λ r. fold (λ best x. Some (option_map_or (λ b. if before x b then x else b) best x)) (Some (if r then y else b)) ys) e ∙ rest y (here h) (all y (hs y (inl refl)))
        where
          here : ((Some b ≡ Some x) ⊎ In x (y ∷ ys)) → (Some y ≡ Some x) ⊎ In x ys
          here (inl is) = elim (hs y (inl refl)) [
            | inl same ↦ inl (ap (λ z. Some z) same)
            | inr two ↦ let same : b ≡ x = cc in let no_more : before y x ≡ true = ap (before y) (sym same) ∙ e in absurd (true≢false (sym no_more ∙ two.1))
          ]
          here (inr (inl is)) = inl (ap (λ z. Some z) (sym is))
          here (inr (inr more)) = inr more
      step rest false e = ap (λ r. fold (λ best x. Some (option_map_or (λ b. if before x b then x else b) best x)) (Some (if r then y else b)) ys) e ∙ rest b (here h) hb
        where
          here : ((Some b ≡ Some x) ⊎ In x (y ∷ ys)) → (Some b ≡ Some x) ⊎ In x ys
          here (inl is) = inl is
          here (inr (inl is)) = elim (hb b refl) [
            | inl same ↦ inl (ap (λ z. Some z) same)
            | inr two ↦ let no_more : before x b ≡ false = ap (λ z. before z b) is ∙ e in absurd (true≢false (sym two.0 ∙ no_more))
          ]
          here (inr (inr more)) = inr more

  -- the first by a test is one of the elements
  fold_in : (before : X → X → Bool) (xs : List X) (best : Option X) (x : X) → fold (λ best x. Some (option_map_or (λ b. if before x b then x else b) best x)) best xs ≡ Some x → (best ≡ Some x) ⊎ In x xs
  fold_in before [] best x e = inl e
  fold_in before (y ∷ ys) None x e = elim (fold_in before ys (Some y) x e) [ inl is ↦ (let same : x ≡ y = cc in inr (inl same)) | inr more ↦ inr (inr more) ]
  fold_in before (y ∷ ys) (Some b) x e = elim (fold_in before ys (Some (if before y b then y else b)) x e) [ inl is ↦ go (before y b) is | inr more ↦ inr (inr more) ]
    where
      go : (r : Bool) → Some (if r then y else b) ≡ Some x → (Some b ≡ Some x) ⊎ In x (y ∷ ys)
      go true is = let same : x ≡ y = cc in inr (inl same)
      go false is = inl is

  pub first_in : (before : X → X → Bool) (xs : List X) (x : X) → first_by before xs ≡ Some x → In x xs
  first_in before xs x e = elim (fold_in before xs None x e) [ inl never ↦ cc | inr h ↦ h ]

  fold_some : (before : X → X → Bool) (xs : List X) (b : X) → fold (λ best x. Some (option_map_or (λ b. if before x b then x else b) best x)) (Some b) xs ≡ None → ⊥
  fold_some before [] b e = cc
  fold_some before (y ∷ ys) b e = fold_some before ys (if before y b then y else b) e

  -- some element is first, where there is one
  pub none_first : (before : X → X → Bool) (xs : List X) (x : X) → first_by before xs ≡ None → In x xs → ⊥
  none_first before [] x e h = h
  none_first before (y ∷ ys) x e h = fold_some before ys y e

module _ {X : Type 0} (before : X → X → Bool) (order : IsStrictWeakOrder before) where
  abbrev pick : Option X → X → Option X
  pick best x = Some (option_map_or (λ b. if before x b then x else b) best x)

  -- none comes before the first
  fold_first : (xs : List X) (best : Option X) (x : X) → fold pick best xs ≡ Some x → ((b : X) → best ≡ Some b → before b x ≡ false) × ((y : X) → In y xs → before y x ≡ false)
  fold_first [] best x e = (λ b is. let same : b ≡ x = cc in ap (λ z. before z x) same ∙ never_itself order x, λ y i. absurd i)
  fold_first (y ∷ ys) None x e =
      let rest = fold_first ys (Some y) x e in
      (λ b is. cc, λ z i. elim i [ inl is ↦ ap (λ w. before w x) is ∙ rest.0 y refl | inr more ↦ rest.1 z more ])
  fold_first (y ∷ ys) (Some b) x e =
      let rest = fold_first ys (Some (if before y b then y else b)) x e in
      let two : (before b x ≡ false) × (before y x ≡ false) = go (before y b) refl (rest.0 (if before y b then y else b) refl) in
      (λ z is. let same : b ≡ z = cc in ap (λ w. before w x) (sym same) ∙ two.0, λ z i. elim i [ inl is ↦ ap (λ w. before w x) is ∙ two.1 | inr more ↦ rest.1 z more ])
    where
      go : (r : Bool) → before y b ≡ r → before (if r then y else b) x ≡ false → (before b x ≡ false) × (before y x ≡ false)
      go true h k = (order.chain b y x (order.one_way y b h) k, k)
      go false h k = (k, order.chain y b x h k)

  pub none_before : (xs : List X) (x : X) → first_by before xs ≡ Some x → (y : X) → In y xs → before y x ≡ false
  none_before xs x e = (fold_first xs None x e).1
