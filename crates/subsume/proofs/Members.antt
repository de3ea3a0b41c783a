-- Members of a list, by recursion.
use Rattle.std.proofs.Common.{◌≡◌, ℕ, zero, suc, ◌<◌, List, [], ◌∷◌, ◌++◌, Bool, true, false, ◌&&◌, ◌||◌, cond, ◌⊎◌, inl, inr, refl, ap, sym, ◌∙◌, subst, arith, length, slice_index_or, map}
use Rattle.std.specs.Prelude.{All, Contains, filter, flat_map}
use Rattle.std.specs.List.{list_all, list_any}
use Rattle.std.specs.Cmp.{first_so, second_so}

module _ {X : Type 0} where
  -- x is one of the elements
  abbrev pub In : X → List X → Type 0
  In x [] = ⊥
  In x (y ∷ ys) = (x ≡ y) ⊎ In x ys

  pub in_at : (xs : List X) (k : ℕ) (d : X) → k < length xs → In (slice_index_or xs k d) xs
  in_at [] k d low = absurd (omega arith)
  in_at (x ∷ xs) zero d low = inl refl
  in_at (x ∷ xs) (suc k) d low = inr (in_at xs k d (omega arith))

  pub in_from_contains : (xs : List X) (x : X) → Contains xs x → In x xs
  in_from_contains xs x (k, low, is) = subst (λ y. In y xs) is (in_at xs k x low)

  pub contains_from_in : (xs : List X) (x : X) → In x xs → Contains xs x
  contains_from_in [] x h = absurd h
  contains_from_in (y ∷ ys) x (inl e) = (0, omega arith, sym e)
  contains_from_in (y ∷ ys) x (inr h) = let c = contains_from_in ys x h in (suc c.0, omega (arith, c.1), c.2)

  pub all_from_in : (P : X → Type 0) (xs : List X) → ((x : X) → In x xs → P x) → All P xs
  all_from_in P xs h k d low = h (slice_index_or xs k d) (in_at xs k d low)

  pub all_in : (P : X → Type 0) (xs : List X) (x : X) → All P xs → In x xs → P x
  all_in P xs x all h = let c = contains_from_in xs x h in subst P c.2 (all c.0 x c.1)

  pub list_all_in : (p : X → Bool) (xs : List X) (x : X) → list_all p xs ≡ true → In x xs → p x ≡ true
  list_all_in p [] x e h = absurd h
  list_all_in p (y ∷ ys) x e (inl is) = ap p is ∙ first_so (p y) (list_all p ys) e
  list_all_in p (y ∷ ys) x e (inr h) = list_all_in p ys x (second_so (p y) (list_all p ys) e) h

  pub list_all_from_in : (p : X → Bool) (xs : List X) → ((x : X) → In x xs → p x ≡ true) → list_all p xs ≡ true
  list_all_from_in p [] h = refl
  list_all_from_in p (y ∷ ys) h = ap (λ b. b && list_all p ys) (h y (inl refl)) ∙ list_all_from_in p ys (λ x i. h x (inr i))

  pub list_any_from_in : (p : X → Bool) (xs : List X) (x : X) → In x xs → p x ≡ true → list_any p xs ≡ true
  list_any_from_in p [] x h e = absurd h
  list_any_from_in p (y ∷ ys) x (inl is) e = ap (λ b. b || list_any p ys) (ap p (sym is) ∙ e)
  list_any_from_in p (y ∷ ys) x (inr h) e = let more = list_any_from_in p ys x h e in elim (p y) as (λ b. (b || list_any p ys) ≡ true) [ true ↦ refl | false ↦ more ]

  pub in_from_list_any : (p : X → Bool) (xs : List X) → list_any p xs ≡ true → (x : X) × In x xs × (p x ≡ true)
  in_from_list_any p [] e = cc
  in_from_list_any p (y ∷ ys) e = elim (p y) as (λ b. p y ≡ b → (b || list_any p ys) ≡ true → (x : X) × In x (y ∷ ys) × (p x ≡ true)) [
    | true ↦ λ is _. (y, inl refl, is)
    | false ↦ λ is more. let found = in_from_list_any p ys more in (found.0, inr found.1, found.2)
  ] refl e

  pub in_filter : (p : X → Bool) (xs : List X) (x : X) → In x xs → p x ≡ true → In x (filter p xs)
  in_filter p [] x h e = absurd h
  in_filter p (y ∷ ys) x (inl is) e = let here : p y ≡ true = ap p (sym is) ∙ e in ap_in here
    where
      ap_in : p y ≡ true → In x (filter p (y ∷ ys))
      ap_in here = subst (λ b. In x (cond b (y ∷ filter p ys) (filter p ys))) (sym here) (inl is)
  in_filter p (y ∷ ys) x (inr h) e = elim (p y) as (λ b. In x (cond b (y ∷ filter p ys) (filter p ys))) [ true ↦ inr (in_filter p ys x h e) | false ↦ in_filter p ys x h e ]

  pub filter_in : (p : X → Bool) (xs : List X) (x : X) → In x (filter p xs) → In x xs × (p x ≡ true)
  filter_in p [] x h = absurd h
  filter_in p (y ∷ ys) x h = elim (p y) as (λ b. p y ≡ b → In x (cond b (y ∷ filter p ys) (filter p ys)) → In x (y ∷ ys) × (p x ≡ true)) [
    | true ↦ λ is i. elim i [ inl e ↦ (inl e, ap p e ∙ is) | inr more ↦ let f = filter_in p ys x more in (inr f.0, f.1) ]
    | false ↦ λ is i. let f = filter_in p ys x i in (inr f.0, f.1)
  ] refl h

pub in_map : {X Y : Type 0} (f : X → Y) (xs : List X) (x : X) → In x xs → In (f x) (map f xs)
in_map f [] x h = absurd h
in_map f (y ∷ ys) x (inl e) = inl (ap f e)
in_map f (y ∷ ys) x (inr h) = inr (in_map f ys x h)

pub map_in : {X Y : Type 0} (f : X → Y) (xs : List X) (y : Y) → In y (map f xs) → (x : X) × In x xs × (y ≡ f x)
map_in f [] y h = absurd h
map_in f (x ∷ xs) y (inl e) = (x, inl refl, e)
map_in f (x ∷ xs) y (inr h) = let found = map_in f xs y h in (found.0, inr found.1, found.2)

module _ {X : Type 0} where
  in_left : (xs ys : List X) (x : X) → In x xs → In x (xs ++ ys)
  in_left [] ys x h = absurd h
  in_left (y ∷ xs) ys x (inl e) = inl e
  in_left (y ∷ xs) ys x (inr h) = inr (in_left xs ys x h)

  in_right : (xs ys : List X) (x : X) → In x ys → In x (xs ++ ys)
  in_right [] ys x h = h
  in_right (y ∷ xs) ys x h = inr (in_right xs ys x h)

  in_either : (xs ys : List X) (x : X) → In x (xs ++ ys) → In x xs ⊎ In x ys
  in_either [] ys x h = inr h
  in_either (y ∷ xs) ys x (inl e) = inl (inl e)
  in_either (y ∷ xs) ys x (inr h) = elim (in_either xs ys x h) [ inl i ↦ inl (inr i) | inr i ↦ inr i ]

module _ {X Y : Type 0} (f : X → List Y) where
  pub in_flat_map : (xs : List X) (x : X) (y : Y) → In x xs → In y (f x) → In y (flat_map f xs)
  in_flat_map [] x y h i = absurd h
  in_flat_map (z ∷ xs) x y (inl e) i = in_left (f z) (flat_map f xs) y (subst (λ w. In y (f w)) e i)
  in_flat_map (z ∷ xs) x y (inr h) i = in_right (f z) (flat_map f xs) y (in_flat_map xs x y h i)

  pub flat_map_in : (xs : List X) (y : Y) → In y (flat_map f xs) → (x : X) × In x xs × In y (f x)
  flat_map_in [] y h = absurd h
  flat_map_in (z ∷ xs) y h = elim (in_either (f z) (flat_map f xs) y h) [
    | inl i ↦ (z, inl refl, i)
    | inr more ↦ let found = flat_map_in xs y more in (found.0, inr found.1, found.2)
  ]
