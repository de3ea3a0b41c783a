-- What holds of lists one after the other, and of what is found in them.
use Rattle.std.proofs.Common.{◌≡◌, List, [], ◌∷◌, ◌++◌, Bool, true, false, Option, Some, None, ◌⊎◌, inl, inr, refl, ap, sym, ◌∙◌}
use Rattle.std.specs.Prelude.{if◌then◌else◌}
use Rattle.std.specs.List.{AllByRecursion, find, filter_map, cons_option}
use Rattle.subsume.proofs.Members.{In}

pub append_none : {X : Type 0} (xs : List X) → xs ++ [] ≡ xs
append_none [] = refl
append_none (x ∷ xs) = ap (λ ys. x ∷ ys) (append_none xs)

pub all_append : {X : Type 0} (P : X → Type 0) (xs ys : List X) → AllByRecursion P xs → AllByRecursion P ys → AllByRecursion P (xs ++ ys)
all_append P [] ys h k = k
all_append P (x ∷ xs) ys h k = (h.0, all_append P xs ys h.1 k)

pub all_from : {X : Type 0} (P : X → Type 0) (xs : List X) → ((x : X) → In x xs → P x) → AllByRecursion P xs
all_from P [] h = tt
all_from P (x ∷ xs) h = (h x (inl refl), all_from P xs (λ y i. h y (inr i)))

pub in_first : {X : Type 0} (xs ys : List X) (x : X) → In x xs → In x (xs ++ ys)
in_first [] ys x i = absurd i
in_first (y ∷ xs) ys x (inl e) = inl e
in_first (y ∷ xs) ys x (inr i) = inr (in_first xs ys x i)

pub in_second : {X : Type 0} (xs ys : List X) (y : X) → In y ys → In y (xs ++ ys)
in_second [] ys y i = i
in_second (x ∷ xs) ys y i = inr (in_second xs ys y i)

pub in_one_of : {X : Type 0} (xs ys : List X) (x : X) → In x (xs ++ ys) → In x xs ⊎ In x ys
in_one_of [] ys x i = inr i
in_one_of (y ∷ xs) ys x (inl e) = inl (inl e)
in_one_of (y ∷ xs) ys x (inr i) = elim (in_one_of xs ys x i) [ inl j ↦ inl (inr j) | inr j ↦ inr j ]

pub in_last : {X : Type 0} (xs : List X) (x : X) → In x (xs ++ x ∷ [])
in_last xs x = in_second xs (x ∷ []) x (inl refl)

pub last_or : {X : Type 0} (xs : List X) (y x : X) → In x (xs ++ y ∷ []) → In x xs ⊎ (x ≡ y)
last_or xs y x i = elim (in_one_of xs (y ∷ []) x i) [ inl j ↦ inl j | inr j ↦ elim j [ inl e ↦ inr e | inr never ↦ absurd never ] ]

-- ## What is found

pub found_in : {X : Type 0} (p : X → Bool) (xs : List X) (x : X) → find p xs ≡ Some x → In x xs × (p x ≡ true)
found_in p [] x e = cc
found_in p (y ∷ ys) x e = elim (p y) as (λ b. p y ≡ b → (if b then Some y else find p ys) ≡ Some x → In x (y ∷ ys) × (p x ≡ true)) [
  | true ↦ λ is first. let same : y ≡ x = cc in (inl (sym same), ap p (sym same) ∙ is)
  | false ↦ λ is rest. let more = found_in p ys x rest in (inr more.0, more.1)
] refl e

pub filter_map_in : {X Y : Type 0} (f : X → Option Y) (xs : List X) (y : Y) → In y (filter_map f xs) → (x : X) × In x xs × (f x ≡ Some y)
filter_map_in f [] y i = absurd i
filter_map_in {X = X} {Y = Y} f (x ∷ xs) y i = go (f x) refl (λ j. filter_map_in f xs y j) i
  where
    go : (o : Option Y) → f x ≡ o → (In y (filter_map f xs) → (z : X) × In z xs × (f z ≡ Some y)) → In y (cons_option o (filter_map f xs)) → (z : X) × In z (x ∷ xs) × (f z ≡ Some y)
    go None e later j = let more = later j in (more.0, inr more.1, more.2)
    go (Some z) e later (inl is) = (x, inl refl, e ∙ ap Some (sym is))
    go (Some z) e later (inr j) = let more = later j in (more.0, inr more.1, more.2)
