-- Tests that every element of a list passes.
use Rattle.std.specs.Prelude.{◌≡◌, ℕ, ◌+◌, List, [], ◌∷◌, ◌++◌, map, filter, flat_map, zip, find, Bool, true, false, ◌&&◌, cond, not, Option, Some, None, unwrap_or, refl}
use Rattle.std.specs.Cmp.{first_so, second_so}
use Rattle.std.proofs.Common.{subst}
use Rattle.std.specs.List.{list_all, enumerate_from}
use Rattle.std.specs.Option.{option_map, option_map_or}
use Rattle.std.proofs.lemmas.Bool.{and_from}
use Rattle.cell_core.specs.Calc.{all_or_none}
use Rattle.cell_core.specs.Groups.{distinct}

pub all_append : {X : Type 0} (p : X → Bool) (xs ys : List X) → list_all p xs ≡ true → list_all p ys ≡ true → list_all p (xs ++ ys) ≡ true
all_append p [] ys g h = h
all_append p (x ∷ xs) ys g h = and_from (p x) (list_all p (xs ++ ys)) (first_so (p x) (list_all p xs) g) (all_append p xs ys (second_so (p x) (list_all p xs) g) h)

pub all_filter : {X : Type 0} (p keep : X → Bool) (xs : List X) → list_all p xs ≡ true → list_all p (filter keep xs) ≡ true
all_filter p keep [] h = refl
all_filter p keep (x ∷ xs) h = elim (keep x) as (λ b. list_all p (cond b (x ∷ filter keep xs) (filter keep xs)) ≡ true) [
  | true ↦ and_from (p x) (list_all p (filter keep xs)) (first_so (p x) (list_all p xs) h) (all_filter p keep xs (second_so (p x) (list_all p xs) h))
  | false ↦ all_filter p keep xs (second_so (p x) (list_all p xs) h)
]

pub all_map : {X Y : Type 0} (p : X → Bool) (q : Y → Bool) (f : X → Y) → ((x : X) → p x ≡ true → q (f x) ≡ true) → (xs : List X) → list_all p xs ≡ true → list_all q (map f xs) ≡ true
all_map p q f step [] h = refl
all_map p q f step (x ∷ xs) h =
    and_from (q (f x)) (list_all q (map f xs)) (step x (first_so (p x) (list_all p xs) h)) (all_map p q f step xs (second_so (p x) (list_all p xs) h))

pub all_weaker : {X : Type 0} (p q : X → Bool) → ((x : X) → p x ≡ true → q x ≡ true) → (xs : List X) → list_all p xs ≡ true → list_all q xs ≡ true
all_weaker p q step [] h = refl
all_weaker p q step (x ∷ xs) h =
    and_from (q x) (list_all q xs) (step x (first_so (p x) (list_all p xs) h)) (all_weaker p q step xs (second_so (p x) (list_all p xs) h))

-- where each image passes, whatever it comes from
pub all_images : {X Y : Type 0} (q : Y → Bool) (f : X → Y) → ((x : X) → q (f x) ≡ true) → (xs : List X) → list_all q (map f xs) ≡ true
all_images q f step [] = refl
all_images q f step (x ∷ xs) = and_from (q (f x)) (list_all q (map f xs)) (step x) (all_images q f step xs)

pub all_flat_map : {X Y : Type 0} (p : X → Bool) (q : Y → Bool) (f : X → List Y) → ((x : X) → p x ≡ true → list_all q (f x) ≡ true) → (xs : List X) → list_all p xs ≡ true → list_all q (flat_map f xs) ≡ true
all_flat_map p q f step [] h = refl
all_flat_map p q f step (x ∷ xs) h =
    all_append q (f x) (flat_map f xs) (step x (first_so (p x) (list_all p xs) h)) (all_flat_map p q f step xs (second_so (p x) (list_all p xs) h))

pub all_zip : {X Y : Type 0} (p : X → Bool) (q : Y → Bool) (xs : List X) (ys : List Y) → list_all p xs ≡ true → list_all q ys ≡ true → list_all (λ z. p z.0 && q z.1) (zip xs ys) ≡ true
all_zip p q [] ys g h = refl
all_zip p q (x ∷ xs) [] g h = refl
all_zip p q (x ∷ xs) (y ∷ ys) g h =
    and_from (p x && q y) (list_all (λ z. p z.0 && q z.1) (zip xs ys))
    (and_from (p x) (q y) (first_so (p x) (list_all p xs) g) (first_so (q y) (list_all q ys) h))
    (all_zip p q xs ys (second_so (p x) (list_all p xs) g) (second_so (q y) (list_all q ys) h))

pub all_enumerated : {X : Type 0} (p : X → Bool) (xs : List X) (n : ℕ) → list_all p xs ≡ true → list_all (λ z. p z.1) (enumerate_from n xs) ≡ true
all_enumerated p [] n h = refl
all_enumerated p (x ∷ xs) n h =
    and_from (p x) (list_all (λ z. p z.1) (enumerate_from (n + 1) xs)) (first_so (p x) (list_all p xs) h) (all_enumerated p xs (n + 1) (second_so (p x) (list_all p xs) h))

pub all_distinct : {X : Type 0} (p : X → Bool) (same : X → X → Bool) (xs : List X) → list_all p xs ≡ true → list_all p (distinct same xs) ≡ true
all_distinct p same [] h = refl
all_distinct p same (x ∷ xs) h =
    and_from (p x) (list_all p (filter (λ y. not (same x y)) (distinct same xs))) (first_so (p x) (list_all p xs) h)
    (all_filter p (λ y. not (same x y)) (distinct same xs) (all_distinct p same xs (second_so (p x) (list_all p xs) h)))

-- what is found passes
pub found_passes : {X : Type 0} (p test : X → Bool) (d : X) (xs : List X) → p d ≡ true → list_all p xs ≡ true → p (unwrap_or (find test xs) d) ≡ true
found_passes p test d [] g h = g
found_passes p test d (x ∷ xs) g h = elim (test x) as (λ b. p (unwrap_or (cond b (Some x) (find test xs)) d) ≡ true) [
  | true ↦ first_so (p x) (list_all p xs) h
  | false ↦ found_passes p test d xs g (second_so (p x) (list_all p xs) h)
]

-- the values of those that all have one
pub some_is : {X : Type 0} (x y : X) → Some x ≡ Some y → x ≡ y
some_is x y h = cc

one_more : {X : Type 0} (p : X → Bool) (x : X) (found : Option (List X)) (ys : List X) → p x ≡ true → ((zs : List X) → found ≡ Some zs → list_all p zs ≡ true)
    → option_map (λ zs. x ∷ zs) found ≡ Some ys → list_all p ys ≡ true
one_more p x None ys px rest h = cc
one_more p x (Some zs) [] px rest h = cc
one_more {X = X} p x (Some zs) (y ∷ ys) px rest h =
    let first : x ≡ y = cc in
    let others : Some zs ≡ Some ys = cc in
    and_from (p y) (list_all p ys) (let P : X → Type 0 = λ z. p z ≡ true in subst P first px) (rest ys others)

pub all_found : {X : Type 0} (p : X → Bool) (xs : List (Option X)) (ys : List X) → list_all (λ x. option_map_or p x true) xs ≡ true → all_or_none xs ≡ Some ys → list_all p ys ≡ true
all_found p [] [] h e = refl
all_found p [] (y ∷ ys) h e = cc
all_found p (None ∷ xs) ys h e = cc
all_found p (Some x ∷ xs) ys h e = one_more p x (all_or_none xs) ys (first_so (p x) (list_all (λ x. option_map_or p x true) xs) h) (λ zs. all_found p xs zs (second_so (p x) (list_all (λ x. option_map_or p x true) xs) h)) e
