-- Small facts of lists and tests.
use Rattle.std.proofs.Common.{◌≡◌, ◌+◌, List, [], ◌∷◌, ◌++◌, length, map, filter, Bool, true, false, ◌&&◌, ◌||◌, cond, refl, ap, ◌∙◌, length-append}
use Rattle.std.specs.Prelude.{flat_map}
use Rattle.std.specs.List.{AllByRecursion, list_any, list_all}
use Rattle.std.proofs.lemmas.List.{map-append}
use Rattle.std.proofs.lemmas.List.Concat.{flat_map-append}

-- ## Tests

pub and_swaps : (a b : Bool) → a && b ≡ b && a
and_swaps true true = refl
and_swaps true false = refl
and_swaps false true = refl
and_swaps false false = refl

pub and_none : (a : Bool) → a && false ≡ false
and_none true = refl
and_none false = refl

pub and_assoc : (a b c : Bool) → a && (b && c) ≡ (a && b) && c
and_assoc true b c = refl
and_assoc false b c = refl

pub or_assoc : (a b c : Bool) → a || (b || c) ≡ (a || b) || c
or_assoc true b c = refl
or_assoc false b c = refl

pub or_right_true : (a b : Bool) → b ≡ true → a || b ≡ true
or_right_true true b e = refl
or_right_true false b e = e

-- ## Some and all elements

pub any_append : {X : Type 0} (t : X → Bool) (xs ys : List X) → list_any t (xs ++ ys) ≡ list_any t xs || list_any t ys
any_append t [] ys = refl
any_append t (x ∷ xs) ys = ap (λ b. t x || b) (any_append t xs ys) ∙ or_assoc (t x) (list_any t xs) (list_any t ys)

pub each_append : {X : Type 0} (t : X → Bool) (xs ys : List X) → list_all t (xs ++ ys) ≡ list_all t xs && list_all t ys
each_append t [] ys = refl
each_append t (x ∷ xs) ys = ap (λ b. t x && b) (each_append t xs ys) ∙ and_assoc (t x) (list_all t xs) (list_all t ys)

pub any_map : {X Y : Type 0} (t : Y → Bool) (f : X → Y) (xs : List X) → list_any (λ x. t (f x)) xs ≡ list_any t (map f xs)
any_map t f [] = refl
any_map t f (x ∷ xs) = ap (λ b. t (f x) || b) (any_map t f xs)

pub any_same : {X : Type 0} (t u : X → Bool) → ((x : X) → t x ≡ u x) → (xs : List X) → list_any t xs ≡ list_any u xs
any_same t u h [] = refl
any_same t u h (x ∷ xs) = ap (λ b. b || list_any t xs) (h x) ∙ ap (λ b. u x || b) (any_same t u h xs)

pub all_append : {X : Type 0} (Q : X → Type 0) (xs ys : List X) → AllByRecursion Q xs → AllByRecursion Q ys → AllByRecursion Q (xs ++ ys)
all_append Q [] ys a b = b
all_append Q (x ∷ xs) ys a b = (a.0, all_append Q xs ys a.1 b)

pub all_map : {X Y : Type 0} (Q : Y → Type 0) (f : X → Y) (xs : List X) → AllByRecursion (λ x. Q (f x)) xs → AllByRecursion Q (map f xs)
all_map Q f [] a = tt
all_map Q f (x ∷ xs) a = (a.0, all_map Q f xs a.1)

pub all_filter : {X : Type 0} (Q : X → Type 0) (t : X → Bool) (xs : List X) → AllByRecursion Q xs → AllByRecursion Q (filter t xs)
all_filter Q t [] h = h
all_filter Q t (x ∷ xs) h = elim (t x) as (λ b. AllByRecursion Q (cond b (x ∷ filter t xs) (filter t xs))) [
  | true ↦ (h.0, all_filter Q t xs h.1)
  | false ↦ all_filter Q t xs h.1
]

-- what holds of an element follows from what holds of it
pub all_along : {X : Type 0} (Q R : X → Type 0) → ((x : X) → Q x → R x) → (xs : List X) → AllByRecursion Q xs → AllByRecursion R xs
all_along Q R f [] a = tt
all_along Q R f (x ∷ xs) a = (f x a.0, all_along Q R f xs a.1)

pub all_any : {X : Type 0} (Q : X → Type 0) → ((x : X) → Q x) → (xs : List X) → AllByRecursion Q xs
all_any Q f [] = tt
all_any Q f (x ∷ xs) = (f x, all_any Q f xs)

pub all_both : {X : Type 0} (Q R S : X → Type 0) → ((x : X) → Q x → R x → S x) → (xs : List X) → AllByRecursion Q xs → AllByRecursion R xs → AllByRecursion S xs
all_both Q R S f [] a b = tt
all_both Q R S f (x ∷ xs) a b = (f x a.0 b.0, all_both Q R S f xs a.1 b.1)

-- ## Maps

pub longer : {X : Type 0} (xs : List X) (x : X) → length (xs ++ x ∷ []) ≡ length xs + 1
longer xs x = length-append xs (x ∷ [])

pub map_after : {X Y Z : Type 0} (g : Y → Z) (f : X → Y) (xs : List X) → map g (map f xs) ≡ map (λ x. g (f x)) xs
map_after g f [] = refl
map_after g f (x ∷ xs) = ap (λ r. g (f x) ∷ r) (map_after g f xs)

pub map_agree : {X Y : Type 0} (f g : X → Y) → ((x : X) → f x ≡ g x) → (xs : List X) → map f xs ≡ map g xs
map_agree f g h [] = refl
map_agree f g h (x ∷ xs) = ap (λ y. y ∷ map f xs) (h x) ∙ ap (λ r. g x ∷ r) (map_agree f g h xs)

pub map_agree_all : {X Y : Type 0} (f g : X → Y) (xs : List X) → AllByRecursion (λ x. f x ≡ g x) xs → map f xs ≡ map g xs
map_agree_all f g [] a = refl
map_agree_all f g (x ∷ xs) a = ap (λ y. y ∷ map f xs) a.0 ∙ ap (λ r. g x ∷ r) (map_agree_all f g xs a.1)

pub flat_map_agree : {X Y : Type 0} (f g : X → List Y) → ((x : X) → f x ≡ g x) → (xs : List X) → flat_map f xs ≡ flat_map g xs
flat_map_agree f g h [] = refl
flat_map_agree f g h (x ∷ xs) = ap (λ r. r ++ flat_map f xs) (h x) ∙ ap (λ r. g x ++ r) (flat_map_agree f g h xs)

pub map_flat_map : {X Y Z : Type 0} (g : Y → Z) (f : X → List Y) (xs : List X) → map g (flat_map f xs) ≡ flat_map (λ x. map g (f x)) xs
map_flat_map g f [] = refl
map_flat_map g f (x ∷ xs) = map-append g (f x) (flat_map f xs) ∙ ap (λ r. map g (f x) ++ r) (map_flat_map g f xs)

pub flat_map_map : {X Y Z : Type 0} (f : Y → List Z) (g : X → Y) (xs : List X) → flat_map f (map g xs) ≡ flat_map (λ x. f (g x)) xs
flat_map_map f g [] = refl
flat_map_map f g (x ∷ xs) = ap (λ r. f (g x) ++ r) (flat_map_map f g xs)

pub flat_map_flat_map : {X Y Z : Type 0} (f : Y → List Z) (g : X → List Y) (xs : List X) → flat_map f (flat_map g xs) ≡ flat_map (λ x. flat_map f (g x)) xs
flat_map_flat_map f g [] = refl
flat_map_flat_map f g (x ∷ xs) = flat_map-append f (g x) (flat_map g xs) ∙ ap (λ r. flat_map f (g x) ++ r) (flat_map_flat_map f g xs)

-- ## Filters

pub filter_all : {X : Type 0} (xs : List X) → filter (λ x. true) xs ≡ xs
filter_all [] = refl
filter_all (x ∷ xs) = ap (λ r. x ∷ r) (filter_all xs)

-- a filter goes through a map
pub filter_map_swaps : {X Y : Type 0} (t : Y → Bool) (f : X → Y) (xs : List X) → filter t (map f xs) ≡ map f (filter (λ x. t (f x)) xs)
filter_map_swaps t f [] = refl
filter_map_swaps t f (x ∷ xs) = elim (t (f x)) as (λ b. cond b (f x ∷ filter t (map f xs)) (filter t (map f xs)) ≡ map f (cond b (x ∷ filter (λ y. t (f y)) xs) (filter (λ y. t (f y)) xs))) [
  | true ↦ ap (λ r. f x ∷ r) (filter_map_swaps t f xs)
  | false ↦ filter_map_swaps t f xs
]

pub filter_filter : {X : Type 0} (t u : X → Bool) (xs : List X) → filter u (filter t xs) ≡ filter (λ x. t x && u x) xs
filter_filter t u [] = refl
filter_filter t u (x ∷ xs) = elim (t x) as (λ b. filter u (cond b (x ∷ filter t xs) (filter t xs)) ≡ cond (b && u x) (x ∷ filter (λ x. t x && u x) xs) (filter (λ x. t x && u x) xs)) [
  | true ↦ ap (λ r. cond (u x) (x ∷ r) r) (filter_filter t u xs)
  | false ↦ filter_filter t u xs
]

pub filter_agree_all : {X : Type 0} (t u : X → Bool) (xs : List X) → AllByRecursion (λ x. t x ≡ u x) xs → filter t xs ≡ filter u xs
filter_agree_all t u [] a = refl
filter_agree_all t u (x ∷ xs) a = ap (λ b. cond b (x ∷ filter t xs) (filter t xs)) a.0 ∙ ap (λ r. cond (u x) (x ∷ r) r) (filter_agree_all t u xs a.1)
