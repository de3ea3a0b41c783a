-- What is numbered by the keys that it is made of, and what lies together in columns.
use Rattle.std.proofs.Common.{◌≡◌, ℕ, suc, zero, ◌+◌, ◌<◌, ◌≤◌, Bool, true, false, not, cond, List, [], ◌∷◌, ◌++◌, length, get_or, take, map, refl, sym, ap, subst, ◌∙◌, arith, append_assoc}
use Rattle.std.specs.Prelude.{filter}
use Rattle.std.specs.Cmp.{IsEquivalence}
use Rattle.std.specs.List.{position_or_len, zip}
use Rattle.std.proofs.lemmas.List.{length-take-le, take_more, map_push}
use Rattle.cell_core.specs.declared.cell.Cell.{Cell}
use Rattle.cell_core.specs.declared.cell.Cell.TheVariants.{Oid}
use Rattle.cell_core.specs.Groups.{distinct, group_number}
use Rattle.bat_group.specs.Numbers.{with_first, AreNumbered}
use Rattle.bat_group.specs.declared.numbered.Numbered.{Numbered}
use Rattle.bat_group.specs.Keys.{AreKeys, AreMade}
use Rattle.bat_group.proofs.NumberLemmas.{distinct_push, numbers_push}

module _ {K X : Type 0} (same_k : K → K → Bool) (same : X → X → Bool) (made : K → X) (agree : (a b : K) → same (made a) (made b) ≡ same_k a b) where
  filter_made : (n : K) (keys : List K) → filter (λ y. not (same (made n) y)) (map made keys) ≡ map made (filter (λ k. not (same_k n k)) keys)
  filter_made n [] = refl
  filter_made n (k ∷ keys) =
      ap (λ b. cond (not b) (made k ∷ filter (λ y. not (same (made n) y)) (map made keys)) (filter (λ y. not (same (made n) y)) (map made keys))) (agree n k)
      ∙ elim (same_k n k) as (λ b. cond (not b) (made k ∷ filter (λ y. not (same (made n) y)) (map made keys)) (filter (λ y. not (same (made n) y)) (map made keys)) ≡ map made (cond (not b) (k ∷ filter (λ j. not (same_k n j)) keys) (filter (λ j. not (same_k n j)) keys))) [
        | true ↦ filter_made n keys
        | false ↦ ap (λ l. made k ∷ l) (filter_made n keys)
      ]

  distinct_made : (keys : List K) → distinct same (map made keys) ≡ map made (distinct same_k keys)
  distinct_made [] = refl
  distinct_made (k ∷ keys) = ap (λ l. made k ∷ filter (λ y. not (same (made k) y)) l) (distinct_made keys) ∙ ap (λ l. made k ∷ l) (filter_made k (distinct same_k keys))

  place_made : (n : K) (keys : List K) → position_or_len (λ y. same y (made n)) (map made keys) ≡ position_or_len (λ k. same_k k n) keys
  place_made n [] = refl
  place_made n (k ∷ keys) =
      ap (λ b. cond (not b) (1 + position_or_len (λ y. same y (made n)) (map made keys)) 0) (agree k n) ∙ ap (λ m. cond (not (same_k k n)) (1 + m) 0) (place_made n keys)

  -- the number of what is made of a key is that of the key
  number_made : (n : K) (cells : List X) (keys : List K) → cells ≡ map made keys → position_or_len (λ k. same_k k n) (distinct same_k keys) ≡ position_or_len (λ y. same y (made n)) (distinct same cells)
  number_made n cells keys are = sym (ap (λ l. position_or_len (λ y. same y (made n)) (distinct same l)) are ∙ ap (position_or_len (λ y. same y (made n))) (distinct_made keys) ∙ place_made n (distinct same_k keys))

  -- and so are the numbers of all
  pub numbers_made : {Y : Type 0} (f : ℕ → Y) (cells : List X) (keys : List K) → cells ≡ map made keys → map (λ k. f (group_number same_k keys k)) keys ≡ map (λ c. f (group_number same cells c)) cells
  numbers_made f cells keys are = each keys ∙ ap (map (λ c. f (group_number same cells c))) (sym are)
    where
      each : (ks : List K) → map (λ k. f (group_number same_k keys k)) ks ≡ map (λ c. f (group_number same cells c)) (map made ks)
      each [] = refl
      each (k ∷ ks) = ap (λ n. f n ∷ map (λ j. f (group_number same_k keys j)) ks) (number_made k cells keys are) ∙ ap (λ l. f (group_number same cells (made k)) ∷ l) (each ks)

-- one key more, with the number that it was found under
pub keys_next : {K : Type 0} (same : K → K → Bool) (laws : IsEquivalence same) (old new : Numbered K) (keys : List K) (k : K) (n : ℕ) → AreKeys same old keys → AreNumbered same new.numbers new.count (with_first same (distinct same keys) k)
    → n ≡ position_or_len (λ y. same y k) (distinct same keys) → new.out ≡ old.out ++ Oid n ∷ [] → AreKeys same new (keys ++ k ∷ [])
keys_next same laws old new keys k n so_far known place more = record {
  known = subst (AreNumbered same new.numbers new.count) (sym (distinct_push same laws keys k)) known;
  out = numbers_push same laws Oid keys k old.out new.out n so_far.out place more;
}

-- one key more, and what is made of it
pub made_next : {K X : Type 0} (same : K → K → Bool) (made : K → X) (old new : Numbered K) (before elements : List X) (i : ℕ) (k : K) → i < length elements → made k ≡ get_or elements i (made k)
    → ((keys : List K) → AreKeys same old keys → AreKeys same new (keys ++ k ∷ [])) → AreMade same made old (before ++ take i elements) → AreMade same made new (before ++ take (i + 1) elements)
made_next same made old new before elements i k within read step so_far = record {
  keys = so_far.keys ++ k ∷ [];
  are = sym next ∙ ap (λ l. l ++ made k ∷ []) so_far.are ∙ sym (map_push made so_far.keys k);
  numbered = step so_far.keys so_far.numbered;
}
  where
    next : (before ++ take i elements) ++ made k ∷ [] ≡ before ++ take (i + 1) elements
    next = append_assoc before (take i elements) (made k ∷ []) ∙ ap (λ l. before ++ l) (ap (λ x. take i elements ++ x ∷ []) read ∙ sym (take_more elements i (made k) within))

zip_append : (xs ys ps qs : List Cell) → length xs ≡ length ys → zip (xs ++ ps) (ys ++ qs) ≡ zip xs ys ++ zip ps qs
zip_append [] [] ps qs even = refl
zip_append [] (y ∷ ys) ps qs even = absurd (omega arith)
zip_append (x ∷ xs) [] ps qs even = absurd (omega arith)
zip_append (x ∷ xs) (y ∷ ys) ps qs even = ap (λ l. (x, y) ∷ l) (zip_append xs ys ps qs (omega arith))

zip_front : (n : ℕ) (xs ys : List Cell) → take n (zip xs ys) ≡ zip (take n xs) (take n ys)
zip_front zero xs ys = refl
zip_front (suc n) [] ys = refl
zip_front (suc n) (x ∷ xs) [] = refl
zip_front (suc n) (x ∷ xs) (y ∷ ys) = ap (λ l. (x, y) ∷ l) (zip_front n xs ys)

-- what lies together in both columns lies together in their pairs
pub zip_run : (xs ys ps qs : List Cell) (from n : ℕ) → from ≤ length xs → from ≤ length ys → take (from + n) xs ≡ take from xs ++ ps → take (from + n) ys ≡ take from ys ++ qs → take (from + n) (zip xs ys) ≡ take from (zip xs ys) ++ zip ps qs
zip_run xs ys ps qs from n left right a b =
    zip_front (from + n) xs ys ∙ ap (λ l. zip l (take (from + n) ys)) a ∙ ap (zip (take from xs ++ ps)) b
    ∙ zip_append (take from xs) (take from ys) ps qs (length-take-le from xs left ∙ sym (length-take-le from ys right))
    ∙ ap (λ l. l ++ zip ps qs) (sym (zip_front from xs ys))
