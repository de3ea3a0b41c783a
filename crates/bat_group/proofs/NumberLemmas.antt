-- Distinct elements and their numbers, one element on.
use Rattle.std.proofs.Common.{◌≡◌, ℕ, suc, ◌+◌, ◌<◌, Bool, true, false, not, ◌||◌, cond, List, [], ◌∷◌, ◌++◌, length, map, Option, None, Some, refl, sym, ap, subst, ◌∙◌, arith, append_assoc, append-nil}
use Rattle.std.specs.Prelude.{filter}
use Rattle.std.specs.List.{list_any, position_from, position_or_len}
use Rattle.std.specs.Option.{option_or}
use Rattle.std.specs.HashMap.{HashMap, get, Updates}
use Rattle.std.specs.Cmp.{IsEquivalence}
use Rattle.std.proofs.lemmas.List.{length_push, map_push}
use Rattle.std.proofs.lemmas.List.Elements.{filter-append}
use Rattle.std.proofs.lemmas.List.Folds.{list_any-append}
use Rattle.cell_core.specs.Groups.{distinct, group_number}
use Rattle.bat_group.specs.Numbers.{with_first, AreNumbered}

module _ {X : Type 0} (p : X → Bool) where
  -- where a place is found it is the number of those before it
  place_some : (n k : ℕ) (xs : List X) → position_from p n xs ≡ Some k → (k ≡ n + position_or_len p xs) × (position_or_len p xs < length xs) × (list_any p xs ≡ true)
  place_some n k [] e = cc
  place_some n k (x ∷ xs) e =
      elim (p x) as (λ b. cond b (Some n) (position_from p (n + 1) xs) ≡ Some k → (k ≡ n + cond (not b) (1 + position_or_len p xs) 0) × (cond (not b) (1 + position_or_len p xs) 0 < suc (length xs)) × ((b || list_any p xs) ≡ true)) [
        | true ↦ λ h. let same : n ≡ k = cc in (omega arith, omega arith, refl)
        | false ↦ λ h. let r : (k ≡ n + 1 + position_or_len p xs) × (position_or_len p xs < length xs) × (list_any p xs ≡ true) = place_some (n + 1) k xs h in (omega arith, omega arith, r.2)
      ] e

  place_none : (n : ℕ) (xs : List X) → position_from p n xs ≡ None → (position_or_len p xs ≡ length xs) × (list_any p xs ≡ false)
  place_none n [] e = (refl, refl)
  place_none n (x ∷ xs) e =
      elim (p x) as (λ b. cond b (Some n) (position_from p (n + 1) xs) ≡ None → (cond (not b) (1 + position_or_len p xs) 0 ≡ suc (length xs)) × ((b || list_any p xs) ≡ false)) [
        | true ↦ λ h. cc
        | false ↦ λ h. let r : (position_or_len p xs ≡ length xs) × (list_any p xs ≡ false) = place_none (n + 1) xs h in (omega arith, r.1)
      ] e

  place_push : (n : ℕ) (xs : List X) (x : X) → position_from p n (xs ++ x ∷ []) ≡ option_or (position_from p n xs) (cond (p x) (Some (n + length xs)) None)
  place_push n [] x = ap (λ k. cond (p x) (Some k) None) (omega arith)
  place_push n (y ∷ ys) x =
      elim (p y) as (λ b. cond b (Some n) (position_from p (n + 1) (ys ++ x ∷ [])) ≡ option_or (cond b (Some n) (position_from p (n + 1) ys)) (cond (p x) (Some (n + suc (length ys))) None)) [
        | true ↦ refl
        | false ↦ let next : n + 1 + length ys ≡ n + suc (length ys) = omega arith in place_push (n + 1) ys x ∙ ap (λ k. option_or (position_from p (n + 1) ys) (cond (p x) (Some k) None)) next
      ]

  -- the number of an element stays, whatever follows it
  number_found : (xs more : List X) → list_any p xs ≡ true → position_or_len p (xs ++ more) ≡ position_or_len p xs
  number_found [] more e = cc
  number_found (x ∷ xs) more e =
      elim (p x) as (λ b. (b || list_any p xs) ≡ true → cond (not b) (1 + position_or_len p (xs ++ more)) 0 ≡ cond (not b) (1 + position_or_len p xs) 0) [
        | true ↦ λ h. refl
        | false ↦ λ h. ap (λ k. 1 + k) (number_found xs more h)
      ] e

  number_next : (xs : List X) (x : X) (more : List X) → list_any p xs ≡ false → p x ≡ true → position_or_len p (xs ++ x ∷ more) ≡ position_or_len p xs
  number_next [] x more e is = ap (λ b. cond (not b) (1 + position_or_len p more) 0) is
  number_next (y ∷ ys) x more e is =
      elim (p y) as (λ b. (b || list_any p ys) ≡ false → cond (not b) (1 + position_or_len p (ys ++ x ∷ more)) 0 ≡ cond (not b) (1 + position_or_len p ys) 0) [
        | true ↦ λ h. cc
        | false ↦ λ h. ap (λ k. 1 + k) (number_next ys x more h is)
      ] e

  -- whether an element is there, by its number
  pub found_by_number : (xs : List X) → position_or_len p xs < length xs → list_any p xs ≡ true
  found_by_number [] e = absurd (omega arith)
  found_by_number (x ∷ xs) e =
      elim (p x) as (λ b. cond (not b) (1 + position_or_len p xs) 0 < suc (length xs) → (b || list_any p xs) ≡ true) [
        | true ↦ λ h. refl
        | false ↦ λ h. found_by_number xs (omega arith)
      ] e

  pub missed_by_number : (xs : List X) → position_or_len p xs ≡ length xs → list_any p xs ≡ false
  missed_by_number [] e = refl
  missed_by_number (x ∷ xs) e =
      elim (p x) as (λ b. cond (not b) (1 + position_or_len p xs) 0 ≡ suc (length xs) → (b || list_any p xs) ≡ false) [
        | true ↦ λ h. absurd (omega arith)
        | false ↦ λ h. missed_by_number xs (omega arith)
      ] e

place_congr : {X : Type 0} (p q : X → Bool) → ((x : X) → p x ≡ q x) → (n : ℕ) (xs : List X) → position_from p n xs ≡ position_from q n xs
place_congr p q same n [] = refl
place_congr p q same n (x ∷ xs) = ap (λ b. cond b (Some n) (position_from p (n + 1) xs)) (same x) ∙ ap (λ o. cond (q x) (Some n) o) (place_congr p q same (n + 1) xs)

or_none : {X : Type 0} (o : Option X) → option_or o None ≡ o
or_none None = refl
or_none (Some x) = refl

module _ {X : Type 0} (same : X → X → Bool) (laws : IsEquivalence same) where
  -- what is the same as an element is the same as another one that is the same
  pub same_as : (x k y : X) → same x k ≡ true → same y k ≡ same y x
  same_as x k y e = laws.symm y k ∙ sym (laws.congr x k y e) ∙ laws.symm x y

  -- ## One key more
  pub number_known : {S : Type 0} (numbers : HashMap X ℕ S) (count n : ℕ) (firsts : List X) (x : X) → AreNumbered same numbers count firsts → Some n ≡ get same numbers x
      → (n ≡ position_or_len (λ y. same y x) firsts) × AreNumbered same numbers count (with_first same firsts x)
  number_known numbers count n firsts x known is =
      let at : (n ≡ 0 + position_or_len (λ y. same y x) firsts) × (position_or_len (λ y. same y x) firsts < length firsts) × (list_any (λ y. same y x) firsts ≡ true) = place_some (λ y. same y x) 0 n firsts (sym (known.found x) ∙ sym is) in
      (omega (arith, at.0), subst (AreNumbered same numbers count) (ap (λ b. cond b firsts (firsts ++ x ∷ [])) (sym at.2)) known)

  pub number_fresh : {S : Type 0} (old new : HashMap X ℕ S) (count : ℕ) (firsts : List X) (x : X) → AreNumbered same old count firsts → None ≡ get same old x → Updates same old new x (Some count)
      → (count ≡ position_or_len (λ y. same y x) firsts) × AreNumbered same new (count + 1) (with_first same firsts x)
  number_fresh old new count firsts x known is put =
      let at : (position_or_len (λ y. same y x) firsts ≡ length firsts) × (list_any (λ y. same y x) firsts ≡ false) = place_none (λ y. same y x) 0 firsts (sym (known.found x) ∙ sym is) in (
        omega (arith, at.0, known.counted),
        subst (AreNumbered same new (count + 1)) (ap (λ b. cond b firsts (firsts ++ x ∷ [])) (sym at.1)) record {
          found = λ k. put.0 k ∙ found_at k ∙ sym (place_push (λ y. same y k) 0 firsts x);
          counted = omega (arith, known.counted, length_push firsts x);
        },
      )
    where
      found_at : (k : X) → cond (same x k) (Some count) (get same old k) ≡ option_or (position_from (λ y. same y k) 0 firsts) (cond (same x k) (Some (0 + length firsts)) None)
      found_at k =
          elim (same x k) as (λ b. same x k ≡ b → cond b (Some count) (get same old k) ≡ option_or (position_from (λ y. same y k) 0 firsts) (cond b (Some (0 + length firsts)) None)) [
            | true ↦ λ e.
                let none : position_from (λ y. same y k) 0 firsts ≡ None = place_congr (λ y. same y k) (λ y. same y x) (λ y. same_as x k y e) 0 firsts ∙ sym (known.found x) ∙ sym is in
                let next : count ≡ 0 + length firsts = omega (arith, known.counted) in
                ap Some next ∙ ap (λ o. option_or o (Some (0 + length firsts))) (sym none)
            | false ↦ λ e. known.found k ∙ sym (or_none (position_from (λ y. same y k) 0 firsts))
          ] refl

  -- ## One element more among the distinct ones
  push_step : (z x : X) (ds : List X) (s a : Bool) → same z x ≡ s
      → z ∷ filter (λ y. not (same z y)) (cond a ds (ds ++ x ∷ [])) ≡ cond (s || a) (z ∷ filter (λ y. not (same z y)) ds) (z ∷ filter (λ y. not (same z y)) ds ++ x ∷ [])
  push_step z x ds true true e = refl
  push_step z x ds false true e = refl
  push_step z x ds true false e = ap (λ l. z ∷ l) (filter-append (λ y. not (same z y)) ds (x ∷ []) ∙ ap (λ b. filter (λ y. not (same z y)) ds ++ cond (not b) (x ∷ []) []) e ∙ append-nil (filter (λ y. not (same z y)) ds))
  push_step z x ds false false e = ap (λ l. z ∷ l) (filter-append (λ y. not (same z y)) ds (x ∷ []) ∙ ap (λ b. filter (λ y. not (same z y)) ds ++ cond (not b) (x ∷ []) []) e)

  -- leaving out what is the same as z leaves what is the same as x, where x isn't
  any_filter : (z x : X) (ds : List X) → same z x ≡ false → list_any (λ y. same y x) (filter (λ y. not (same z y)) ds) ≡ list_any (λ y. same y x) ds
  any_filter z x [] apart = refl
  any_filter z x (d ∷ ds) apart =
      elim (same z d) as (λ b. same z d ≡ b → list_any (λ y. same y x) (cond (not b) (d ∷ filter (λ y. not (same z y)) ds) (filter (λ y. not (same z y)) ds)) ≡ (same d x || list_any (λ y. same y x) ds)) [
        | true ↦ λ e. any_filter z x ds apart ∙ ap (λ b. b || list_any (λ y. same y x) ds) (sym (sym (laws.congr z d x e) ∙ apart))
        | false ↦ λ e. ap (λ b. same d x || b) (any_filter z x ds apart)
      ] refl

  any_step : (z x : X) (ds : List X) (s : Bool) → same z x ≡ s → (s || list_any (λ y. same y x) (filter (λ y. not (same z y)) ds)) ≡ (s || list_any (λ y. same y x) ds)
  any_step z x ds true e = refl
  any_step z x ds false e = any_filter z x ds e

  pub any_distinct : (x : X) (xs : List X) → list_any (λ y. same y x) (distinct same xs) ≡ list_any (λ y. same y x) xs
  any_distinct x [] = refl
  any_distinct x (z ∷ xs) = any_step z x (distinct same xs) (same z x) refl ∙ ap (λ b. same z x || b) (any_distinct x xs)

  pub distinct_push : (xs : List X) (x : X) → distinct same (xs ++ x ∷ []) ≡ with_first same (distinct same xs) x
  distinct_push [] x = refl
  distinct_push (z ∷ xs) x =
      ap (λ l. z ∷ filter (λ y. not (same z y)) l) (distinct_push xs x)
      ∙ push_step z x (distinct same xs) (same z x) (list_any (λ y. same y x) (distinct same xs)) refl
      ∙ ap (λ b. cond b (distinct same (z ∷ xs)) (distinct same (z ∷ xs) ++ x ∷ [])) (sym (any_step z x (distinct same xs) (same z x) refl))

  pub number_kept : (ds : List X) (x : X) (more : List X) → position_or_len (λ y. same y x) (with_first same ds x ++ more) ≡ position_or_len (λ y. same y x) ds
  number_kept ds x more =
      elim (list_any (λ y. same y x) ds) as (λ b. list_any (λ y. same y x) ds ≡ b → position_or_len (λ y. same y x) (cond b ds (ds ++ x ∷ []) ++ more) ≡ position_or_len (λ y. same y x) ds) [
        | true ↦ λ e. number_found (λ y. same y x) ds more e
        | false ↦ λ e. ap (position_or_len (λ y. same y x)) (append_assoc ds (x ∷ []) more) ∙ number_next (λ y. same y x) ds x more e (laws.refl x)
      ] refl

  -- those that were numbered keep their numbers when one more follows
  number_stays : (xs : List X) (x y : X) → list_any (λ z. same z y) xs ≡ true → group_number same (xs ++ x ∷ []) y ≡ group_number same xs y
  number_stays xs x y among =
      ap (position_or_len (λ z. same z y)) (distinct_push xs x)
      ∙ elim (list_any (λ z. same z x) (distinct same xs)) as (λ b. position_or_len (λ z. same z y) (cond b (distinct same xs) (distinct same xs ++ x ∷ [])) ≡ position_or_len (λ z. same z y) (distinct same xs)) [
        | true ↦ refl
        | false ↦ number_found (λ z. same z y) (distinct same xs) (x ∷ []) (any_distinct y xs ∙ among)
      ]

  numbers_stay : {Y : Type 0} (f : ℕ → Y) (xs : List X) (x : X) (before ys : List X) → xs ≡ before ++ ys → map (λ y. f (group_number same (xs ++ x ∷ []) y)) ys ≡ map (λ y. f (group_number same xs y)) ys
  numbers_stay f xs x before [] split = refl
  numbers_stay f xs x before (y ∷ ys) split =
      ap (λ n. f n ∷ map (λ z. f (group_number same (xs ++ x ∷ []) z)) ys) (number_stays xs x y among)
      ∙ ap (λ l. f (group_number same xs y) ∷ l) (numbers_stay f xs x (before ++ y ∷ []) ys (split ∙ sym (append_assoc before (y ∷ []) ys)))
    where
      either : (a b c : Bool) → b ≡ true → (a || (b || c)) ≡ true
      either true b c e = refl
      either false true c e = refl
      either false false c e = cc

      among : list_any (λ z. same z y) xs ≡ true
      among = ap (list_any (λ z. same z y)) split ∙ list_any-append (λ z. same z y) before (y ∷ ys) ∙ either (list_any (λ z. same z y) before) (same y y) (list_any (λ z. same z y) ys) (laws.refl y)

  -- and the one more has the number that it is found under
  pub numbers_push : {Y : Type 0} (f : ℕ → Y) (xs : List X) (x : X) (out new : List Y) (n : ℕ) → out ≡ map (λ y. f (group_number same xs y)) xs → n ≡ position_or_len (λ y. same y x) (distinct same xs) → new ≡ out ++ f n ∷ []
      → new ≡ map (λ y. f (group_number same (xs ++ x ∷ []) y)) (xs ++ x ∷ [])
  numbers_push f xs x out new n so_far number more =
      more ∙ ap (λ l. l ++ f n ∷ []) (so_far ∙ sym (numbers_stay f xs x [] xs refl))
      ∙ ap (λ k. map (λ y. f (group_number same (xs ++ x ∷ []) y)) xs ++ f k ∷ []) (number ∙ sym here)
      ∙ sym (map_push (λ y. f (group_number same (xs ++ x ∷ []) y)) xs x)
    where
      here : group_number same (xs ++ x ∷ []) x ≡ position_or_len (λ y. same y x) (distinct same xs)
      here = ap (position_or_len (λ y. same y x)) (distinct_push xs x ∙ sym (append-nil (with_first same (distinct same xs) x))) ∙ number_kept (distinct same xs) x []
