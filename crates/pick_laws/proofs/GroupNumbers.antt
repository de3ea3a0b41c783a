-- Picks have one number just where all columns of their groups have the same cells for them.
use Rattle.std.proofs.Common.{◌≡◌, ℕ, ◌==◌, List, [], ◌∷◌, ◌++◌, map, filter, Bool, true, false, not, ◌&&◌, ◌||◌, cond, refl, ap, ◌∙◌, subst, arith, append_assoc}
use Rattle.std.specs.Prelude.{slice_index_or}
use Rattle.std.specs.List.{AllByRecursion, list_any}
use Rattle.std.specs.Cmp.{IsEquivalence}
use Rattle.std.proofs.lemmas.Bool.{and_parts, eq-eqb, eqb-true}
use Rattle.cell_core.specs.declared.cell.Cell.{Cell}
use Rattle.cell_core.specs.Same.{same_cell, same_equivalence}
use Rattle.cell_core.specs.Groups.{distinct, group_number}
use Rattle.pick_laws.specs.Numbers.{through, Agrees, alike, new_number, both_alike, derived_number, numbers_from, all_same}
use Rattle.pick_laws.proofs.GroupLemmas.{IsIn, number_same}

through_equivalence : {X Y : Type 0} (f : X → Y) (same : Y → Y → Bool) → IsEquivalence same → IsEquivalence (through f same)
through_equivalence f same e = record {
  refl = λ x. e.refl (f x);
  symm = λ x y. e.symm (f x) (f y);
  congr = λ x y z h. e.congr (f x) (f y) (f z) h;
}

both_equivalence : {X : Type 0} (r s : X → X → Bool) → IsEquivalence r → IsEquivalence s → IsEquivalence (λ x y. r x y && s x y)
both_equivalence r s e f = record {
  refl = λ x. ap (λ b. b && s x x) (e.refl x) ∙ f.refl x;
  symm = λ x y. ap (λ b. b && s x y) (e.symm x y) ∙ ap (λ b. r y x && b) (f.symm x y);
  congr = λ x y z h. let parts = and_parts (r x y) (s x y) h in ap (λ b. b && s x z) (e.congr x y z parts.0) ∙ ap (λ b. r y z && b) (f.congr x y z parts.1);
}

number_equivalence : IsEquivalence (λ (m n : ℕ). m == n)
number_equivalence = record {
  refl = λ n. eq-eqb n n refl;
  symm = λ m n. swaps m n (m == n) refl;
  congr = λ m n k h. ap (λ x. x == k) (eqb-true m n h);
}
  where
    swaps : (m n : ℕ) (b : Bool) → (m == n) ≡ b → (m == n) ≡ (n == m)
    swaps m n b e = grind arith

-- an element of a list is related to one of its elements
module _ {X : Type 0} (rel : X → X → Bool) (eq : IsEquivalence rel) where
  in_behind : (x : X) (before behind : List X) → list_any (λ y. rel y x) (before ++ x ∷ behind) ≡ true
  in_behind x [] behind = ap (λ b. b || list_any (λ y. rel y x) behind) (eq.refl x)
  in_behind x (y ∷ before) behind = or_right (rel y x) (list_any (λ y. rel y x) (before ++ x ∷ behind)) (in_behind x before behind)
    where
      or_right : (a b : Bool) → b ≡ true → a || b ≡ true
      or_right true b e = refl
      or_right false b e = e

  all_in : (before xs : List X) → AllByRecursion (λ x. list_any (λ y. rel y x) (before ++ xs) ≡ true) xs
  all_in before [] = tt
  all_in before (x ∷ xs) = (in_behind x before xs, subst (λ all. AllByRecursion (λ x. list_any (λ y. rel y x) all ≡ true) xs) (append_assoc before (x ∷ []) xs) (all_in (before ++ x ∷ []) xs))

  -- numbers are the same where elements are related
  pub numbers_agree : (xs : List X) → Agrees (λ p q. group_number rel xs p == group_number rel xs q) rel xs xs
  numbers_agree xs = each xs (all_in [] xs)
    where
      here : (p : X) (qs : List X) → IsIn rel eq xs p → AllByRecursion (λ q. (group_number rel xs p == group_number rel xs q) ≡ rel p q) qs
      here p [] i = tt
      here p (q ∷ qs) i = (number_same rel eq xs p q i (rel p q) refl, here p qs i)

      each : (ps : List X) → AllByRecursion (λ p. IsIn rel eq xs p) ps → AllByRecursion (λ p. AllByRecursion (λ q. (group_number rel xs p == group_number rel xs q) ≡ rel p q) xs) ps
      each [] a = tt
      each (p ∷ ps) a = (here p xs a.0, each ps a.1)

-- ## The numbers of several columns

module _ {P : Type 0} (picks : List P) where
  along : (r s t : P → P → Bool) (qs ps : List P) → Agrees r s qs ps → Agrees s t qs ps → Agrees r t qs ps
  along r s t qs [] a b = tt
  along r s t qs (p ∷ ps) a b = (here qs a.0 b.0, along r s t qs ps a.1 b.1)
    where
      here : (qs : List P) → AllByRecursion (λ q. r p q ≡ s p q) qs → AllByRecursion (λ q. s p q ≡ t p q) qs → AllByRecursion (λ q. r p q ≡ t p q) qs
      here [] a b = tt
      here (q ∷ qs) a b = (a.0 ∙ b.0, here qs a.1 b.1)

  under : (r s : P → P → Bool) (k : P → P → Bool) (qs ps : List P) → Agrees r s qs ps → Agrees (λ p q. r p q && k p q) (λ p q. s p q && k p q) qs ps
  under r s k qs [] a = tt
  under r s k qs (p ∷ ps) a = (here qs a.0, under r s k qs ps a.1)
    where
      here : (qs : List P) → AllByRecursion (λ q. r p q ≡ s p q) qs → AllByRecursion (λ q. (r p q && k p q) ≡ (s p q && k p q)) qs
      here [] a = tt
      here (q ∷ qs) a = (ap (λ b. b && k p q) a.0, here qs a.1)

  everywhere : (r s : P → P → Bool) → ((p q : P) → r p q ≡ s p q) → (qs ps : List P) → Agrees r s qs ps
  everywhere r s h qs [] = tt
  everywhere r s h qs (p ∷ ps) = (here qs, everywhere r s h qs ps)
    where
      here : (qs : List P) → AllByRecursion (λ q. r p q ≡ s p q) qs
      here [] = tt
      here (q ∷ qs) = (h p q, here qs)

  and_assoc : (a b c : Bool) → (a && b) && c ≡ a && (b && c)
  and_assoc true b c = refl
  and_assoc false b c = refl

  -- a number for each list of the columns' cells
  numbers_same : (vs : List (P → Cell)) (n : P → ℕ) (r : P → P → Bool) → Agrees (alike n) r picks picks → Agrees (alike (numbers_from picks n vs)) (λ p q. r p q && all_same vs p q) picks picks
  numbers_same [] n r a = along (alike n) r (λ p q. r p q && true) picks picks a (everywhere r (λ p q. r p q && true) (λ p q. and_true (r p q)) picks picks)
    where
      and_true : (b : Bool) → b ≡ b && true
      and_true true = refl
      and_true false = refl
  numbers_same (v ∷ vs) n r a =
      along (alike (numbers_from picks (derived_number n v picks) vs)) (λ p q. (r p q && same_cell (v p) (v q)) && all_same vs p q) (λ p q. r p q && all_same (v ∷ vs) p q) picks picks
      (numbers_same vs (derived_number n v picks) (λ p q. r p q && same_cell (v p) (v q))
      (along (alike (derived_number n v picks)) (both_alike n v) (λ p q. r p q && same_cell (v p) (v q)) picks picks
      (numbers_agree (both_alike n v) (both_equivalence (alike n) (through v same_cell) (through_equivalence n (λ a b. a == b) number_equivalence) (through_equivalence v same_cell same_equivalence)) picks)
      (under (alike n) r (λ p q. same_cell (v p) (v q)) picks picks a)))
      (everywhere (λ p q. (r p q && same_cell (v p) (v q)) && all_same vs p q) (λ p q. r p q && all_same (v ∷ vs) p q) (λ p q. and_assoc (r p q) (same_cell (v p) (v q)) (all_same vs p q)) picks picks)

  -- the groups of GROUP BY over one column or more
  pub group_numbers : (v : P → Cell) (vs : List (P → Cell)) → Agrees (alike (numbers_from picks (new_number v picks) vs)) (all_same (v ∷ vs)) picks picks
  group_numbers v vs = numbers_same vs (new_number v picks) (λ p q. same_cell (v p) (v q)) (numbers_agree (through v same_cell) (through_equivalence v same_cell same_equivalence) picks)

-- ## The first of a group

-- picks with one number are one group
pub alike_equivalence : {P : Type 0} (n : P → ℕ) → IsEquivalence (alike n)
alike_equivalence n = through_equivalence n (λ a b. a == b) number_equivalence

module _ {P Y : Type 0} (rel : P → P → Bool) (eq : IsEquivalence rel) (f : P → Y) (d : Y) where
  -- among the elements that are related to q the first is q
  abbrev pub IsFirst : List P → P → Type 0
  IsFirst ps q = slice_index_or (map f (filter (λ p. rel p q) ps)) 0 d ≡ f q

  later : (x : P) (xs qs : List P) → AllByRecursion (IsFirst xs) qs → AllByRecursion (IsFirst (x ∷ xs)) (filter (λ q. not (rel x q)) qs)
  later x xs [] a = tt
  later x xs (q ∷ qs) a = by_case (rel x q) refl (later x xs qs a.1)
    where
      by_case : (b : Bool) → rel x q ≡ b → AllByRecursion (IsFirst (x ∷ xs)) (filter (λ q. not (rel x q)) qs) → AllByRecursion (IsFirst (x ∷ xs)) (cond (not b) (q ∷ filter (λ q. not (rel x q)) qs) (filter (λ q. not (rel x q)) qs))
      by_case true e others = others
      by_case false e others = (ap (λ b. slice_index_or (map f (cond b (x ∷ filter (λ p. rel p q) xs) (filter (λ p. rel p q) xs))) 0 d) e ∙ a.0, others)

  -- the first element of a group is the one that represents it
  pub firsts_first : (ps : List P) → AllByRecursion (IsFirst ps) (distinct rel ps)
  firsts_first [] = tt
  firsts_first (x ∷ xs) = (ap (λ b. slice_index_or (map f (cond b (x ∷ filter (λ p. rel p x) xs) (filter (λ p. rel p x) xs))) 0 d) (eq.refl x), later x xs (distinct rel xs) (firsts_first xs))
