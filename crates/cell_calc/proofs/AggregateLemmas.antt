-- The aggregates of cells and one cell more.
use Rattle.std.proofs.Common.{◌≡◌, ℕ, ◌+◌, ◌*◌, ◌^◌, Bool, true, false, not, ◌&&◌, ◌||◌, cond, List, [], ◌∷◌, ◌++◌, length, Option, None, Some, unwrap_or, ℤ, pos, ◌+ℤ◌, neg_ℤ, ◌≤ℤ◌, refl, sym, ap, ◌∙◌, arith, append_assoc, append-nil}
use Rattle.std.specs.Prelude.{find}
use Rattle.std.specs.List.{list_all}
use Rattle.std.specs.Option.{option_or}
use Rattle.std.specs.Ordering.{is_lt, is_le, is_gt, is_ge, ordering_reverse}
use Rattle.std.specs.declared.cmp.Ordering.{Ordering}
use Rattle.std.specs.declared.cmp.Ordering.TheVariants.{Less, Equal, Greater}
use Rattle.std.specs.Cmp.{upto, tied_itself, first_so, second_so}
use Rattle.std.proofs.Math.Bool.{and-true}
use Rattle.std.proofs.lemmas.Int.{ints}
use Rattle.std.proofs.lemmas.List.{length_push}
use Rattle.std.proofs.lemmas.List.Sums.{fold_push}
use Rattle.std.proofs.lemmas.List.Folds.{find-append, list_all-append}
use Rattle.std.proofs.lemmas.List.Elements.{filter-append}
use Rattle.cell_core.specs.declared.cell.Cell.{Cell}
use Rattle.cell_core.specs.declared.cell.Cell.TheVariants.{Nil, Int, Huge, Text, Day, Bit, Oid}
use Rattle.cell_core.specs.Order.{number, cell_cmp, cell_cmp_total}
use Rattle.cell_core.specs.Pairs.{is_nil}
use Rattle.cell_core.specs.Groups.{known, counted, sum_of, summed, least, greatest}
use Rattle.cell_calc.specs.Aggregates.{total_in}

-- Nil is left out, any other cell is known
pub known_nil : (cells : List Cell) (c : Cell) → is_nil c ≡ true → known (cells ++ c ∷ []) ≡ known cells
known_nil cells c none = filter-append (λ x. not (is_nil x)) cells (c ∷ []) ∙ ap (λ b. known cells ++ cond (not b) (c ∷ []) []) none ∙ append-nil (known cells)

pub known_some : (cells : List Cell) (c : Cell) → is_nil c ≡ false → known (cells ++ c ∷ []) ≡ known cells ++ c ∷ []
known_some cells c some = filter-append (λ x. not (is_nil x)) cells (c ∷ []) ∙ ap (λ b. known cells ++ cond (not b) (c ∷ []) []) some

-- ## Counts and sums
pub counted_push : (cells : List Cell) (c : Cell) → is_nil c ≡ false → counted (cells ++ c ∷ []) ≡ Int (pos (length (known cells) + 1))
counted_push cells c some = ap (λ l. Int (pos (length l))) (known_some cells c some) ∙ ap (λ n. Int (pos n)) (length_push (known cells) c)

sum_push : (ks : List Cell) (c : Cell) → sum_of (ks ++ c ∷ []) ≡ Huge (total_in (sum_of ks) +ℤ number c)
sum_push [] c = refl
sum_push (k ∷ ks) c = ap Huge (fold_push (λ total x. total +ℤ number x) (pos 0) (k ∷ ks) c)

pub summed_more : (cells : List Cell) (c : Cell) → is_nil c ≡ false → summed (cells ++ c ∷ []) ≡ Huge (total_in (summed cells) +ℤ number c)
summed_more cells c some = ap sum_of (known_some cells c some) ∙ sum_push (known cells) c

-- ## The first of the best, where `le a b` says that a is as good as b
pub record IsPreorder {X : Type 0} (le : X → X → Bool) : Type 0 where
  pub itself : (a : X) → le a a ≡ true
  pub chain : (a b c : X) → le a b ≡ true → le b c ≡ true → le a c ≡ true
  pub total : (a b : X) → le a b ≡ false → le b a ≡ true

and_false : (a : Bool) → (a && false) ≡ false
and_false true = refl
and_false false = refl

find_congr : {X : Type 0} (p q : X → Bool) → ((x : X) → p x ≡ q x) → (xs : List X) → find p xs ≡ find q xs
find_congr p q same [] = refl
find_congr p q same (x ∷ xs) = ap (λ b. cond b (Some x) (find p xs)) (same x) ∙ ap (λ o. cond (q x) (Some x) o) (find_congr p q same xs)

abbrev best : {X : Type 0} → (X → X → Bool) → List X → Option X
best le ks = find (λ c. list_all (λ x. le c x) ks) ks

module _ {X : Type 0} (le : X → X → Bool) (order : IsPreorder le) where
  found_passes : (p : X → Bool) (xs : List X) (m : X) → find p xs ≡ Some m → p m ≡ true
  found_passes p [] m e = cc
  found_passes p (x ∷ xs) m e =
      elim (p x) as (λ b. p x ≡ b → cond b (Some x) (find p xs) ≡ Some m → p m ≡ true) [
        | true ↦ λ h f. let same : x ≡ m = cc in ap p (sym same) ∙ h
        | false ↦ λ h f. found_passes p xs m f
      ] refl e

  found_still : (p q : X → Bool) (xs : List X) (m : X) → find p xs ≡ Some m → q m ≡ true → find (λ c. p c && q c) xs ≡ Some m
  found_still p q [] m e h = cc
  found_still p q (x ∷ xs) m e h =
      elim (p x) as (λ b. cond b (Some x) (find p xs) ≡ Some m → cond (b && q x) (Some x) (find (λ c. p c && q c) xs) ≡ Some m) [
        | true ↦ λ f. let same : x ≡ m = cc in ap (λ b. cond b (Some x) (find (λ c. p c && q c) xs)) (ap q same ∙ h) ∙ f
        | false ↦ λ f. found_still p q xs m f h
      ] e

  -- what is worse than m is no better than v, which is better
  none_better : (p : X → Bool) (xs : List X) (m v : X) → list_all (λ x. le m x) xs ≡ true → le m v ≡ false → find (λ c. p c && le c v) xs ≡ None
  none_better p [] m v e h = refl
  none_better p (x ∷ xs) m v e h =
      let here : le m x ≡ true = first_so (le m x) (list_all (λ y. le m y) xs) e in
      let apart : le x v ≡ false = elim (le x v) as (λ b. le x v ≡ b → b ≡ false) [ true ↦ λ f. sym (order.chain m x v here f) ∙ h | false ↦ λ f. refl ] refl in
      ap (λ b. cond (p x && b) (Some x) (find (λ c. p c && le c v) xs)) apart
      ∙ ap (λ b. cond b (Some x) (find (λ c. p c && le c v) xs)) (and_false (p x))
      ∙ none_better p xs m v (second_so (le m x) (list_all (λ y. le m y) xs) e) h

  all_better : (xs : List X) (m v : X) → list_all (λ x. le m x) xs ≡ true → le v m ≡ true → list_all (λ x. le v x) xs ≡ true
  all_better [] m v e h = refl
  all_better (x ∷ xs) m v e h =
      ap (λ b. b && list_all (λ y. le v y) xs) (order.chain v m x h (first_so (le m x) (list_all (λ y. le m y) xs) e))
      ∙ all_better xs m v (second_so (le m x) (list_all (λ y. le m y) xs) e) h

  -- one element more
  best_split : (ks : List X) (v : X) → best le (ks ++ v ∷ []) ≡ option_or (find (λ c. list_all (λ x. le c x) ks && le c v) ks) (cond (list_all (λ x. le v x) ks && le v v) (Some v) None)
  best_split ks v =
      find_congr (λ c. list_all (λ x. le c x) (ks ++ v ∷ [])) (λ c. list_all (λ x. le c x) ks && le c v)
      (λ c. list_all-append (λ x. le c x) ks (v ∷ []) ∙ ap (λ b. list_all (λ x. le c x) ks && b) (and-true (le c v))) (ks ++ v ∷ [])
      ∙ find-append (λ c. list_all (λ x. le c x) ks && le c v) ks (v ∷ [])

  pub best_push : (ks : List X) (m v : X) → best le ks ≡ Some m → best le (ks ++ v ∷ []) ≡ Some (cond (le m v) m v)
  best_push ks m v e =
      best_split ks v ∙ elim (le m v) as (λ b. le m v ≡ b → option_or (find (λ c. list_all (λ x. le c x) ks && le c v) ks) (cond (list_all (λ x. le v x) ks && le v v) (Some v) None) ≡ Some (cond b m v)) [
        | true ↦ λ h. ap (λ o. option_or o (cond (list_all (λ x. le v x) ks && le v v) (Some v) None)) (found_still (λ c. list_all (λ x. le c x) ks) (λ c. le c v) ks m e h)
        | false ↦ λ h.
            let all : list_all (λ x. le m x) ks ≡ true = found_passes (λ c. list_all (λ x. le c x) ks) ks m e in
            ap (λ o. option_or o (cond (list_all (λ x. le v x) ks && le v v) (Some v) None)) (none_better (λ c. list_all (λ x. le c x) ks) ks m v all h)
            ∙ ap (λ b. cond (b && le v v) (Some v) None) (all_better ks m v all (order.total m v h))
            ∙ ap (λ b. cond b (Some v) None) (order.itself v)
      ] refl

  best_one : (v : X) → best le (v ∷ []) ≡ Some v
  best_one v = ap (λ b. cond (b && true) (Some v) None) (order.itself v)

  -- some element is the best of a list that has one
  best_grows : (xs ks : List X) (m : X) → best le ks ≡ Some m → (n : X) × (best le (ks ++ xs) ≡ Some n)
  best_grows [] ks m e = (m, ap (best le) (append-nil ks) ∙ e)
  best_grows (x ∷ xs) ks m e =
      let rest : (n : X) × (best le ((ks ++ x ∷ []) ++ xs) ≡ Some n) = best_grows xs (ks ++ x ∷ []) (cond (le m x) m x) (best_push ks m x e) in
      (rest.0, ap (best le) (sym (append_assoc ks (x ∷ []) xs)) ∙ rest.1)

  pub best_some : (x : X) (xs : List X) → (n : X) × (best le (x ∷ xs) ≡ Some n)
  best_some x xs = best_grows xs (x ∷ []) x (best_one x)

-- the order of cells both ways
le_not_gt : (r : Ordering) → is_le r ≡ true → is_gt r ≡ false
le_not_gt Less e = refl
le_not_gt Equal e = refl
le_not_gt Greater e = sym e

not_gt_le : (r : Ordering) → is_gt r ≡ false → is_le r ≡ true
not_gt_le Less e = refl
not_gt_le Equal e = refl
not_gt_le Greater e = sym e

reversed_le : (r : Ordering) → is_le r ≡ false → is_le (ordering_reverse r) ≡ true
reversed_le Less e = cc
reversed_le Equal e = refl
reversed_le Greater e = refl

ge_reversed : (r : Ordering) → is_ge r ≡ is_le (ordering_reverse r)
ge_reversed Less = refl
ge_reversed Equal = refl
ge_reversed Greater = refl

abbrev is_at_most : Cell → Cell → Bool
is_at_most a b = is_le (cell_cmp a b)

abbrev is_at_least : Cell → Cell → Bool
is_at_least a b = is_ge (cell_cmp a b)

at_least_is : (a b : Cell) → is_at_least a b ≡ is_at_most b a
at_least_is a b = ge_reversed (cell_cmp a b) ∙ ap is_le (sym (cell_cmp_total.antisymm b a))

at_most_order : IsPreorder is_at_most
at_most_order = record {
  itself = λ a. ap is_le (tied_itself cell_cmp_total a);
  chain = λ a b c h k. not_gt_le (cell_cmp a c) (upto cell_cmp_total a b c (le_not_gt (cell_cmp a b) h) (le_not_gt (cell_cmp b c) k));
  total = λ a b h. ap is_le (cell_cmp_total.antisymm b a) ∙ reversed_le (cell_cmp a b) h;
}

at_least_order : IsPreorder is_at_least
at_least_order = record {
  itself = λ a. at_least_is a a ∙ at_most_order.itself a;
  chain = λ a b c h k. at_least_is a c ∙ at_most_order.chain c b a (sym (at_least_is b c) ∙ k) (sym (at_least_is a b) ∙ h);
  total = λ a b h. at_least_is b a ∙ at_most_order.total b a (sym (at_least_is a b) ∙ h);
}

-- what is found among the known cells isn't Nil
found_known : (p : Cell → Bool) (cells : List Cell) (m : Cell) → find p (known cells) ≡ Some m → is_nil m ≡ false
found_known p [] m e = cc
found_known p (c ∷ cells) m e =
    elim (is_nil c) as (λ b. is_nil c ≡ b → find p (cond (not b) (c ∷ known cells) (known cells)) ≡ Some m → is_nil m ≡ false) [
      | true ↦ λ h f. found_known p cells m f
      | false ↦ λ h f. elim (p c) as (λ x. cond x (Some c) (find p (known cells)) ≡ Some m → is_nil m ≡ false) [
        | true ↦ λ g. let same : c ≡ m = cc in ap is_nil (sym same) ∙ h
        | false ↦ λ g. found_known p cells m g
      ] f
    ] refl e

-- the best of the known cells, or Nil, and one cell more
abbrev best_known : (Cell → Cell → Bool) → List Cell → Cell
best_known le cells = unwrap_or (best le (known cells)) Nil

module _ (le : Cell → Cell → Bool) (order : IsPreorder le) where
  grown : (cells ks : List Cell) (v : Cell) → known cells ≡ ks → unwrap_or (best le (ks ++ v ∷ [])) Nil ≡ cond (is_nil (best_known le cells) || not (le (best_known le cells) v)) v (best_known le cells)
  grown cells [] v is =
      ap (λ o. unwrap_or o Nil) (best_one le order v) ∙ ap (λ l. cond (is_nil (unwrap_or (best le l) Nil) || not (le (unwrap_or (best le l) Nil) v)) v (unwrap_or (best le l) Nil)) (sym is)
  grown cells (k ∷ ks) v is =
      let top : (n : Cell) × (best le (k ∷ ks) ≡ Some n) = best_some le order k ks in
      let same : best_known le cells ≡ top.0 = ap (λ l. unwrap_or (best le l) Nil) is ∙ ap (λ o. unwrap_or o Nil) top.1 in
      let some : is_nil top.0 ≡ false = found_known (λ c. list_all (λ x. le c x) (known cells)) cells top.0 (ap (best le) is ∙ top.1) in
      ap (λ o. unwrap_or o Nil) (best_push le order (k ∷ ks) top.0 v top.1)
      ∙ either (le top.0 v) top.0 v
      ∙ ap (λ b. cond (b || not (le top.0 v)) v top.0) (sym some)
      ∙ ap (λ m. cond (is_nil m || not (le m v)) v m) (sym same)
    where
      either : (b : Bool) (m w : Cell) → cond b m w ≡ cond (not b) w m
      either true m w = refl
      either false m w = refl

  best_known_push : (cells : List Cell) (v : Cell) → is_nil v ≡ false → best_known le (cells ++ v ∷ []) ≡ cond (is_nil (best_known le cells) || not (le (best_known le cells) v)) v (best_known le cells)
  best_known_push cells v some = ap (λ l. unwrap_or (best le l) Nil) (known_some cells v some) ∙ grown cells (known cells) v refl

not_le : (r : Ordering) → not (is_le r) ≡ is_lt (ordering_reverse r)
not_le Less = refl
not_le Equal = refl
not_le Greater = refl

not_ge : (r : Ordering) → not (is_ge r) ≡ is_gt (ordering_reverse r)
not_ge Less = refl
not_ge Equal = refl
not_ge Greater = refl

pub least_push : (cells : List Cell) (v : Cell) → is_nil v ≡ false → least (cells ++ v ∷ []) ≡ cond (is_nil (least cells) || is_lt (cell_cmp v (least cells))) v (least cells)
least_push cells v some =
    best_known_push is_at_most at_most_order cells v some
    ∙ ap (λ b. cond (is_nil (least cells) || b) v (least cells)) (not_le (cell_cmp (least cells) v) ∙ ap is_lt (sym (cell_cmp_total.antisymm v (least cells))))

pub greatest_push : (cells : List Cell) (v : Cell) → is_nil v ≡ false → greatest (cells ++ v ∷ []) ≡ cond (is_nil (greatest cells) || is_gt (cell_cmp v (greatest cells))) v (greatest cells)
greatest_push cells v some =
    best_known_push is_at_least at_least_order cells v some
    ∙ ap (λ b. cond (is_nil (greatest cells) || b) v (greatest cells)) (not_ge (cell_cmp (greatest cells) v) ∙ ap is_gt (sym (cell_cmp_total.antisymm v (greatest cells))))

pub least_taken : (cells : List Cell) (s v out : Cell) → is_nil v ≡ false → s ≡ least cells → (is_nil s || is_lt (cell_cmp v s)) ≡ true → out ≡ v → out ≡ least (cells ++ v ∷ [])
least_taken cells s v out some is test taken = taken ∙ ap (λ b. cond b v s) (sym test) ∙ ap (λ m. cond (is_nil m || is_lt (cell_cmp v m)) v m) is ∙ sym (least_push cells v some)

pub least_kept : (cells : List Cell) (s v : Cell) → is_nil v ≡ false → s ≡ least cells → (is_nil s || is_lt (cell_cmp v s)) ≡ false → s ≡ least (cells ++ v ∷ [])
least_kept cells s v some is test = ap (λ b. cond b v s) (sym test) ∙ ap (λ m. cond (is_nil m || is_lt (cell_cmp v m)) v m) is ∙ sym (least_push cells v some)

pub greatest_taken : (cells : List Cell) (s v out : Cell) → is_nil v ≡ false → s ≡ greatest cells → (is_nil s || is_gt (cell_cmp v s)) ≡ true → out ≡ v → out ≡ greatest (cells ++ v ∷ [])
greatest_taken cells s v out some is test taken = taken ∙ ap (λ b. cond b v s) (sym test) ∙ ap (λ m. cond (is_nil m || is_gt (cell_cmp v m)) v m) is ∙ sym (greatest_push cells v some)

pub greatest_kept : (cells : List Cell) (s v : Cell) → is_nil v ≡ false → s ≡ greatest cells → (is_nil s || is_gt (cell_cmp v s)) ≡ false → s ≡ greatest (cells ++ v ∷ [])
greatest_kept cells s v some is test = ap (λ b. cond b v s) (sym test) ∙ ap (λ m. cond (is_nil m || is_gt (cell_cmp v m)) v m) is ∙ sym (greatest_push cells v some)
