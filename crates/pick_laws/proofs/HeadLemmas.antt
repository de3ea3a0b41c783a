-- Which oids are heads of a BAT, for selections and for set operators.
use Rattle.std.proofs.Common.{◌≡◌, ℕ, suc, zero, ◌+◌, ◌<◌, ◌≤◌, ◌==◌, List, [], ◌∷◌, ◌++◌, length, map, filter, Bool, true, false, not, ◌&&◌, ◌||◌, cond, refl, ap, sym, ◌∙◌, arith, append_assoc}
use Rattle.std.specs.Prelude.{get_or, slice_index_or}
use Rattle.std.specs.List.{list_any, range_with_len}
use Rattle.std.proofs.Math.Seq.{get_or-append_seam}
use Rattle.std.proofs.lemmas.Bool.{eqb-true}
use Rattle.cell_core.specs.declared.cell.Cell.{Cell}
use Rattle.cell_core.specs.declared.cell.Cell.TheVariants.{Nil, Oid}
use Rattle.cell_core.specs.Same.{same_cell, same_decides}
use Rattle.cell_core.specs.Pairs.{Pairs, numbered}
use Rattle.cell_core.specs.Relations.{column_cells, has_head, kdifference_of, kunion_of}
use Rattle.pick_laws.specs.Picks.{numbered_from, row_numbers, cell_in, beside}
use Rattle.pick_laws.proofs.ListLemmas.{and_none, or_right_true, any_append, longer, filter_map_swaps}

-- some element equals a key, and passes a test that the key passes
module _ {X K : Type 0} (is : X → K → Bool) (u : X → Bool) (v : K → Bool) (agrees : (x : X) (k : K) → is x k ≡ true → u x ≡ v k) where
  any_step : (xs : List X) (x : X) (k : K) → list_any (λ y. is y k) (filter u xs) ≡ list_any (λ y. is y k) xs && v k
      → list_any (λ y. is y k) (cond (u x) (x ∷ filter u xs) (filter u xs)) ≡ (is x k || list_any (λ y. is y k) xs) && v k
  any_step xs x k again = by_case (is x k) refl
    where
      others : Bool
      others = list_any (λ y. is y k) (filter u xs)

      unlike : (t : Bool) → is x k ≡ false → list_any (λ y. is y k) (cond t (x ∷ filter u xs) (filter u xs)) ≡ others
      unlike true e = ap (λ b. b || others) e
      unlike false e = refl

      alike : (t : Bool) → is x k ≡ true → t ≡ v k → list_any (λ y. is y k) (cond t (x ∷ filter u xs) (filter u xs)) ≡ v k
      alike true e f = ap (λ b. b || others) e ∙ f
      alike false e f = again ∙ ap (λ b. list_any (λ y. is y k) xs && b) (sym f) ∙ and_none (list_any (λ y. is y k) xs) ∙ f

      by_case : (b : Bool) → is x k ≡ b → list_any (λ y. is y k) (cond (u x) (x ∷ filter u xs) (filter u xs)) ≡ (is x k || list_any (λ y. is y k) xs) && v k
      by_case true e = alike (u x) e (agrees x k e) ∙ ap (λ b. (b || list_any (λ y. is y k) xs) && v k) (sym e)
      by_case false e = unlike (u x) e ∙ again ∙ ap (λ b. (b || list_any (λ y. is y k) xs) && v k) (sym e)

  pub any_kept : (xs : List X) (k : K) → list_any (λ x. is x k) (filter u xs) ≡ list_any (λ x. is x k) xs && v k
  any_kept [] k = refl
  any_kept (x ∷ xs) k = any_step xs x k (any_kept xs k)

-- ## Set operators

pub head_of_kdifference : (l r : Pairs) (head : Cell) → has_head (kdifference_of l r) head ≡ has_head l head && not (has_head r head)
head_of_kdifference l r head =
    any_kept (λ (q : Cell × Cell) h. same_cell q.0 h) (λ p. not (has_head r p.0)) (λ h. not (has_head r h)) (λ p h e. ap (λ x. not (has_head r x)) ((same_decides p.0 h).0 e)) l head

or_not : (a b : Bool) → a || (b && not a) ≡ a || b
or_not true b = refl
or_not false true = refl
or_not false false = refl

pub head_of_kunion : (l r : Pairs) (head : Cell) → has_head (kunion_of l r) head ≡ has_head l head || has_head r head
head_of_kunion l r head =
    any_append (λ q. same_cell q.0 head) l (kdifference_of r l)
    ∙ ap (λ b. has_head l head || b) (head_of_kdifference r l head)
    ∙ or_not (has_head l head) (has_head r head)

-- ## Rows by their numbers

module _ (f : List Cell → Cell) where
  by_numbers_behind : (before rows : List (List Cell)) → numbered_from (length before) (map f rows) ≡ beside (λ k. f (get_or (before ++ rows) k [])) (range_with_len (length before) (length rows))
  by_numbers_behind before [] = refl
  by_numbers_behind before (row ∷ rows) =
      ap (λ c. (Oid (length before), f c) ∷ numbered_from (length before + 1) (map f rows)) (sym (get_or-append_seam before row rows []))
      ∙ ap (λ r. (Oid (length before), f (get_or (before ++ row ∷ rows) (length before) [])) ∷ r)
      (ap (λ k. numbered_from k (map f rows)) (sym (longer before row)) ∙ by_numbers_behind (before ++ row ∷ []) rows
      ∙ ap (λ all. beside (λ k. f (get_or all k [])) (range_with_len (length (before ++ row ∷ [])) (length rows))) (append_assoc before (row ∷ []) rows)
      ∙ ap (λ n. beside (λ k. f (get_or (before ++ row ∷ rows) k [])) (range_with_len n (length rows))) (longer before row))

  pub by_numbers : (rows : List (List Cell)) → numbered (map f rows) ≡ beside (λ k. f (get_or rows k [])) (row_numbers rows)
  by_numbers rows = by_numbers_behind [] rows

-- a column's BAT by the numbers of its rows
pub bind_by_numbers : (place : ℕ) (rows : List (List Cell)) → numbered (column_cells place rows) ≡ beside (cell_in rows place) (row_numbers rows)
bind_by_numbers place rows = by_numbers (λ row. slice_index_or row place Nil) rows

pub head_of_beside : (f : ℕ → Cell) (ks : List ℕ) (j : ℕ) → has_head (beside f ks) (Oid j) ≡ list_any (λ k. k == j) ks
head_of_beside f [] j = refl
head_of_beside f (k ∷ ks) j = ap (λ b. (k == j) || b) (head_of_beside f ks j)

in_range_step : (a n j : ℕ) → a ≤ j → j < a + suc n → (a + 1 ≤ j → j < a + 1 + n → list_any (λ k. k == j) (range_with_len (a + 1) n) ≡ true)
    → (a == j) || list_any (λ k. k == j) (range_with_len (a + 1) n) ≡ true
in_range_step a n j low high again = by_case (a == j) refl
  where
    lower : (a n j : ℕ) → a ≤ j → j < a + suc n → (a == j) ≡ false → a + 1 ≤ j
    lower a n j low high e = grind arith

    higher : (a n j : ℕ) → j < a + suc n → j < a + 1 + n
    higher a n j high = omega arith

    by_case : (b : Bool) → (a == j) ≡ b → (a == j) || list_any (λ k. k == j) (range_with_len (a + 1) n) ≡ true
    by_case true e = ap (λ b. b || list_any (λ k. k == j) (range_with_len (a + 1) n)) e
    by_case false e = or_right_true (a == j) (list_any (λ k. k == j) (range_with_len (a + 1) n)) (again (lower a n j low high e) (higher a n j high))

pub in_range : (a n j : ℕ) → a ≤ j → j < a + n → list_any (λ k. k == j) (range_with_len a n) ≡ true
in_range a zero j low high = absurd (none a j low high)
  where
    none : (a j : ℕ) → a ≤ j → j < a + 0 → ⊥
    none a j low high = omega arith
in_range a (suc n) j low high = in_range_step a n j low high (in_range (a + 1) n j)

-- a selection of all rows has a row's number just where the row passes; a row past the end doesn't pass
pub head_of_selection : (f : ℕ → Cell) (t : Cell → Bool) (n j : ℕ) → (t (f j) ≡ true → j < n) → has_head (filter (λ p. t p.1) (beside f (range_with_len 0 n))) (Oid j) ≡ t (f j)
head_of_selection f t n j within =
    ap (λ b. has_head b (Oid j)) (filter_map_swaps (λ p. t p.1) (λ k. (Oid k, f k)) (range_with_len 0 n))
    ∙ head_of_beside f (filter (λ k. t (f k)) (range_with_len 0 n)) j
    ∙ any_kept (λ k j. k == j) (λ k. t (f k)) (λ k. t (f k)) (λ k j e. ap (λ k. t (f k)) (eqb-true k j e)) (range_with_len 0 n) j
    ∙ by_case (t (f j)) refl
  where
    least : (j : ℕ) → 0 ≤ j
    least j = omega arith

    above : (n j : ℕ) → j < n → j < 0 + n
    above n j h = omega arith

    by_case : (b : Bool) → t (f j) ≡ b → list_any (λ k. k == j) (range_with_len 0 n) && t (f j) ≡ t (f j)
    by_case true e = ap (λ b. b && t (f j)) (in_range 0 n j (least j) (above n j (within e)))
    by_case false e = ap (λ b. list_any (λ k. k == j) (range_with_len 0 n) && b) e ∙ and_none (list_any (λ k. k == j) (range_with_len 0 n)) ∙ sym e
