-- Rows that begin with ascending oids are in order.
use Rattle.std.proofs.Common.{◌≡◌, ℕ, ◌+◌, ◌<◌, List, [], ◌∷◌, map, Bool, true, false, cond, nat_lt, refl, ap, ◌∙◌, arith}
use Rattle.cell_core.specs.declared.cell.Cell.{Cell}
use Rattle.cell_core.specs.declared.cell.Cell.TheVariants.{Oid}
use Rattle.cell_core.specs.Keys.{is_keyed_below}
use Rattle.cell_core.specs.Sorted.{insert_sorted, sorted_by}
use Rattle.change_plans.proofs.ListedLemmas.{listed}

-- a later oid isn't below
not_below : (j k : ℕ) (xs ys : List Cell) → j < k → is_keyed_below [] (Oid k ∷ xs) (Oid j ∷ ys) ≡ false
not_below j k xs ys few = rw (later j k few, earlier j k few)
  where
    later : (j k : ℕ) → j < k → nat_lt k j ≡ false
    later j k few = grind arith

    earlier : (j k : ℕ) → j < k → nat_lt j k ≡ true
    earlier j k few = grind arith

module _ {R : Type 0} (hit : R → Bool) (cells : R → List Cell) where
  -- a row by its place
  abbrev by_place : ℕ × R → List Cell
  by_place at = Oid at.0 ∷ cells at.1

  abbrev rows_from : ℕ → List R → List (List Cell)
  rows_from k rows = map by_place (listed hit k rows)

  stands_first : (j k : ℕ) (x : R) (rows : List R) → j < k → insert_sorted (is_keyed_below []) (by_place (j, x)) (rows_from k rows) ≡ by_place (j, x) ∷ rows_from k rows
  stands_first j k x [] few = refl
  stands_first j k x (row ∷ rows) few = elim (hit row) as (λ b. insert_sorted (is_keyed_below []) (by_place (j, x)) (map by_place (cond b ((k, row) ∷ listed hit (k + 1) rows) (listed hit (k + 1) rows)))
      ≡ by_place (j, x) ∷ map by_place (cond b ((k, row) ∷ listed hit (k + 1) rows) (listed hit (k + 1) rows))) [
        | true ↦ ap (λ b. cond b (by_place (k, row) ∷ insert_sorted (is_keyed_below []) (by_place (j, x)) (rows_from (k + 1) rows)) (by_place (j, x) ∷ by_place (k, row) ∷ rows_from (k + 1) rows)) (not_below j k (cells row) (cells x) few)
        | false ↦ stands_first j (k + 1) x rows (omega arith)
      ]

  pub in_order : (k : ℕ) (rows : List R) → sorted_by (is_keyed_below []) (rows_from k rows) ≡ rows_from k rows
  in_order k [] = refl
  in_order k (row ∷ rows) = elim (hit row) as (λ b. sorted_by (is_keyed_below []) (map by_place (cond b ((k, row) ∷ listed hit (k + 1) rows) (listed hit (k + 1) rows)))
      ≡ map by_place (cond b ((k, row) ∷ listed hit (k + 1) rows) (listed hit (k + 1) rows))) [
        | true ↦ ap (insert_sorted (is_keyed_below []) (by_place (k, row))) (in_order (k + 1) rows) ∙ stands_first k (k + 1) row rows (omega arith)
        | false ↦ in_order (k + 1) rows
      ]
