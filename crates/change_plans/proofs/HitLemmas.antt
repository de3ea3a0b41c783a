-- The rows of a plan over a table are those of which the condition is true.
use Rattle.std.proofs.Common.{◌≡◌, ℕ, ◌+◌, List, [], ◌∷◌, ◌++◌, length, map, filter, Bool, true, false, not, ◌&&◌, cond, Option, Some, None, refl, ap, sym, ◌∙◌, append_assoc, length-append}
use Rattle.std.specs.Prelude.{get_or, is_none}
use Rattle.std.specs.List.{list_any, enumerate_from, range_with_len}
use Rattle.std.specs.Option.{option_and_then}
use Rattle.cell_core.specs.declared.cell.Cell.{Cell}
use Rattle.cell_core.specs.declared.cell.Cell.TheVariants.{Oid}
use Rattle.cell_core.specs.declared.table.Table.{Table}
use Rattle.cell_core.specs.Keys.{is_keyed_below}
use Rattle.cell_core.specs.Sorted.{sorted_by}
use Rattle.pick_laws.specs.Picks.{row_numbers}
use Rattle.pick_laws.proofs.ListLemmas.{map_after, map_agree, filter_map_swaps}
use Rattle.sql_tree.specs.Tree.{ExprTree, CondTree}
use Rattle.sql_definitions.specs.Values.{cell_over}
use Rattle.sql_definitions.specs.Kept.{cond_overflows, is_kept}
use Rattle.sql_definitions.specs.Effect.{own_table}
use Rattle.rows_to_mal.specs.Choices.{all_choices, choice_at, number_choices}
use Rattle.rows_to_mal.specs.Laws.{UpdatesOverflow}
use Rattle.rows_to_mal.specs.Writes.{overflows_for, written_row, written_rows}
use Rattle.change_plans.specs.Hits.{hit_rows, new_cells, written, overflows_on}
use Rattle.change_plans.specs.Laws.{PlansGiveHits}
use Rattle.change_plans.proofs.ListedLemmas.{listed}
use Rattle.change_plans.proofs.OrderLemmas.{in_order}

-- ## Rows by their numbers

-- an element beside its number
abbrev numbered_in : {R : Type 0} → List R → R → ℕ → ℕ × R
numbered_in all d n = (n, get_or all n d)

at_end : {R : Type 0} (before : List R) (row : R) (rows : List R) (d : R) → get_or (before ++ row ∷ rows) (length before) d ≡ row
at_end [] row rows d = refl
at_end (x ∷ before) row rows d = at_end before row rows d

-- the elements after others, each beside its number
numbers_behind : {R : Type 0} (before rows : List R) (d : R) (k : ℕ) → k ≡ length before → map (numbered_in (before ++ rows) d) (range_with_len k (length rows)) ≡ enumerate_from k rows
numbers_behind before [] d k e = refl
numbers_behind {R} before (row ∷ rows) d k e =
    ap (λ (x : R). (k, x) ∷ map (numbered_in (before ++ row ∷ rows) d) (range_with_len (k + 1) (length rows))) (ap (λ n. get_or (before ++ row ∷ rows) n d) e ∙ at_end before row rows d)
    ∙ ap (λ all. (k, row) ∷ map (numbered_in all d) (range_with_len (k + 1) (length rows))) (sym (append_assoc before (row ∷ []) rows))
    ∙ ap (λ r. (k, row) ∷ r) (numbers_behind (before ++ row ∷ []) rows d (k + 1) (one_more before row k e))
  where
    one_more : (before : List R) (row : R) (k : ℕ) → k ≡ length before → k + 1 ≡ length (before ++ row ∷ [])
    one_more before row k e = ap (λ n. n + 1) e ∙ sym (length-append before (row ∷ []))

numbers_are : {R : Type 0} (rows : List R) (d : R) → map (numbered_in rows d) (row_numbers rows) ≡ enumerate_from 0 rows
numbers_are rows d = numbers_behind [] rows d 0 refl

-- ## Choices of one table

alone_choices : (ns : List ℕ) → all_choices (ns ∷ []) ≡ map (λ n. n ∷ []) ns
alone_choices [] = refl
alone_choices (n ∷ ns) = ap (λ r. (n ∷ []) ∷ r) (alone_choices ns)

module _ (table : Table) (sets : List (List ℕ × ExprTree)) (condition : Option CondTree) where
  abbrev exprs : List ExprTree
  exprs = map (λ (set : List ℕ × ExprTree). set.1) sets

  abbrev keeps : List Cell → Bool
  keeps row = is_kept (own_table table) condition (row ∷ [])

  abbrev numbers_kept : List (List ℕ)
  numbers_kept = filter (λ numbers. is_kept (own_table table) condition (choice_at (table.rows ∷ []) numbers)) (number_choices (table.rows ∷ []))

  abbrev row_by_number : List ℕ → List Cell
  row_by_number numbers = written_row (own_table table) exprs (table.rows ∷ []) numbers

  -- the rows that pass, by their numbers and by their places
  kept_rows_are : map row_by_number numbers_kept ≡ map (written sets table) (listed keeps 0 table.rows)
  kept_rows_are =
      ap (λ (choices : List (List ℕ)). map row_by_number (filter (λ numbers. is_kept (own_table table) condition (choice_at (table.rows ∷ []) numbers)) choices)) (alone_choices (row_numbers table.rows))
      ∙ ap (map row_by_number) (filter_map_swaps (λ numbers. is_kept (own_table table) condition (choice_at (table.rows ∷ []) numbers)) (λ n. n ∷ []) (row_numbers table.rows))
      ∙ map_after row_by_number (λ n. n ∷ []) (filter (λ n. keeps (get_or table.rows n [])) (row_numbers table.rows))
      ∙ map_agree (λ n. row_by_number (n ∷ [])) (λ n. written sets table (numbered_in table.rows [] n)) (λ n. ap (λ r. Oid n ∷ r) (map_after (cell_over (own_table table) (get_or table.rows n [] ∷ [])) (λ (set : List ℕ × ExprTree). set.1) sets)) (filter (λ n. keeps (get_or table.rows n [])) (row_numbers table.rows))
      ∙ sym (map_after (written sets table) (numbered_in table.rows []) (filter (λ n. keeps (get_or table.rows n [])) (row_numbers table.rows)))
      ∙ ap (map (written sets table)) (sym (filter_map_swaps (λ (at : ℕ × List Cell). keeps at.1) (numbered_in table.rows []) (row_numbers table.rows)) ∙ ap (filter (λ (at : ℕ × List Cell). keeps at.1)) (numbers_are table.rows []))

  -- ## The plan's rows

  abbrev given : Bool → Bool → Option (List (List Cell))
  given far over =
      option_and_then (λ (choices : List (List ℕ)). cond (over) None (Some (sorted_by (is_keyed_below []) (map row_by_number choices))))
      (cond far None (Some numbers_kept))

  -- the rows, where there are some
  some_given : (far over : Bool) (rows : List (List Cell)) → given far over ≡ Some rows → rows ≡ map (written sets table) (filter (λ (at : ℕ × List Cell). not far && keeps at.1) (enumerate_from 0 table.rows))
  some_given true over rows e = cc
  some_given false true rows e = cc
  some_given false false rows e =
      let same : sorted_by (is_keyed_below []) (map row_by_number numbers_kept) ≡ rows = cc in
      sym same ∙ ap (sorted_by (is_keyed_below [])) kept_rows_are ∙ in_order keeps (new_cells sets table) 0 table.rows

  by_given : (o : Option (List (List Cell))) (over : Bool) → is_none o ≡ over → ((rows : List (List Cell)) → o ≡ Some rows → rows ≡ map (written sets table) (hit_rows condition table))
      → o ≡ cond over None (Some (map (written sets table) (hit_rows condition table)))
  by_given None true e from = refl
  by_given None false e from = cc
  by_given (Some rows) true e from = cc
  by_given (Some rows) false e from = ap (λ (r : List (List Cell)). Some r) (from rows refl)

  rows_are : (rows : List (List Cell)) → written_rows (own_table table) condition exprs (table.rows ∷ []) ≡ Some rows → rows ≡ map (written sets table) (hit_rows condition table)
  rows_are rows e = some_given (cond_overflows condition) (list_any (overflows_for (own_table table) (map (choice_at (table.rows ∷ [])) numbers_kept)) exprs) rows (by_far (cond_overflows condition) e)
    where
      by_far : (far : Bool) → option_and_then (λ (choices : List (List ℕ)). cond (list_any (overflows_for (own_table table) (map (choice_at (table.rows ∷ [])) choices)) exprs) None (Some (sorted_by (is_keyed_below []) (map row_by_number choices)))) (cond far None (Some numbers_kept)) ≡ Some rows
          → given far (list_any (overflows_for (own_table table) (map (choice_at (table.rows ∷ [])) numbers_kept)) exprs) ≡ Some rows
      by_far true e = e
      by_far false e = e

pub plans_give_hits : UpdatesOverflow → PlansGiveHits
plans_give_hits overflows table sets condition =
    by_given table sets condition (written_rows (own_table table) condition (map (λ (set : List ℕ × ExprTree). set.1) sets) (table.rows ∷ [])) (overflows_on sets condition table)
    (overflows table sets condition) (rows_are table sets condition)
