use Rattle.std.proofs.Common.{rules}
use Rattle.std.proofs.lemmas.List.Sorted.{ranks_by}
use Rattle.std.proofs.lemmas.Fn.{always_returns_same}
use Rattle.cell_core.specs.Order.{is_row_below, cells_cmp_total}
use Rattle.cell_core.proofs.SortedLemmas.{sorted_is}
use Rattle.cell_core.proofs.rows.sort_rows.Goals as goal

-- std's sort is stable, so it returns `sorted_by`
pub returns-clause-ok : goal.returns-clause-ok
returns-clause-ok c =
    let order = ranks_by cells_cmp_total (λ r. r) in
    let sorted = c.in_ok-sort_by.ensures.sorted is_row_below order (always_returns_same _ _ _ (λ a r f k. search rules)) in
    let stable = c.in_ok-sort_by.ensures.stable is_row_below order (always_returns_same _ _ _ (λ a r f k. search rules)) in
    sorted_is is_row_below order _ _ sorted stable
