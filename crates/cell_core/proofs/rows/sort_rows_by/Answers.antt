use Rattle.std.proofs.Common.{rules}
use Rattle.std.proofs.lemmas.List.Sorted.{ranks_by}
use Rattle.std.proofs.lemmas.Fn.{always_returns_same}
use Rattle.cell_core.specs.Keys.{is_keyed_below, keyed_total}
use Rattle.cell_core.proofs.SortedLemmas.{sorted_is}
use Rattle.cell_core.proofs.rows.sort_rows_by.Goals as goal

-- std's sort is stable, so it returns `sorted_by`
pub returns-clause-ok : goal.returns-clause-ok
returns-clause-ok c =
    let keys = c.args.keys.now in let below = is_keyed_below keys in
    let order = ranks_by (keyed_total keys) (λ r. r) in
    let sorted = c.in_ok-sort_by.ensures.sorted below order (always_returns_same _ _ _ (λ a r f k. search rules)) in
    let stable = c.in_ok-sort_by.ensures.stable below order (always_returns_same _ _ _ (λ a r f k. search rules)) in
    sorted_is below order _ _ sorted stable
