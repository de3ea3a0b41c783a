use Rattle.std.proofs.Common.{◌≡◌, ◌≤◌, ◌-◌, length, None}
use Rattle.std.specs.Prelude.{replicate}
use Rattle.query_run.proofs.query.no_results.Given as goal

abbrev pub invariant-results : goal.invariant-results
invariant-results l = record {
  none : l.results.items ≡ replicate (length l.results.items) None;
  few : length l.results.items ≤ l.count;
}

abbrev pub decreases-results : goal.decreases-results
decreases-results l = l.count - length l.results.items
