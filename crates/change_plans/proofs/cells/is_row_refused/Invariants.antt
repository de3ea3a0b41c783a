use Rattle.std.proofs.Common.{◌≡◌, length}
use Rattle.change_plans.specs.Decisions.{is_row_refused, refuses}
use Rattle.change_plans.proofs.cells.is_row_refused.Given as goal

-- the rest decides as all do
abbrev pub invariant-names : goal.invariant-names
invariant-names l = is_row_refused (refuses l.fault) l.columns l.named l.rest ≡ is_row_refused (refuses l.fault) l.columns l.names l.cells

abbrev pub decreases-names : goal.decreases-names
decreases-names l = length l.named
