use Rattle.std.proofs.Common.{◌≡◌, length}
use Rattle.change_plans.specs.Decisions.{is_any_refused, refuses}
use Rattle.change_plans.proofs.cells.is_any_refused.Given as goal

-- the rest decides as all do
abbrev pub invariant-rows : goal.invariant-rows
invariant-rows l = is_any_refused (refuses l.fault) l.columns l.names l.rest ≡ is_any_refused (refuses l.fault) l.columns l.names l.rows

abbrev pub decreases-rows : goal.decreases-rows
decreases-rows l = length l.rest
