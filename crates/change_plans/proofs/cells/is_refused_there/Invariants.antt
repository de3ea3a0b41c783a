use Rattle.std.proofs.Common.{◌≡◌, length}
use Rattle.change_plans.specs.Decisions.{is_refused_there, refuses}
use Rattle.change_plans.proofs.cells.is_refused_there.Given as goal

-- the rest decides as all do
abbrev pub invariant-columns : goal.invariant-columns
invariant-columns l = is_refused_there (refuses l.fault) l.rest (l.name, l.cell) ≡ is_refused_there (refuses l.fault) l.columns (l.name, l.cell)

abbrev pub decreases-columns : goal.decreases-columns
decreases-columns l = length l.rest
