use Rattle.std.proofs.Common.{◌≡◌, length}
use Rattle.sql_definitions.specs.Check.{is_misfit_row}
use Rattle.sql_check.proofs.changes.is_misfit_row.Given as goal

-- the rest decides as all do
abbrev pub invariant-columns : goal.invariant-columns
invariant-columns l =
    is_misfit_row l.targets l.cells ≡ is_misfit_row l.columns l.row

abbrev pub decreases-columns : goal.decreases-columns
decreases-columns l = length l.targets
