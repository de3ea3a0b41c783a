use Rattle.std.proofs.Common.{◌≡◌, length}
use Rattle.std.specs.List.{list_any}
use Rattle.sql_definitions.specs.Check.{is_misfit_row}
use Rattle.sql_check.proofs.changes.are_rows_misfit.Given as goal

-- the rest decides as all do
abbrev pub invariant-rows : goal.invariant-rows
invariant-rows l =
    list_any (is_misfit_row l.columns) l.rest ≡ list_any (is_misfit_row l.columns) l.rows

abbrev pub decreases-rows : goal.decreases-rows
decreases-rows l = length l.rest
