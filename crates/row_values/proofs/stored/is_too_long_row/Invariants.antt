use Rattle.std.proofs.Common.{◌≡◌, length}
use Rattle.sql_definitions.specs.Effect.{is_too_long_row}
use Rattle.row_values.proofs.stored.is_too_long_row.Given as goal

-- the rest decides as all do
abbrev pub invariant-columns : goal.invariant-columns
invariant-columns l =
    is_too_long_row l.targets l.cells ≡ is_too_long_row l.columns l.row

abbrev pub decreases-columns : goal.decreases-columns
decreases-columns l = length l.targets
