use Rattle.std.proofs.Common.{◌≡◌, length}
use Rattle.sql_definitions.specs.Effect.{is_null_row}
use Rattle.row_values.proofs.stored.is_null_row.Given as goal

-- the rest decides as all do
abbrev pub invariant-columns : goal.invariant-columns
invariant-columns l =
    is_null_row l.targets l.cells ≡ is_null_row l.columns l.row

abbrev pub decreases-columns : goal.decreases-columns
decreases-columns l = length l.targets
