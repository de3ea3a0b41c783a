use Rattle.std.proofs.Common.{◌≡◌, length}
use Rattle.std.specs.List.{list_any}
use Rattle.sql_definitions.specs.Effect.{is_too_long_row}
use Rattle.row_values.proofs.stored.are_rows_too_long.Given as goal

-- the rest decides as all do
abbrev pub invariant-rows : goal.invariant-rows
invariant-rows l =
    list_any (is_too_long_row l.columns) l.rest ≡ list_any (is_too_long_row l.columns) l.rows

abbrev pub decreases-rows : goal.decreases-rows
decreases-rows l = length l.rest
