use Rattle.std.proofs.Common.{◌≡◌, ◌+◌, ◌-◌, ◌≤◌, length}
use Rattle.std.specs.Option.{option_map}
use Rattle.cell_core.specs.Tables.{column_place}
use Rattle.cell_core.proofs.table.find_column.Given as goal

-- the place is that in the columns left, plus the number of columns passed
abbrev pub invariant-columns : goal.invariant-columns
invariant-columns l = record {
  behind : length l.rest ≤ length l.columns;
  place : option_map (λ j. (length l.columns - length l.rest) + j) (column_place l.name l.rest) ≡ column_place l.name l.columns;
}

abbrev pub decreases-columns : goal.decreases-columns
decreases-columns l = length l.rest
