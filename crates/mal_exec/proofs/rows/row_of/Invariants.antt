use Rattle.std.proofs.Common.{◌≡◌, ◌++◌, map, length}
use Rattle.bat_core.specs.Objects.{values_of}
use Rattle.cell_core.specs.Pairs.{cell_at}
use Rattle.mal_exec.proofs.rows.row_of.Given as goal

-- what is made so far, followed by the result of the rest, is the result of all
abbrev pub invariant-columns : goal.invariant-columns
invariant-columns l = l.row.items ++ map (cell_at l.place) (values_of l.rest) ≡ map (cell_at l.place) (values_of l.columns)

abbrev pub decreases-columns : goal.decreases-columns
decreases-columns l = length l.rest
