use Rattle.std.proofs.Common.{◌≡◌, ◌++◌, map, length}
use Rattle.bat_core.specs.Objects.{values_of}
use Rattle.mal_meaning.specs.Output.{value_in}
use Rattle.mal_exec.proofs.rows.columns_at.Given as goal

-- what is made so far, followed by the result of the rest, is the result of all
abbrev pub invariant-cols : goal.invariant-cols
invariant-cols l = values_of l.columns.items ++ map (value_in (values_of l.values)) l.rest ≡ map (value_in (values_of l.values)) l.cols

abbrev pub decreases-cols : goal.decreases-cols
decreases-cols l = length l.rest
