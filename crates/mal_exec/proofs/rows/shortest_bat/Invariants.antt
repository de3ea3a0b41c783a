use Rattle.std.proofs.Common.{◌≡◌, length}
use Rattle.bat_core.specs.Objects.{values_of}
use Rattle.cell_core.specs.Pairs.{shortest}
use Rattle.mal_meaning.proofs.SlowLemmas.{least_with}
use Rattle.mal_exec.proofs.rows.shortest_bat.Given as goal

-- what is made so far, followed by the result of the rest, is the result of all
abbrev pub invariant-columns : goal.invariant-columns
invariant-columns l = least_with l.least (shortest (values_of l.rest)) ≡ shortest (values_of l.columns)

abbrev pub decreases-columns : goal.decreases-columns
decreases-columns l = length l.rest
