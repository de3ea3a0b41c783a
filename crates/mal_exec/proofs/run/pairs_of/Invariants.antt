use Rattle.std.proofs.Common.{◌≡◌, ◌+◌, length}
use Rattle.bat_core.specs.Objects.{values_of}
use Rattle.cell_core.specs.Operators.{pairs_read}
use Rattle.mal_exec.proofs.run.pairs_of.Given as goal

-- what is made so far, followed by the result of the rest, is the result of all
abbrev pub invariant-values : goal.invariant-values
invariant-values l = l.pairs + pairs_read (values_of l.rest) ≡ pairs_read (values_of l.values)

abbrev pub decreases-values : goal.decreases-values
decreases-values l = length l.rest
