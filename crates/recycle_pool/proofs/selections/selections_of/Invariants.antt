-- What was found and what is left are the whole.
use Rattle.std.proofs.Common.{◌≡◌, ◌++◌, length}
use Rattle.recycle_pool.specs.Indexed.{selections_at}
use Rattle.recycle_pool.proofs.selections.selections_of.Given as goal

abbrev pub invariant-pairs : goal.invariant-pairs
invariant-pairs l = l.selections.items ++ selections_at l.entries l.rest ≡ selections_at l.entries l.pairs

abbrev pub decreases-pairs : goal.decreases-pairs
decreases-pairs l = length l.rest
