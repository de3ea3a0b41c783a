-- What is left yields, from the best so far, what the whole yields.
use Rattle.std.proofs.Common.{◌≡◌, None, length}
use Rattle.std.specs.Prelude.{fold}
use Rattle.recycle_pool.proofs.Contained.{weigh_light}
use Rattle.recycle_pool.proofs.selections.container.Given as goal

abbrev pub invariant-pairs : goal.invariant-pairs
invariant-pairs l = fold (weigh_light l.entries l.target) l.best l.rest ≡ fold (weigh_light l.entries l.target) None l.pairs

abbrev pub decreases-pairs : goal.decreases-pairs
decreases-pairs l = length l.rest
