use Rattle.std.proofs.Common.{◌≡◌, ◌++◌, length}
use Rattle.std.specs.List.{zip}
use Rattle.mal_meaning.proofs.columns.pair_up.Given as goal

-- what is made so far, followed by the result of the rest, is the result of all
abbrev pub invariant-places : goal.invariant-places
invariant-places l = l.out ++ zip l.left l.right ≡ zip l.heads l.tails

abbrev pub decreases-places : goal.decreases-places
decreases-places l = length l.left
