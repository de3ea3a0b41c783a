use Rattle.std.proofs.Common.{◌≡◌, ◌++◌, map, length}
use Rattle.mal_meaning.specs.Slow.{pair_numbered}
use Rattle.mal_meaning.proofs.groups.number_pairs.Given as goal

-- what is made so far, followed by the result of the rest, is the result of all
abbrev pub invariant-pairs : goal.invariant-pairs
invariant-pairs l = l.out ++ map (pair_numbered l.names) l.rest ≡ map (pair_numbered l.names) l.b

abbrev pub decreases-pairs : goal.decreases-pairs
decreases-pairs l = length l.rest
