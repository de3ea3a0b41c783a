use Rattle.std.proofs.Common.{◌≡◌, length}
use Rattle.std.specs.Prelude.{take, drop}
use Rattle.cell_core.specs.Groups.{distinct}
use Rattle.mal_meaning.specs.Slow.{are_same}
use Rattle.mal_meaning.proofs.groups.distinct_pairs.Given as goal

-- the rest is the front of all, and what is made is the result of all after it
abbrev pub invariant-pairs : goal.invariant-pairs
invariant-pairs l =
    record {
      front : l.rest ≡ take (length l.rest) l.b;
      behind : l.out ≡ distinct (are_same l.by) (drop (length l.rest) l.b);
    }

abbrev pub decreases-pairs : goal.decreases-pairs
decreases-pairs l = length l.rest
