use Rattle.std.proofs.Common.{◌≡◌, ◌++◌, filter, length}
use Rattle.cell_core.specs.Pairs.{heads_of}
use Rattle.cell_core.specs.Same.{same_cell}
use Rattle.mal_meaning.proofs.groups.heads_at.Given as goal

-- what is made so far, followed by the result of the rest, is the result of all
abbrev pub invariant-pairs : goal.invariant-pairs
invariant-pairs l = l.out ++ heads_of (filter (λ p. same_cell p.1 l.tail) l.rest) ≡ heads_of (filter (λ p. same_cell p.1 l.tail) l.paired)

abbrev pub decreases-pairs : goal.decreases-pairs
decreases-pairs l = length l.rest
