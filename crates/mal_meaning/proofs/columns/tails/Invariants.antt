use Rattle.std.proofs.Common.{◌≡◌, ◌++◌, length}
use Rattle.cell_core.specs.Pairs.{tails_of}
use Rattle.mal_meaning.proofs.columns.tails.Given as goal

-- what is made so far, followed by the result of the rest, is the result of all
abbrev pub invariant-pairs : goal.invariant-pairs
invariant-pairs l = l.cells ++ tails_of l.rest ≡ tails_of l.b

abbrev pub decreases-pairs : goal.decreases-pairs
decreases-pairs l = length l.rest
