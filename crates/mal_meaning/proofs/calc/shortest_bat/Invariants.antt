use Rattle.std.proofs.Common.{◌≡◌, length}
use Rattle.cell_core.specs.Pairs.{shortest}
use Rattle.mal_meaning.proofs.SlowLemmas.{least_with}
use Rattle.mal_meaning.proofs.calc.shortest_bat.Given as goal

-- the least so far, together with the rest, is that of all
abbrev pub invariant-values : goal.invariant-values
invariant-values l = least_with l.least (shortest l.rest) ≡ shortest l.values

abbrev pub decreases-values : goal.decreases-values
decreases-values l = length l.rest
