use Rattle.std.proofs.Common.{◌≡◌, length}
use Rattle.cell_core.specs.Pairs.{bats_in}
use Rattle.cell_core.specs.Calc.{first_heads}
use Rattle.mal_meaning.proofs.calc.heads_of_first.Given as goal

-- the first of the rest is the first of all
abbrev pub invariant-values : goal.invariant-values
invariant-values l = first_heads (bats_in l.rest) ≡ first_heads (bats_in l.values)

abbrev pub decreases-values : goal.decreases-values
decreases-values l = length l.rest
