use Rattle.std.proofs.Common.{◌≡◌, ◌++◌, map, length}
use Rattle.cell_core.specs.Pairs.{cell_at}
use Rattle.mal_meaning.proofs.calc.row_of.Given as goal

-- what is made so far, followed by the result of the rest, is the result of all
abbrev pub invariant-values : goal.invariant-values
invariant-values l = l.row ++ map (cell_at l.place) l.rest ≡ map (cell_at l.place) l.values

abbrev pub decreases-values : goal.decreases-values
decreases-values l = length l.rest
