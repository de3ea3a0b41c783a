use Rattle.std.proofs.Common.{◌≡◌, ◌++◌, length}
use Rattle.cell_core.specs.Relations.{column_cells}
use Rattle.mal_meaning.proofs.slow.cells_at.Given as goal

-- what is made so far, followed by the result of the rest, is the result of all
abbrev pub invariant-rows : goal.invariant-rows
invariant-rows l = l.cells ++ column_cells l.place l.rest ≡ column_cells l.place l.rows

abbrev pub decreases-rows : goal.decreases-rows
decreases-rows l = length l.rest
