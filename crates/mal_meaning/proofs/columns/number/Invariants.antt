use Rattle.std.proofs.Common.{◌≡◌, ◌++◌, ◌+◌, map, length}
use Rattle.std.specs.List.{enumerate_from}
use Rattle.cell_core.specs.declared.cell.Cell.TheVariants.{Oid}
use Rattle.mal_meaning.proofs.columns.number.Given as goal

-- what is made so far, followed by the result of the rest, is the result of all
abbrev pub invariant-cells : goal.invariant-cells
invariant-cells l =
    record {
      made : l.out ++ map (λ c. (Oid c.0, c.1)) (enumerate_from l.place l.rest) ≡ map (λ c. (Oid c.0, c.1)) (enumerate_from 0 l.cells);
      places : l.place + length l.rest ≡ length l.cells;
    }

abbrev pub decreases-cells : goal.decreases-cells
decreases-cells l = length l.rest
