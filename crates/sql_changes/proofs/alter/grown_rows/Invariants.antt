use Rattle.std.proofs.Common.{◌≡◌, List, [], ◌∷◌, ◌++◌, map, length}
use Rattle.cell_core.specs.declared.cell.Cell.{Cell}
use Rattle.sql_changes.proofs.alter.grown_rows.Given as goal

-- what is made so far, followed by what the rest makes, is what all make
abbrev pub invariant-rows : goal.invariant-rows
invariant-rows l =
    l.out ++ map (λ (row : List Cell). row ++ l.cell ∷ []) l.rest ≡ map (λ (row : List Cell). row ++ l.cell ∷ []) l.rows

abbrev pub decreases-rows : goal.decreases-rows
decreases-rows l = length l.rest
