use Rattle.std.proofs.Common.{◌≡◌, List, not, length}
use Rattle.std.specs.Prelude.{◌==◌}
use Rattle.std.specs.List.{list_any}
use Rattle.cell_core.specs.declared.cell.Cell.{Cell}
use Rattle.sql_check.proofs.changes.has_other_length.Given as goal

-- the rest decides as all do
abbrev pub invariant-rows : goal.invariant-rows
invariant-rows l =
    list_any (λ (row : List Cell). not (length row == l.count)) l.rest ≡ list_any (λ (row : List Cell). not (length row == l.count)) l.rows

abbrev pub decreases-rows : goal.decreases-rows
decreases-rows l = length l.rest
