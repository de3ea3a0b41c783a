use Rattle.std.proofs.Common.{◌≡◌, length}
use Rattle.cell_core.specs.Order.{cells_cmp}
use Rattle.cell_core.proofs.rows.compare_rows.Given as goal

-- what is left decides as the whole rows do
abbrev pub invariant-places : goal.invariant-places
invariant-places l = cells_cmp l.left l.right ≡ cells_cmp l.a l.b

abbrev pub decreases-places : goal.decreases-places
decreases-places l = length l.left
