use Rattle.std.proofs.Common.{◌≡◌, take}
use Rattle.cell_core.proofs.table.copy_cells.Given as goal

-- what is copied so far
abbrev pub invariant-cells : goal.invariant-cells
invariant-cells l = l.copy.items ≡ take l.cell-index l.cells
