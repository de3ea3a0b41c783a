use Rattle.std.proofs.Common.{◌≡◌, ◌≤◌, length, take}
use Rattle.cell_core.specs.Groups.{known}
use Rattle.bat_group.proofs.parts.known_cells.Given as goal

abbrev pub invariant-loop-cell : goal.invariant-loop-cell
invariant-loop-cell l = record {
  few : l.count ≤ l.cell-index;
  value : l.count ≡ length (known (take l.cell-index l.cells));
}
