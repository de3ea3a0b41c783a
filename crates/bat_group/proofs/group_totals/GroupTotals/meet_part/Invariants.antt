use Rattle.std.proofs.Common.{◌+◌, ◌++◌, ◌≤◌, List, length, take}
use Rattle.cell_core.specs.declared.cell.Cell.{Cell}
use Rattle.chunk_core.specs.Parts.{part_cells}
use Rattle.bat_group.specs.Totals.{AreTotals}
use Rattle.bat_group.proofs.group_totals.GroupTotals.meet_part.Given as goal

-- the groups of the part so far are met
abbrev pub invariant-loop-i : goal.invariant-loop-i
invariant-loop-i l = record {
  few : l.self.count ≤ l.initial.self.count + l.i;
  met : (so_far met : List Cell) → length so_far ≤ length met → AreTotals l.aggregate l.initial.self so_far met → AreTotals l.aggregate l.self so_far (met ++ take l.i (part_cells l.groups));
}
