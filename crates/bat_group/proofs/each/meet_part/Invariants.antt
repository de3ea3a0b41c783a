use Rattle.std.proofs.Common.{◌+◌, ◌++◌, ◌≤◌, List, take}
use Rattle.cell_core.specs.declared.cell.Cell.{Cell}
use Rattle.cell_core.specs.Same.{same_cell}
use Rattle.chunk_core.specs.Parts.{part_cells}
use Rattle.bat_group.specs.Keys.{AreKeys}
use Rattle.bat_group.proofs.each.meet_part.Given as goal

-- the cells of the part so far have their numbers
abbrev pub invariant-loop-i : goal.invariant-loop-i
invariant-loop-i l = record {
  few : l.met.count ≤ l.initial.met.count + l.i;
  numbered : (before : List Cell) → AreKeys same_cell l.initial.met before → AreKeys same_cell l.met (before ++ take l.i (part_cells l.part));
}
