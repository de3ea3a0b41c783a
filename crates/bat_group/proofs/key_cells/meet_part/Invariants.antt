use Rattle.std.proofs.Common.{◌+◌, ◌++◌, ◌≤◌, List, take}
use Rattle.cell_core.specs.declared.cell.Cell.{Cell}
use Rattle.chunk_core.specs.Parts.{part_cells}
use Rattle.bat_group.specs.Keys.{AreMade}
use Rattle.bat_group.proofs.key_cells.meet_part.Given as goal

-- the cells of the part so far have their numbers
abbrev pub invariant-loop-i : goal.invariant-loop-i
invariant-loop-i g l = record {
  few : l.met.count ≤ l.initial.met.count + l.i;
  made : (before : List Cell) → AreMade g.K.PartialEq.eq g.K.CellKey.cell_of l.initial.met before → AreMade g.K.PartialEq.eq g.K.CellKey.cell_of l.met (before ++ take l.i (part_cells l.part));
}
