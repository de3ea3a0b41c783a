use Rattle.std.proofs.Common.{◌≤◌, ◌-◌, length, take}
use Rattle.bat_group.specs.Keys.{AreMade}
use Rattle.bat_group.proofs.key_cells.number_keys.Given as goal

-- the cells so far have their numbers
abbrev pub invariant-runs : goal.invariant-runs
invariant-runs g l = record {
  within : l.from ≤ length l.cells;
  few : l.met.count ≤ l.from;
  made : AreMade g.K.PartialEq.eq g.K.CellKey.cell_of l.met (take l.from l.cells);
}

abbrev pub decreases-runs : goal.decreases-runs
decreases-runs g l = length l.cells - l.from
