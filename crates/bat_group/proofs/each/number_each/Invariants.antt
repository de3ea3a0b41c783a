use Rattle.std.proofs.Common.{◌≤◌, ◌-◌, length, take}
use Rattle.cell_core.specs.Same.{same_cell}
use Rattle.bat_group.specs.Keys.{AreKeys}
use Rattle.bat_group.proofs.each.number_each.Given as goal

-- the cells so far have their numbers
abbrev pub invariant-runs : goal.invariant-runs
invariant-runs l = record {
  within : l.from ≤ length l.cells;
  few : l.met.count ≤ l.from;
  numbered : AreKeys same_cell l.met (take l.from l.cells);
}

abbrev pub decreases-runs : goal.decreases-runs
decreases-runs l = length l.cells - l.from
