use Rattle.std.proofs.Common.{◌≤◌, take}
use Rattle.std.specs.List.{zip}
use Rattle.cell_core.specs.Groups.{same_pair}
use Rattle.bat_group.specs.Keys.{AreKeys}
use Rattle.bat_group.proofs.grouping.number_each_pair.Given as goal

-- the pairs so far have their numbers
abbrev pub invariant-loop-i : goal.invariant-loop-i
invariant-loop-i l = record {
  few : l.met.count ≤ l.i;
  numbered : AreKeys same_pair l.met (take l.i (zip l.left l.right));
}
