use Rattle.std.proofs.Common.{◌≤◌, ◌-◌, length, take}
use Rattle.bat_group.specs.Heads.{AreHeads}
use Rattle.bat_group.proofs.heads.all_heads.Given as goal

-- the groups so far are met
abbrev pub invariant-runs : goal.invariant-runs
invariant-runs l = record {
  within : l.from ≤ length l.g;
  few : l.met.count ≤ l.from;
  met : AreHeads l.met (take l.from l.g);
}

abbrev pub decreases-runs : goal.decreases-runs
decreases-runs l = length l.g - l.from
