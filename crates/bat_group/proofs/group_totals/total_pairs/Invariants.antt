use Rattle.std.proofs.Common.{◌≤◌, ◌-◌, take}
use Rattle.bat_group.specs.Totals.{AreTotals}
use Rattle.bat_group.proofs.group_totals.total_pairs.Given as goal

-- the groups so far are met, with the cells beside them
abbrev pub invariant-runs : goal.invariant-runs
invariant-runs l = record {
  within : l.from ≤ l.both;
  few : l.met.count ≤ l.from;
  met : AreTotals l.aggregate l.met (take l.from l.cells) (take l.from l.groups);
}

abbrev pub decreases-runs : goal.decreases-runs
decreases-runs l = l.both - l.from
