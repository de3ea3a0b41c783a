use Rattle.std.proofs.Common.{◌≤◌, ◌-◌, List, length, take}
use Rattle.cell_core.specs.declared.cell.Cell.{Cell}
use Rattle.bat_group.specs.Totals.{AreTotals}
use Rattle.bat_group.proofs.group_totals.GroupTotals.meet_from.Given as goal

-- the groups so far are met
abbrev pub invariant-runs : goal.invariant-runs
invariant-runs l = record {
  after : l.from ≤ l.at;
  within : l.at ≤ length l.groups;
  few : l.self.count ≤ l.at;
  met : (so_far : List Cell) → length so_far ≤ l.from → AreTotals l.aggregate l.initial.self so_far (take l.from l.groups) → AreTotals l.aggregate l.self so_far (take l.at l.groups);
}

abbrev pub decreases-runs : goal.decreases-runs
decreases-runs l = length l.groups - l.at
