use Rattle.std.proofs.Common.{◌≡◌, ◌≤◌, ◌-◌, length, take}
use Rattle.cell_calc.specs.Aggregates.{aggregate_of}
use Rattle.bat_group.proofs.totals.aggregate_cells.Given as goal

-- the aggregate of the cells so far
abbrev pub invariant-runs : goal.invariant-runs
invariant-runs l = record {
  within : l.from ≤ length l.cells;
  value : l.so_far ≡ aggregate_of l.aggregate (take l.from l.cells);
}

abbrev pub decreases-runs : goal.decreases-runs
decreases-runs l = length l.cells - l.from
