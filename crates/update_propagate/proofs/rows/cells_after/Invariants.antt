-- What was added so far.
use Rattle.std.proofs.Common.{◌≡◌, ◌-◌, ◌<◌, ◌≤◌, drop, length, take}
use Rattle.update_propagate.proofs.rows.cells_after.Given as goal

abbrev pub invariant-loop-from : goal.invariant-loop-from
invariant-loop-from l = record {
  within : l.from ≤ length l.cells;
  passed : l.from < length l.cells → l.count ≤ l.from;
  value : l.out ≡ drop l.count (take l.from l.cells);
}

abbrev pub decreases-loop-from : goal.decreases-loop-from
decreases-loop-from l = length l.cells - l.from
