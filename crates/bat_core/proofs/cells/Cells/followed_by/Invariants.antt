use Rattle.std.proofs.Common.{◌≡◌, ◌-◌, ◌≤◌, ◌++◌, length, take}
use Rattle.bat_core.proofs.cells.Cells.followed_by.Given as goal

abbrev pub invariant-loop-from : goal.invariant-loop-from
invariant-loop-from l = record {
  within : l.from ≤ length l.more;
  value : l.out ≡ l.self ++ take l.from l.more;
}

abbrev pub decreases-loop-from : goal.decreases-loop-from
decreases-loop-from l = length l.more - l.from
