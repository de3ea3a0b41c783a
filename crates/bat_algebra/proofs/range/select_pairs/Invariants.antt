use Rattle.std.proofs.Common.{◌≡◌, ◌-◌, ◌≤◌, length, take}
use Rattle.cell_core.specs.Pairs.{heads_of, tails_of}
use Rattle.cell_core.specs.Relations.{selected}
use Rattle.bat_algebra.proofs.range.select_pairs.Given as goal

abbrev pub invariant-runs : goal.invariant-runs
invariant-runs l = record {
  within : l.from ≤ length l.b;
  heads : l.heads ≡ heads_of (selected l.low l.high l.li l.hi (take l.from l.b));
  tails : l.tails ≡ tails_of (selected l.low l.high l.li l.hi (take l.from l.b));
}

abbrev pub decreases-runs : goal.decreases-runs
decreases-runs l = length l.b - l.from
