-- What is merged, and what is left of both in order, is the whole.
use Rattle.std.proofs.Common.{◌≡◌, ◌+◌, ◌-◌, ◌≤◌, ◌++◌, length, drop}
use Rattle.cell_core.specs.Sorted.{sorted_by}
use Rattle.cell_core.specs.Merged.{by_head}
use Rattle.bat_algebra.proofs.merge.merge_two.Given as goal

abbrev pub invariant-pairs : goal.invariant-pairs
invariant-pairs l = record {
  merged : l.out ++ sorted_by by_head (drop l.i l.a ++ drop l.j l.b) ≡ sorted_by by_head (l.a ++ l.b);
  first : l.i ≤ length l.a;
  second : l.j ≤ length l.b;
}

abbrev pub decreases-pairs : goal.decreases-pairs
decreases-pairs l = (length l.a + length l.b) - (l.i + l.j)
