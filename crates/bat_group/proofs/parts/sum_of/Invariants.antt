use Rattle.std.proofs.Common.{◌≡◌, ◌++◌, ◌*◌, ◌^◌, List, take, map, pos, neg_ℤ, ◌≤ℤ◌, ◌+ℤ◌}
use Rattle.cell_core.specs.declared.cell.Cell.{Cell}
use Rattle.cell_core.specs.declared.cell.Cell.TheVariants.{Int}
use Rattle.cell_core.specs.Groups.{summed}
use Rattle.cell_calc.specs.Aggregates.{total_in}
use Rattle.bat_group.proofs.parts.sum_of.Given as goal

-- the sum of the numbers so far, and its bounds
abbrev pub invariant-loop-i : goal.invariant-loop-i
invariant-loop-i l = record {
  low : neg_ℤ (pos (l.i * 2 ^ 63)) ≤ℤ l.sum;
  high : l.sum ≤ℤ pos (l.i * 2 ^ 63);
  value : (before : List Cell) → total_in (summed (before ++ take l.i (map Int l.numbers))) ≡ total_in (summed before) +ℤ l.sum;
}
