use Rattle.std.proofs.Common.{◌≡◌, ◌-◌, ◌≤◌, length, take, Some}
use Rattle.bat_calc.specs.Functions.{applied}
use Rattle.bat_calc.proofs.calculate.cells_of.Given as goal

-- the cells so far are those of the pairs so far
abbrev pub invariant-loop-from : goal.invariant-loop-from
invariant-loop-from l = record {
  within : l.from ≤ length l.rows;
  value : applied l.function (take l.from l.rows) ≡ Some l.cells;
}

abbrev pub decreases-loop-from : goal.decreases-loop-from
decreases-loop-from l = length l.rows - l.from
