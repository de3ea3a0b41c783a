use Rattle.std.proofs.Common.{◌≡◌, ◌++◌, take, Some}
use Rattle.std.specs.List.{zip}
use Rattle.cell_core.specs.Pairs.{Pairs}
use Rattle.bat_calc.specs.Functions.{applied}
use Rattle.bat_calc.proofs.numbers.add_by_cell.Given as goal

-- the cells of the pairs so far are added
abbrev pub invariant-loop-i : goal.invariant-loop-i
invariant-loop-i g l = (before : Pairs) → applied g.F.OfNumbers.named before ≡ Some l.initial.cells → applied g.F.OfNumbers.named (before ++ take l.i (zip l.left l.right)) ≡ Some l.cells
