use Rattle.std.proofs.Common.{◌≡◌, ◌++◌, take, map, Some}
use Rattle.std.specs.List.{zip}
use Rattle.cell_core.specs.declared.cell.Cell.TheVariants.{Int}
use Rattle.cell_core.specs.Pairs.{Pairs}
use Rattle.bat_calc.specs.Functions.{applied}
use Rattle.bat_calc.proofs.numbers.add_by_number.Given as goal

-- the cells of the numbers so far are added
abbrev pub invariant-loop-i : goal.invariant-loop-i
invariant-loop-i g l = (before : Pairs) → applied g.F.OfNumbers.named before ≡ Some l.initial.cells → applied g.F.OfNumbers.named (before ++ take l.i (zip (map Int l.left) (map Int l.right))) ≡ Some l.cells
