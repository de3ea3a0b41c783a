use Rattle.std.proofs.Common.{◌≡◌, ◌++◌, take, Some}
use Rattle.std.specs.List.{zip}
use Rattle.cell_core.specs.Pairs.{Pairs}
use Rattle.chunk_core.specs.Parts.{part_cells}
use Rattle.bat_calc.specs.Functions.{applied}
use Rattle.bat_calc.proofs.general.add_one_by_one.Given as goal

-- the cells of the pairs so far are added
abbrev pub invariant-loop-i : goal.invariant-loop-i
invariant-loop-i l = (before : Pairs) → applied l.function before ≡ Some l.initial.cells → applied l.function (before ++ take l.i (zip (part_cells l.left) (part_cells l.right))) ≡ Some l.cells
