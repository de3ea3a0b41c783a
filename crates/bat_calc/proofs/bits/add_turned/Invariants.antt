use Rattle.std.proofs.Common.{◌≡◌, ◌++◌, take, map, Some}
use Rattle.std.specs.List.{zip}
use Rattle.cell_core.specs.declared.cell.Cell.TheVariants.{Bit}
use Rattle.cell_core.specs.Pairs.{Pairs}
use Rattle.chunk_core.specs.Parts.{part_cells}
use Rattle.bat_calc.specs.declared.function.Function.TheVariants as function
use Rattle.bat_calc.specs.Functions.{applied}
use Rattle.bat_calc.proofs.bits.add_turned.Given as goal

-- the opposites of the bits so far are added
abbrev pub invariant-loop-i : goal.invariant-loop-i
invariant-loop-i l = (before : Pairs) → applied function.Not before ≡ Some l.initial.cells → applied function.Not (before ++ take l.i (zip (map Bit l.bits) (part_cells l.right))) ≡ Some l.cells
