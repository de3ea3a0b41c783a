use Rattle.std.proofs.Common.{◌≡◌, ◌++◌, take, map, Some}
use Rattle.std.specs.List.{zip}
use Rattle.cell_core.specs.declared.cell.Cell.TheVariants.{Bit}
use Rattle.cell_core.specs.Pairs.{Pairs}
use Rattle.bat_calc.specs.Functions.{applied}
use Rattle.bat_calc.proofs.bits.add_by_bit.Given as goal

-- the bits of the bits so far are added
abbrev pub invariant-loop-i : goal.invariant-loop-i
invariant-loop-i g l = (before : Pairs) → applied g.F.OfBits.named before ≡ Some l.initial.cells → applied g.F.OfBits.named (before ++ take l.i (zip (map Bit l.left) (map Bit l.right))) ≡ Some l.cells
