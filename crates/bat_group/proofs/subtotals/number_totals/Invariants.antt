use Rattle.std.proofs.Common.{◌≡◌, take}
use Rattle.cell_core.specs.Pairs.{numbered}
use Rattle.bat_group.proofs.subtotals.number_totals.Given as goal

abbrev pub invariant-loop-i : goal.invariant-loop-i
invariant-loop-i l = l.out ≡ numbered (take l.i l.totals)
