use Rattle.std.proofs.Common.{◌≡◌, ◌++◌, List, [], ◌∷◌, take, map}
use Rattle.cell_core.specs.declared.cell.Cell.{Cell}
use Rattle.cell_core.specs.declared.cell.Cell.TheVariants.{Int}
use Rattle.cell_core.specs.Groups.{greatest}
use Rattle.bat_group.proofs.parts.greatest_of.Given as goal

-- the best so far is that of the numbers so far
abbrev pub invariant-loop-i : goal.invariant-loop-i
invariant-loop-i l = (before : List Cell) → greatest (before ++ Int l.best ∷ []) ≡ greatest (before ++ take l.i (map Int l.numbers))
