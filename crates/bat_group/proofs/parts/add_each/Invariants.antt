use Rattle.std.proofs.Common.{◌≡◌, ◌++◌, List, take}
use Rattle.cell_core.specs.declared.cell.Cell.{Cell}
use Rattle.cell_calc.specs.Aggregates.{aggregate_of}
use Rattle.chunk_core.specs.Parts.{part_cells}
use Rattle.bat_group.proofs.parts.add_each.Given as goal

-- the cells of the part so far are taken in
abbrev pub invariant-loop-i : goal.invariant-loop-i
invariant-loop-i l = (before : List Cell) → l.initial.total ≡ aggregate_of l.aggregate before → l.total ≡ aggregate_of l.aggregate (before ++ take l.i (part_cells l.part))
