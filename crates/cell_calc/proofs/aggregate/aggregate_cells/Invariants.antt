use Rattle.std.proofs.Common.{◌≡◌, take}
use Rattle.cell_calc.specs.Aggregates.{aggregate_of}
use Rattle.cell_calc.proofs.aggregate.aggregate_cells.Given as goal

-- the aggregate of the cells so far
abbrev pub invariant-loop-cell : goal.invariant-loop-cell
invariant-loop-cell l = l.so_far ≡ aggregate_of l.aggregate (take l.cell-index l.cells)
