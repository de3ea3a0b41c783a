-- The four aggregates.
use Rattle.std.specs.Prelude.{List, ℤ, pos}
use Rattle.cell_core.specs.declared.cell.Cell.{Cell}
use Rattle.cell_core.specs.declared.cell.Cell.TheVariants.{Huge}
use Rattle.cell_core.specs.Groups.{counted, summed, least, greatest}
use Rattle.cell_calc.specs.declared.aggregate.Aggregate.{Aggregate}
use Rattle.cell_calc.specs.declared.aggregate.Aggregate.TheVariants.{Count, Sum, Min, Max}

-- the aggregate of cells
abbrev pub aggregate_of : Aggregate → List Cell → Cell
aggregate_of Count = counted
aggregate_of Sum = summed
aggregate_of Min = least
aggregate_of Max = greatest

-- the sum that a cell holds, of which Nil is 0
abbrev pub total_in : Cell → ℤ
total_in (Huge n) = n
total_in _ = pos 0
