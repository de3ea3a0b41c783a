use Rattle.std.proofs.Common.{◌≡◌, ◌<◌, ◌++◌, length}
use Rattle.std.specs.List.{AllByRecursion}
use Rattle.cell_core.specs.Pairs.{Pairs}
use Rattle.table_columns.specs.Rows.{row_cells}
use Rattle.table_columns.proofs.rows.row_at.Given as goal

-- the cells so far, and those of the columns that are left
abbrev pub invariant-columns : goal.invariant-columns
invariant-columns l =
    (l.cells.items ++ row_cells l.fn.at l.rest ≡ row_cells l.fn.at l.fn.columns)
    × AllByRecursion (λ (column : Pairs). l.fn.at < length column) l.rest

abbrev pub decreases-columns : goal.decreases-columns
decreases-columns l = length l.rest
