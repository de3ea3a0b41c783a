use Rattle.std.proofs.Common.{◌≡◌, take}
use Rattle.cell_core.specs.Relations.{column_cells}
use Rattle.table_columns.proofs.grow.cells_at.Given as goal

-- the cells so far
abbrev pub invariant-rows : goal.invariant-rows
invariant-rows l = l.cells ≡ column_cells l.place (take l.row-index l.rows)
