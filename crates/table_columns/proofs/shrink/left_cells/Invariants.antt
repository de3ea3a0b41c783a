use Rattle.std.proofs.Common.{◌≡◌, ◌+◌, ◌++◌, drop, length}
use Rattle.table_columns.specs.Changed.{unflagged}
use Rattle.table_columns.proofs.shrink.left_cells.Given as goal

-- what is left so far, and what the rest leaves
abbrev pub invariant-rows : goal.invariant-rows
invariant-rows l = record {
  place : l.at + length l.rest ≡ length l.cells;
  all : l.out ++ unflagged l.rest (drop l.at l.cells) ≡ unflagged l.gone l.cells;
}

abbrev pub decreases-rows : goal.decreases-rows
decreases-rows l = length l.rest
