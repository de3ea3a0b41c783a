use Rattle.std.proofs.Common.{◌≡◌, ◌+◌, ◌≤◌, ◌++◌, drop, length, Some}
use Rattle.table_columns.specs.Changed.{set_cells}
use Rattle.table_columns.proofs.set.changed_cells.Given as goal

-- what is made so far, followed by the result of the rest
abbrev pub invariant-rows : goal.invariant-rows
invariant-rows l = record {
  place : l.place + length l.rest ≡ length l.cells;
  few : l.at ≤ l.place;
  all : l.out ++ set_cells (Some l.set) l.at l.rest (drop l.place l.cells) ≡ set_cells (Some l.set) 0 l.hits l.cells;
}

abbrev pub decreases-rows : goal.decreases-rows
decreases-rows l = length l.rest
