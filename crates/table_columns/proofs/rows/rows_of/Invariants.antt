use Rattle.std.proofs.Common.{◌-◌, ◌≡◌, ◌≤◌, take}
use Rattle.table_columns.specs.Rows.{rows_beside}
use Rattle.table_columns.proofs.rows.rows_of.Given as goal

-- the rows so far
abbrev pub invariant-rows : goal.invariant-rows
invariant-rows l = (l.rows ≡ take l.at (rows_beside l.count l.columns)) × (l.at ≤ l.count)

abbrev pub decreases-rows : goal.decreases-rows
decreases-rows l = l.count - l.at
