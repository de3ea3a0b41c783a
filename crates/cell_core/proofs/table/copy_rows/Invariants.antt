use Rattle.std.proofs.Common.{◌≡◌, take}
use Rattle.cell_core.proofs.table.copy_rows.Given as goal

-- what is copied so far
abbrev pub invariant-rows : goal.invariant-rows
invariant-rows l = l.copy.items ≡ take l.row-index l.rows
