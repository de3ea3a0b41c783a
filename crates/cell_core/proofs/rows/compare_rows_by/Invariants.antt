use Rattle.std.proofs.Common.{◌≡◌, length}
use Rattle.cell_core.specs.Keys.{keyed_cmp}
use Rattle.cell_core.proofs.rows.compare_rows_by.Given as goal

-- what is left of the keys decides as all of them do
abbrev pub invariant-keys : goal.invariant-keys
invariant-keys l = keyed_cmp l.rest l.a l.b ≡ keyed_cmp l.keys l.a l.b

abbrev pub decreases-keys : goal.decreases-keys
decreases-keys l = length l.rest
