use Rattle.std.proofs.Common.{◌≡◌, take}
use Rattle.table_columns.specs.Rows.{stamped}
use Rattle.table_columns.proofs.stamp.stamp_versions.Given as goal

-- the first columns are stamped
abbrev pub invariant-loop-i : goal.invariant-loop-i
invariant-loop-i l = l.versions ≡ stamped l.names l.version (take l.i l.columns) l.initial.versions
