use Rattle.std.proofs.Common.{◌≡◌, ◌+◌, ◌++◌, length}
use Rattle.table_store.specs.Touches.{columns_beside}
use Rattle.table_store.proofs.changed.name_columns.Given as goal

-- what is made so far, followed by the result of the rest
abbrev pub invariant-columns : goal.invariant-columns
invariant-columns l = record {
  place : l.place + length l.rest ≡ length l.columns;
  all : l.named.items ++ columns_beside l.place l.rest l.kept.rows ≡ columns_beside 0 l.columns l.kept.rows;
}

abbrev pub decreases-columns : goal.decreases-columns
decreases-columns l = length l.rest
