use Rattle.std.proofs.Common.{◌≡◌, ◌+◌, ◌++◌, length}
use Rattle.table_columns.specs.Changed.{grown_columns}
use Rattle.table_columns.proofs.grow.followed_columns.Given as goal

-- what is made so far, followed by the result of the rest
abbrev pub invariant-columns : goal.invariant-columns
invariant-columns l = record {
  place : l.place + length l.rest ≡ length l.columns;
  all : l.out.items ++ grown_columns l.place l.rest l.rows ≡ grown_columns 0 l.columns l.rows;
}

abbrev pub decreases-columns : goal.decreases-columns
decreases-columns l = length l.rest
