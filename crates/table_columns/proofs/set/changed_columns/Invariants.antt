use Rattle.std.proofs.Common.{◌≡◌, ◌++◌, length}
use Rattle.std.specs.List.{AllByRecursion}
use Rattle.table_columns.specs.Rows.{IsColumn}
use Rattle.table_columns.specs.Changed.{columns_set}
use Rattle.table_columns.proofs.set.changed_columns.Given as goal

-- what is made so far, followed by the result of the rest
abbrev pub invariant-columns : goal.invariant-columns
invariant-columns l = record {
  even : AllByRecursion (IsColumn (length l.hits)) l.rest;
  all : l.out.items ++ columns_set l.sets l.hits l.names l.rest ≡ columns_set l.sets l.hits l.columns l.stored;
}

abbrev pub decreases-columns : goal.decreases-columns
decreases-columns l = length l.names
