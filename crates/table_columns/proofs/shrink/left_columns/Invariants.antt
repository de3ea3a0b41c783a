use Rattle.std.proofs.Common.{◌≡◌, ◌++◌, length}
use Rattle.std.specs.List.{AllByRecursion}
use Rattle.table_columns.specs.Rows.{IsColumn}
use Rattle.table_columns.specs.Changed.{columns_left}
use Rattle.table_columns.proofs.shrink.left_columns.Given as goal

-- what is made so far, followed by the result of the rest
abbrev pub invariant-columns : goal.invariant-columns
invariant-columns l = record {
  even : AllByRecursion (IsColumn (length l.gone)) l.rest;
  all : l.out.items ++ columns_left l.gone l.rest ≡ columns_left l.gone l.columns;
}

abbrev pub decreases-columns : goal.decreases-columns
decreases-columns l = length l.rest
