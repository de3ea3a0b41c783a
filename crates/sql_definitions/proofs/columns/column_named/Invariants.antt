use Rattle.std.proofs.Common.{◌≡◌, length}
use Rattle.sql_definitions.specs.Check.{column_named}
use Rattle.sql_definitions.proofs.columns.column_named.Given as goal

-- the rest decides as all do
abbrev pub invariant-columns : goal.invariant-columns
invariant-columns l =
    column_named l.rest l.name ≡ column_named l.columns l.name

abbrev pub decreases-columns : goal.decreases-columns
decreases-columns l = length l.rest
