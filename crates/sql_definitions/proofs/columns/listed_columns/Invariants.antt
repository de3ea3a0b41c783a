use Rattle.std.proofs.Common.{◌≡◌, ◌++◌, length}
use Rattle.std.specs.Prelude.{filter_map}
use Rattle.sql_definitions.specs.Check.{column_named}
use Rattle.sql_definitions.proofs.columns.listed_columns.Given as goal

-- the columns made so far, followed by those of the rest, are all columns
abbrev pub invariant-names : goal.invariant-names
invariant-names l =
    l.found ++ filter_map (column_named l.columns) l.rest ≡ filter_map (column_named l.columns) l.listed

abbrev pub decreases-names : goal.decreases-names
decreases-names l = length l.rest
