use Rattle.std.proofs.Common.{◌≡◌, ◌++◌, map, length}
use Rattle.sql_definitions.specs.Values.{column_cell}
use Rattle.sql_meaning.proofs.groups.group_key.Given as goal

-- what is made so far, followed by what the rest makes, is what all make
abbrev pub invariant-columns : goal.invariant-columns
invariant-columns l =
    l.key ++ map (column_cell l.sources l.choice) l.rest ≡ map (column_cell l.sources l.choice) l.refs

abbrev pub decreases-columns : goal.decreases-columns
decreases-columns l = length l.rest
