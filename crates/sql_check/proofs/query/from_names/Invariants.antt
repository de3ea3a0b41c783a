use Rattle.std.proofs.Common.{◌≡◌, ◌++◌, map, length}
use Rattle.sql_definitions.specs.Sources.{from_name}
use Rattle.sql_check.proofs.query.from_names.Given as goal

-- what is made so far, followed by what the rest makes, is what all make
abbrev pub invariant-froms : goal.invariant-froms
invariant-froms l =
    l.names ++ map from_name l.rest ≡ map from_name l.froms

abbrev pub decreases-froms : goal.decreases-froms
decreases-froms l = length l.rest
