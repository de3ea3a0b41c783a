use Rattle.std.proofs.Common.{◌≡◌, ◌++◌, length}
use Rattle.sql_definitions.specs.Sources.{from_sources}
use Rattle.sql_check.proofs.query.from_sources.Given as goal

-- what is made so far, followed by what the rest makes, is what all make
abbrev pub invariant-froms : goal.invariant-froms
invariant-froms l =
    l.sources.items ++ from_sources l.rest l.schema ≡ from_sources l.froms l.schema

abbrev pub decreases-froms : goal.decreases-froms
decreases-froms l = length l.rest
