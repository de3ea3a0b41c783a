use Rattle.std.proofs.Common.{◌≡◌, ◌++◌, map, length}
use Rattle.sql_definitions.specs.Sources.{from_name, called_sources}
use Rattle.rows_to_mal.proofs.compile.called_in_from.Given as goal

abbrev pub decreases-froms : goal.decreases-froms
decreases-froms l = length l.names

abbrev pub invariant-froms : goal.invariant-froms
invariant-froms l = l.called.items ++ called_sources (map from_name l.names) l.rest ≡ called_sources (map from_name l.froms) l.sources
