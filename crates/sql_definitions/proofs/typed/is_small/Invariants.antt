use Rattle.std.proofs.Common.{◌≡◌, length}
use Rattle.std.specs.List.{list_all}
use Rattle.sql_definitions.specs.Small.{is_small}
use Rattle.sql_definitions.proofs.typed.is_small.Given as goal

-- the rest decides as all do
abbrev pub invariant-sources : goal.invariant-sources
invariant-sources l = list_all is_small l.rest ≡ list_all is_small l.sources

abbrev pub decreases-sources : goal.decreases-sources
decreases-sources l = length l.rest
