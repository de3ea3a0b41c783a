use Rattle.std.proofs.Common.{◌≡◌, ◌++◌, map, length}
use Rattle.sql_definitions.specs.Sources.{source_of}
use Rattle.sql_meaning.proofs.tables.called_all.Given as goal

-- what is made so far, followed by what the rest makes, is what all make
abbrev pub invariant-tables : goal.invariant-tables
invariant-tables l = l.sources.items ++ map source_of l.rest ≡ map source_of l.tables

abbrev pub decreases-tables : goal.decreases-tables
decreases-tables l = length l.rest
