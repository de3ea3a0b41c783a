use Rattle.std.proofs.Common.{◌≡◌, ◌++◌, length}
use Rattle.sql_definitions.specs.Sources.{from_tables}
use Rattle.sql_meaning.proofs.tables.from_tables.Given as goal

-- what is made so far, followed by what the rest makes, is what all make
abbrev pub invariant-froms : goal.invariant-froms
invariant-froms l = l.tables.items ++ from_tables l.rest l.db ≡ from_tables l.froms l.db

abbrev pub decreases-froms : goal.decreases-froms
decreases-froms l = length l.rest
