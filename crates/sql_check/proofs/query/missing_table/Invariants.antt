use Rattle.std.proofs.Common.{◌≡◌, length}
use Rattle.sql_definitions.specs.Check.{missing_tables}
use Rattle.sql_check.specs.First.{first}
use Rattle.sql_check.proofs.query.missing_table.Given as goal

-- the rest decides as all do
abbrev pub invariant-froms : goal.invariant-froms
invariant-froms l =
    first (missing_tables l.rest l.schema) ≡ first (missing_tables l.froms l.schema)

abbrev pub decreases-froms : goal.decreases-froms
decreases-froms l = length l.rest
