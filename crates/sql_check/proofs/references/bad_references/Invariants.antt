use Rattle.std.proofs.Common.{◌≡◌, length}
use Rattle.sql_definitions.specs.Check.{bad_references}
use Rattle.sql_check.specs.First.{first}
use Rattle.sql_check.proofs.references.bad_references.Given as goal

-- the rest decides as all do
abbrev pub invariant-columns : goal.invariant-columns
invariant-columns l =
    first (bad_references l.sources l.rest) ≡ first (bad_references l.sources l.refs)

abbrev pub decreases-columns : goal.decreases-columns
decreases-columns l = length l.rest
