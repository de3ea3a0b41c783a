use Rattle.std.proofs.Common.{◌≡◌, length}
use Rattle.sql_definitions.specs.Check.{unknown_names}
use Rattle.sql_check.specs.First.{first}
use Rattle.sql_check.proofs.names.unknown_name.Given as goal

-- the rest decides as all do
abbrev pub invariant-names : goal.invariant-names
invariant-names l =
    first (unknown_names l.columns l.rest) ≡ first (unknown_names l.columns l.names)

abbrev pub decreases-names : goal.decreases-names
decreases-names l = length l.rest
