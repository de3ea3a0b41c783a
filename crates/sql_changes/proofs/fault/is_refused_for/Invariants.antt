use Rattle.std.proofs.Common.{◌≡◌, length}
use Rattle.sql_changes.specs.Faults.{is_refused_there}
use Rattle.sql_changes.proofs.fault.is_refused_for.Given as goal

-- the rest decides as all do
abbrev pub invariant-columns : goal.invariant-columns
invariant-columns l =
    is_refused_there l.name l.value l.rest ≡ is_refused_there l.name l.value l.columns

abbrev pub decreases-columns : goal.decreases-columns
decreases-columns l = length l.rest
