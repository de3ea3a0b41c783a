use Rattle.std.proofs.Common.{◌≡◌, length}
use Rattle.std.specs.List.{list_any}
use Rattle.sql_changes.specs.Plans.{is_named}
use Rattle.sql_changes.proofs.carry.has_name.Given as goal

-- the rest decides as all do
abbrev pub invariant-tables : goal.invariant-tables
invariant-tables l =
    list_any (is_named l.name) l.rest ≡ list_any (is_named l.name) l.tables

abbrev pub decreases-tables : goal.decreases-tables
decreases-tables l = length l.rest
