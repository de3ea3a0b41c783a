use Rattle.std.proofs.Common.{◌≡◌, ◌+◌, ◌-◌, ◌≤◌, length}
use Rattle.std.specs.Option.{option_map}
use Rattle.sql_changes.specs.Plans.{place_once}
use Rattle.sql_changes.proofs.carry.find_once.Given as goal

-- the place among all is that in what is left, moved on by what comes before
abbrev pub invariant-tables : goal.invariant-tables
invariant-tables l =
    record {
      behind : length l.rest ≤ length l.tables;
      place : option_map (λ j. (length l.tables - length l.rest) + j) (place_once l.name l.rest) ≡ place_once l.name l.tables;
    }

abbrev pub decreases-tables : goal.decreases-tables
decreases-tables l = length l.rest
