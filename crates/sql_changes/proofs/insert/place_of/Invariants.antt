use Rattle.std.proofs.Common.{◌≡◌, ◌+◌, ◌-◌, ◌≤◌, length}
use Rattle.std.specs.Prelude.{bytes_eq}
use Rattle.std.specs.List.{position_or_len}
use Rattle.sql_changes.proofs.insert.place_of.Given as goal

-- the place among all is that in what is left, moved on by what comes before
abbrev pub invariant-names : goal.invariant-names
invariant-names l =
    record {
      behind : length l.rest ≤ length l.listed;
      place : (length l.listed - length l.rest) + position_or_len (bytes_eq l.name) l.rest ≡ position_or_len (bytes_eq l.name) l.listed;
    }

abbrev pub decreases-names : goal.decreases-names
decreases-names l = length l.rest
