use Rattle.std.proofs.Common.{◌≡◌, ◌+◌, ◌-◌, ◌≤◌, length}
use Rattle.std.specs.Option.{option_map}
use Rattle.table_store.specs.Kept.{heading_place}
use Rattle.table_store.proofs.tables.find_place.Given as goal

-- the place is that in the headings left, plus the number of headings passed
abbrev pub invariant-tables : goal.invariant-tables
invariant-tables l = record {
  behind : length l.rest ≤ length l.headings;
  place : option_map (λ j. (length l.headings - length l.rest) + j) (heading_place l.name l.rest) ≡ heading_place l.name l.headings;
}

abbrev pub decreases-tables : goal.decreases-tables
decreases-tables l = length l.rest
