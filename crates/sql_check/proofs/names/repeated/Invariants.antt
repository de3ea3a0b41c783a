use Rattle.std.proofs.Common.{◌≡◌, ℕ, List, ◌+◌, map, filter, take, length}
use Rattle.std.specs.Prelude.{bytes_eq, slice_get}
use Rattle.std.specs.List.{enumerate_from, list_any}
use Rattle.sql_definitions.specs.Check.{repeated}
use Rattle.sql_check.proofs.names.repeated.Given as goal

-- the rest decides as all do
abbrev pub invariant-names : goal.invariant-names
invariant-names l =
    record {
      first : slice_get (map (λ (at : ℕ × List ℕ). at.1) (filter (λ (at : ℕ × List ℕ). list_any (bytes_eq at.1) (take at.0 l.names)) (enumerate_from l.place l.rest))) 0 ≡ slice_get (repeated l.names) 0;
      count : l.place + length l.rest ≡ length l.names;
    }

abbrev pub decreases-names : goal.decreases-names
decreases-names l = length l.rest
