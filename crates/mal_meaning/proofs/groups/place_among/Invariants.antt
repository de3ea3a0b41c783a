use Rattle.std.proofs.Common.{◌≡◌, ◌+◌, ◌-◌, ◌≤◌, length}
use Rattle.mal_meaning.specs.Slow.{number_among}
use Rattle.mal_meaning.proofs.groups.place_among.Given as goal

-- the place in the rest, plus the number of those before it, is the place among all
abbrev pub invariant-names : goal.invariant-names
invariant-names l =
    record {
      place : (length l.names - length l.rest) + number_among l.by l.rest l.pair ≡ number_among l.by l.names l.pair;
      shorter : length l.rest ≤ length l.names;
    }

abbrev pub decreases-names : goal.decreases-names
decreases-names l = length l.rest
