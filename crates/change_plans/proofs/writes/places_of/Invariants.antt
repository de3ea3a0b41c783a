use Rattle.std.proofs.Common.{◌≡◌, ◌++◌, map, length}
use Rattle.change_plans.specs.Decisions.{place_of}
use Rattle.change_plans.proofs.writes.places_of.Given as goal

-- what is made so far, followed by what the rest makes, is what all make
abbrev pub invariant-rows : goal.invariant-rows
invariant-rows l = l.places ++ map place_of l.rest ≡ map place_of l.rows

abbrev pub decreases-rows : goal.decreases-rows
decreases-rows l = length l.rest
