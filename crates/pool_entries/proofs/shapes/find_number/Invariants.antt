-- What is left has the number that the whole has.
use Rattle.std.proofs.Common.{◌≡◌, ◌+◌, ◌<◌, length}
use Rattle.pool_policy.specs.Admits.{number_from}
use Rattle.pool_entries.proofs.shapes.find_number.Given as goal

abbrev pub invariant-shapes : goal.invariant-shapes
invariant-shapes l = (number_from l.number l.shape l.rest ≡ number_from 1 l.shape l.shapes) × (l.number + length l.rest ≡ length l.shapes + 1) × (0 < l.number)

abbrev pub decreases-shapes : goal.decreases-shapes
decreases-shapes l = length l.rest
