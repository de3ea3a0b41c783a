-- The answer of the rest is that of the whole.
use Rattle.std.proofs.Common.{◌≡◌, length}
use Rattle.pool_policy.specs.Keeps.{faces, value_in}
use Rattle.leaf_tests.proofs.writes.value_of.Given as goal

abbrev pub invariant-entries : goal.invariant-entries
invariant-entries l = value_in (faces l.rest) l.id ≡ value_in (faces l.entries) l.id

abbrev pub decreases-entries : goal.decreases-entries
decreases-entries l = length l.rest
