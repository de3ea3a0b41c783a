use Rattle.std.proofs.Common.{◌≡◌, length}
use Rattle.evict_admit.specs.Runs.{is_one_of}
use Rattle.pool_policy.proofs.touching.is_among.Given as goal

abbrev pub invariant-ids : goal.invariant-ids
invariant-ids l = is_one_of l.rest l.id ≡ is_one_of l.ids l.id

abbrev pub decreases-ids : goal.decreases-ids
decreases-ids l = length l.rest
