-- The answer for what is left is the answer for the whole.
use Rattle.std.proofs.Common.{◌≡◌, length}
use Rattle.pool_policy.specs.Writes.{return_of}
use Rattle.update_propagate.specs.Views.{returns_in}
use Rattle.update_propagate.proofs.back.find_back.Given as goal

abbrev pub invariant-backs : goal.invariant-backs
invariant-backs l = return_of (returns_in l.rest) l.id ≡ return_of (returns_in l.backs) l.id

abbrev pub decreases-backs : goal.decreases-backs
decreases-backs l = length l.rest
