-- Those so far.
use Rattle.std.proofs.Common.{◌≡◌, map, take}
use Rattle.pool_policy.specs.Writes.{Return}
use Rattle.update_propagate.specs.Views.{returns_in}
use Rattle.update_propagate.proofs.listing.old_ids.Given as goal

abbrev pub invariant-backs : goal.invariant-backs
invariant-backs l = l.ids.items ≡ map (λ (r : Return). r.old.id) (returns_in (take l.back-index l.backs))
