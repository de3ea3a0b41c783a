-- Those so far and what is left are all.
use Rattle.std.proofs.Common.{◌≡◌, ◌++◌, map}
use Rattle.pool_policy.specs.Writes.{Return}
use Rattle.update_propagate.specs.Views.{returns_in}
use Rattle.update_propagate.proofs.listing.new_entries.Given as goal

abbrev pub invariant-backs : goal.invariant-backs
invariant-backs l = l.entries.items ++ map (λ (r : Return). r.new) (returns_in l.back-iterator.rest.items) ≡ map (λ (r : Return). r.new) (returns_in l.fn.backs.items)
