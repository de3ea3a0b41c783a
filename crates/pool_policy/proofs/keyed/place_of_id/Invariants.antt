-- What is left has the first of all, and begins at the place.
use Rattle.std.proofs.Common.{◌≡◌, ◌≤◌, length, drop}
use Rattle.std.specs.List.{find}
use Rattle.pool_policy.specs.Keyed.{has_id}
use Rattle.pool_policy.proofs.keyed.place_of_id.Given as goal

abbrev pub invariant-entries : goal.invariant-entries
invariant-entries l = (find (has_id l.id) l.rest ≡ find (has_id l.id) l.entries) × (l.rest ≡ drop l.place l.entries) × (l.place ≤ length l.entries)

abbrev pub decreases-entries : goal.decreases-entries
decreases-entries l = length l.rest
