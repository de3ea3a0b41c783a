-- The first of them are changed.
use Rattle.std.proofs.Common.{◌≡◌}
use Rattle.std.specs.Vec.{vec_capacity}
use Rattle.pool_policy.specs.Admits.{unpinned}
use Rattle.pool_entries.proofs.Changed.{so_far}
use Rattle.pool_entries.proofs.changes.unpin_all.Given as goal

abbrev pub invariant-entries : goal.invariant-entries
invariant-entries l = (l.entries.items ≡ so_far (unpinned l.session) l.i l.fn.entries.items) × (vec_capacity l.entries ≡ vec_capacity l.fn.entries)
