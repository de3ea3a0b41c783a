-- The first of them are changed.
use Rattle.std.proofs.Common.{◌≡◌}
use Rattle.std.specs.Prelude.{if◌then◌else◌}
use Rattle.std.specs.Vec.{vec_capacity}
use Rattle.evict_admit.specs.Runs.{is_one_of}
use Rattle.pool_policy.specs.declared.entry.PoolEntry.{PoolEntry}
use Rattle.pool_policy.specs.Looks.{ids_used, used}
use Rattle.pool_entries.proofs.Changed.{so_far}
use Rattle.recycle_pool.specs.Answers.{told}
use Rattle.recycle_pool.proofs.uses.use_each.Given as goal

abbrev pub invariant-entries : goal.invariant-entries
invariant-entries l =
    (l.entries.items ≡ so_far (λ (e : PoolEntry). if is_one_of (ids_used (told l.found l.parts)) e.id then used l.who l.now e else e) l.i l.fn.entries.items) × (vec_capacity l.entries ≡ vec_capacity l.fn.entries)
