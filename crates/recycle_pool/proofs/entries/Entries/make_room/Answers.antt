use Rattle.std.proofs.Common.{◌∙◌, List, ap}
use Rattle.std.specs.Prelude.{ℕ}
use Rattle.lineage_key.specs.Parents.{parents_of}
use Rattle.evict_admit.specs.Runs.{given_up}
use Rattle.pool_policy.specs.Pool.{pool_bytes, score_at}
use Rattle.pool_policy.specs.Admits.{left_without, rows_of}
use Rattle.recycle_pool.proofs.entries.Entries.make_room.Goals as goal

pub returns-clause-plan : goal.returns-clause-plan
returns-clause-plan g c =
    c.plan_room-enough.ensures.plan
    ∙ (λ i. given_up (score_at c.args.options.now c.args.now) (rows_of (parents_of c.args.key.now) c.args.self.now.all.items) (c.wanted-want.ensures.bytes i) (c.wanted-want.ensures.places i))

pub returns-clause-left : goal.returns-clause-left
returns-clause-left g c = c.left_bytes-left.ensures ∙ (λ i. pool_bytes (left_without (c.as_slice-2.ensures.value i) (c.as_slice.ensures.value i)))
