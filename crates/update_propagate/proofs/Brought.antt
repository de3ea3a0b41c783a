-- What came back is what the policy brings back.
use Rattle.std.proofs.Common.{◌≡◌, ℕ, List, [], ap, ◌∙◌}
use Rattle.std.specs.Prelude.{fold}
use Rattle.pool_policy.specs.declared.entry.PoolEntry.{PoolEntry}
use Rattle.pool_policy.specs.declared.touched.Touched.{Touched}
use Rattle.pool_policy.specs.Pool.{PoolState}
use Rattle.pool_policy.specs.Writes.{backs_of, come_back, touched_ids}

pub brought : (write : Touched) (now next : ℕ) (ids : List ℕ) (entries : List PoolEntry) (pool : PoolState) → next ≡ pool.next → ids ≡ touched_ids write.table write.columns pool.entries → entries ≡ pool.entries
    → fold (come_back write now next ids entries) [] entries ≡ backs_of write now pool
brought write now next ids entries pool e f g =
    ap (λ (n : ℕ). fold (come_back write now n ids entries) [] entries) e
    ∙ ap (λ (i : List ℕ). fold (come_back write now pool.next i entries) [] entries) f
    ∙ ap (λ (es : List PoolEntry). fold (come_back write now pool.next (touched_ids write.table write.columns pool.entries) es) [] es) g
