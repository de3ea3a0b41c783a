-- What is required of the entries of a pool before they are found by their ids, used, or pay back.
use Rattle.std.specs.Prelude.{ℕ, ◌+◌, ◌^◌, ◌≤◌, ◌<◌, List, length, count_by}
use Rattle.std.specs.List.{AllByRecursion}
use Rattle.evict_admit.specs.Credits.{Credits}
use Rattle.pool_policy.specs.declared.entry.PoolEntry.{PoolEntry}
use Rattle.pool_policy.specs.Admits.{credit_of}
use Rattle.pool_policy.specs.Keeps.{Rises, faces, is_unpaid}

-- ids that rise
abbrev pub HaveRisingIds : List PoolEntry → Type 0
HaveRisingIds entries = (next : ℕ) × Rises 1 next (faces entries)

-- credits that these entries may pay back
pub record IsOwed (credits : Credits) (entries : List PoolEntry) : Type 0 where
  pub each : (shape : ℕ) → 0 < shape → shape ≤ length credits.each → credit_of shape credits.each + count_by (is_unpaid shape) entries ≤ credits.start
  pub numbered : AllByRecursion (λ (e : PoolEntry). (e.shape ≤ length credits.each) × (0 < length credits.each → 0 < e.shape)) entries

-- an entry that may be used
abbrev pub CanUse : PoolEntry → Type 0
CanUse e = (e.stats.reuses < 2 ^ 32) × (e.stats.others < 2 ^ 32)
