-- Helpers of the proof, which private contracts alone cite: what the calls on the parts of a pool require of it.
use Rattle.std.specs.Prelude.{◌≡◌, ℕ, ◌^◌, ◌≤◌, ◌<◌, List, All, length, map, nat_eq, None, false}
use Rattle.std.specs.List.{IsDistinct}
use Rattle.score_hook.specs.Scores.{IsInRange}
use Rattle.evict_admit.specs.declared.plan.Row.{Row}
use Rattle.least_cover.specs.Chosen.{Selection}
use Rattle.pool_policy.specs.declared.entry.PoolEntry.{PoolEntry}
use Rattle.pool_policy.specs.Looks.{selections_from}
use Rattle.pool_policy.specs.Pool.{PoolState}
use Rattle.pool_policy.specs.Keyed.{entry_of_key}
use Rattle.pool_policy.specs.Admits.{Offer, is_other_version, missing_parent, rows_of}
use Rattle.pool_policy.specs.Keeps.{Rises, faces}

-- entries among which a look may search: their ids rise, and few selections have few pairs
pub record IsLookable (entries : List PoolEntry) : Type 0 where
  pub next : ℕ
  pub rising : Rises 1 next (faces entries)
  pub few : (parent : ℕ) → length (selections_from parent entries) ≤ 1024
  pub pairs : (parent : ℕ) → All (λ (s : Selection). s.1.0 < 2 ^ 41) (selections_from parent entries)

-- entries of which a plan of evictions can be made
pub record IsWeighable (now : ℕ) (entries : List PoolEntry) : Type 0 where
  pub few : length entries ≤ 1024
  pub ids : (kept : List ℕ) → All (λ (r : Row). 0 < r.id) (rows_of kept entries)
  pub apart : (kept : List ℕ) → IsDistinct nat_eq (map (λ (r : Row). r.id) (rows_of kept entries))
  pub range : (kept : List ℕ) → All (λ (r : Row). IsInRange r.stats now) (rows_of kept entries)

-- an offer that isn't pooled and can be: its key is new, its version is the present one, and its parents are pooled
pub record IsNew (offer : Offer) (pool : PoolState) : Type 0 where
  pub key : None ≡ entry_of_key offer.key pool.entries
  pub fresh : is_other_version offer.key offer.present ≡ false
  pub parents : None ≡ missing_parent offer pool
