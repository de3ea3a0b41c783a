-- That a pool meets what the calls below require.
use Rattle.std.specs.Prelude.{ℕ, ◌^◌, ◌<◌, ◌≤◌, List, All, length, map, nat_eq}
use Rattle.std.specs.List.{IsDistinct}
use Rattle.score_hook.specs.Scores.{IsInRange}
use Rattle.least_cover.specs.Chosen.{Selection}
use Rattle.evict_admit.specs.declared.plan.Row.{Row}
use Rattle.pool_policy.specs.Pool.{PoolState}
use Rattle.pool_policy.specs.Looks.{selections_from}
use Rattle.pool_policy.specs.Admits.{rows_of}
use Rattle.pool_policy.specs.Keeps.{IsPool}

-- at most 1,024 selections of one parent, each of fewer than 2^41 pairs; and at most 1,024 rows whose ids are above 0 and differ, with stats in range
pub record IsFit (pool : PoolState) (now : ℕ) : Type 0 where
  pub few : (parent : ℕ) → length (selections_from parent pool.entries) ≤ 1024
  pub pairs : (parent : ℕ) → All (λ (s : Selection). s.1.0 < 2 ^ 41) (selections_from parent pool.entries)
  pub rows : (kept : List ℕ) → length (rows_of kept pool.entries) ≤ 1024
  pub ids : (kept : List ℕ) → All (λ (r : Row). 0 < r.id) (rows_of kept pool.entries)
  pub apart : (kept : List ℕ) → IsDistinct nat_eq (map (λ (r : Row). r.id) (rows_of kept pool.entries))
  pub range : (kept : List ℕ) → All (λ (r : Row). IsInRange r.stats now) (rows_of kept pool.entries)

abbrev pub PoolsFit : Type 0
PoolsFit = (pool : PoolState) (now : ℕ) → IsPool pool → pool.options.places ≤ 1024 → pool.options.budget ≤ 2 ^ 40 → pool.moment < 2 ^ 30 → now < 2 ^ 30 → IsFit pool now
