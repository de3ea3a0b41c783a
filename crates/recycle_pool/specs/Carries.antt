-- What comes back in a write.
use Rattle.std.specs.Prelude.{◌≡◌, ℕ, map}
use Rattle.pool_policy.specs.declared.touched.Touched.{Touched}
use Rattle.pool_policy.specs.Pool.{PoolState}
use Rattle.pool_policy.specs.Writes.{Return, backs_of, write_of}
use Rattle.recycle_pool.specs.declared.carried.Carried.{Carried}

-- what was carried is what comes back in a write: the ids as they were, the entries as they are then, and the work
pub record IsCarried (write : Touched) (now : ℕ) (pool : PoolState) (carried : Carried) : Type 0 where
  pub ids : carried.ids.items ≡ map (λ (r : Return). r.old.id) (backs_of write now pool)
  pub entries : carried.entries.items ≡ map (λ (r : Return). r.new) (backs_of write now pool)
  pub work : carried.work ≡ (write_of write now pool).work
