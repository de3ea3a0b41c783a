-- Sound pools, and logs along which the pool is sound.
use Rattle.std.specs.Prelude.{◌≡◌, ℕ, ◌≤◌, List, take, length, true, Some, Contains}
use Rattle.lineage_key.specs.Parents.{is_bind, parents_of, table_of, column_of}
use Rattle.pool_policy.specs.declared.entry.PoolEntry.{PoolEntry}
use Rattle.pool_policy.specs.declared.options.PoolOptions.{PoolOptions}
use Rattle.pool_policy.specs.Admits.{stated_bytes}
use Rattle.pool_policy.specs.Keyed.{is_pooled}
use Rattle.pool_policy.specs.Pool.{pool_bytes}
use Rattle.run_log.specs.Events.{EventTree}
use Rattle.run_log.specs.Fold.{run_of}
use Rattle.pool_sound.specs.Lineage.{lineage_value}

-- what is pooled after a log
abbrev pub pooled_after : PoolOptions → List EventTree → List PoolEntry
pooled_after options log = (run_of options log).pool.entries

-- the pool after a log keeps its bytes within the budget, where each entry counts the stated bytes of its value, and its entries within their places; each parent of what is pooled is pooled, so whole lineages are; each pooled bind has the present version of its column; and each pooled value is what its lineage evaluates to
pub record IsSoundAfter (options : PoolOptions) (log : List EventTree) : Type 0 where
  pub bytes : pool_bytes (pooled_after options log) ≤ options.budget
  pub stated : (e : PoolEntry) → Contains (pooled_after options log) e → e.bytes ≡ stated_bytes e.key e.value
  pub places : length (pooled_after options log) ≤ options.places
  pub parents : (e : PoolEntry) → Contains (pooled_after options log) e → (id : ℕ) → Contains (parents_of e.key) id → is_pooled (pooled_after options log) id ≡ true
  pub present : (e : PoolEntry) → Contains (pooled_after options log) e → is_bind e.key ≡ true → e.key.version ≡ (run_of options log).versions (table_of e.key) (column_of e.key)
  pub values : (e : PoolEntry) → Contains (pooled_after options log) e → lineage_value options log e.id ≡ Some e.value

-- the pool is sound before the first event and after each one
abbrev pub IsSoundAlong : PoolOptions → List EventTree → Type 0
IsSoundAlong options log = (n : ℕ) → IsSoundAfter options (take n log)
