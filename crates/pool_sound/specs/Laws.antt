-- What holds of each lawful log.
use Rattle.std.specs.Prelude.{◌≡◌, ℕ, ◌≤◌, List, ◌++◌, length, true, Contains, IsSome}
use Rattle.mal_meaning.specs.Meaning.{column_pairs}
use Rattle.lineage_key.specs.Parents.{is_bind, table_of, column_of}
use Rattle.pool_policy.specs.declared.options.PoolOptions.{PoolOptions}
use Rattle.pool_policy.specs.Keeps.{Face}
use Rattle.pool_policy.specs.Worths.{worth}
use Rattle.run_log.specs.Events.{EventTree}
use Rattle.run_log.specs.Fold.{run_of}
use Rattle.book_core.specs.Lawful.{IsLawful}
use Rattle.pool_sound.specs.Lineage.{lineage_value, tables_after}
use Rattle.pool_sound.specs.Sound.{IsSoundAlong}

-- a bind was given out with its column in the tables after the event at its version, which is a position in the log
pub record IsColumnOf (log : List EventTree) (f : Face) : Type 0 where
  pub within : f.key.version ≤ length log
  pub column : f.value ≡ column_pairs (table_of f.key) (column_of f.key) (tables_after log f.key.version)

-- along a lawful log the pool is sound; each bind that was given out, pooled or not, has its column at its version; the value that is noted for an id is what its lineage evaluates to; and an id evaluates to the same over each later lawful log
pub record PoolsStaySound : Type 0 where
  pub sound : (options : PoolOptions) (log : List EventTree) → IsLawful options log → IsSoundAlong options log
  pub binds : (options : PoolOptions) (log : List EventTree) → IsLawful options log → (f : Face) → Contains (run_of options log).given f → is_bind f.key ≡ true → IsColumnOf log f
  pub noted : (options : PoolOptions) (log : List EventTree) → IsLawful options log → (id : ℕ) → lineage_value options log id ≡ worth (run_of options log).given id
  pub stay : (options : PoolOptions) (log more : List EventTree) → IsLawful options (log ++ more) → (id : ℕ) → IsSome (lineage_value options log id) → lineage_value options (log ++ more) id ≡ lineage_value options log id
