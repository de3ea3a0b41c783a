-- A pool as plain data: its options, its entries in the order of their ids, and the credits of its shapes.
use Rattle.std.specs.Prelude.{ℕ, List, [], Bool, true, false, sum_by}
use Rattle.score_hook.specs.declared.stats.Stats.{Stats}
use Rattle.score_hook.specs.declared.stats.Score.{Score}
use Rattle.score_hook.specs.Scores.{score_of}
use Rattle.lineage_key.specs.declared.shape.Shape.{Shape}
use Rattle.pool_policy.specs.declared.entry.PoolEntry.{PoolEntry}
use Rattle.pool_policy.specs.declared.options.Admit.{Admit}
use Rattle.pool_policy.specs.declared.options.Admit.TheVariants.{All, Credit}
use Rattle.pool_policy.specs.declared.options.PoolOptions.{PoolOptions}

pub record PoolState : Type 0 where
  pub options : PoolOptions
  pub entries : List PoolEntry
  pub next : ℕ  -- the next id
  pub moment : ℕ  -- the last moment
  pub shapes : List Shape  -- numbered from 1
  pub credit : List ℕ  -- of each shape

abbrev pub empty_pool : PoolOptions → PoolState
empty_pool options = record { options = options; entries = []; next = 1; moment = 0; shapes = []; credit = [] }

abbrev pub pool_bytes : List PoolEntry → ℕ
pool_bytes entries = sum_by (λ (e : PoolEntry). e.bytes) entries

-- shapes have credits
abbrev pub asks_credit : Admit → Bool
asks_credit All = false
asks_credit Credit = true

abbrev pub has_credits : PoolOptions → Bool
has_credits options = asks_credit options.admit

-- the score of an entry at a moment
abbrev pub score_at : PoolOptions → ℕ → Stats → Score
score_at options now stats = score_of options.evict options.weights stats now
