-- What a write keeps.
use Rattle.std.specs.Prelude.{◌≡◌, ℕ, ◌^◌, ◌<◌, List, ◌++◌, true, Some, Contains, drop, length, map}
use Rattle.std.specs.List.{AllByRecursion}
use Rattle.cell_core.specs.declared.operator.Op.{Op}
use Rattle.cell_core.specs.declared.operator.Value.{Value}
use Rattle.cell_core.specs.declared.operator.Value.TheVariants.{Bat, One}
use Rattle.cell_core.specs.Operators.{operate}
use Rattle.cell_core.specs.Pairs.{Pairs}
use Rattle.lineage_key.specs.Parents.{is_bind}
use Rattle.reuse_laws.specs.Grown.{AreFrom}
use Rattle.pool_policy.specs.declared.entry.PoolEntry.{PoolEntry}
use Rattle.pool_policy.specs.declared.touched.Touched.{Touched}
use Rattle.pool_policy.specs.Pool.{PoolState}
use Rattle.pool_policy.specs.Writes.{Return, Source, backs_of, delta_of, grows, write_of}
use Rattle.pool_policy.specs.Keeps.{Face, IsPool, faces}
use Rattle.pool_policy.specs.Worths.{IsGiven, GivesOn}
use Rattle.pool_policy.specs.Writes.Source.{Plain, Same, Grown}

-- ## The values of what comes back

-- it has its old value and what follows, which are the new rows where it is a bind
pub record HasGrown (old_rows : ℕ) (r : Return) : Type 0 where
  pub value : r.new.value ≡ r.old.value ++ r.delta
  pub rows : is_bind r.old.key ≡ true → AreFrom old_rows r.delta
  pub short : length r.new.value < 2 ^ 62

abbrev pub IsGrown : ℕ → Source → Type 0
IsGrown old_rows (Grown r) = HasGrown old_rows r
IsGrown old_rows _ = Unit {0}

-- an argument before the write, and after it
abbrev pub old_value : Source → Value
old_value (Plain c) = One c
old_value (Same b) = Bat b
old_value (Grown r) = Bat r.old.value

abbrev pub new_value : Source → Value
new_value (Grown r) = Bat r.new.value
new_value source = old_value source

-- the old value and what follows is the operator over the values after the write
abbrev pub GrowthsServe : Type 0
GrowthsServe = (old_rows : ℕ) (op : Op) (sources : List Source) (b d : Pairs) → AllByRecursion (IsGrown old_rows) sources
    → operate op (map old_value sources) ≡ Some (Bat b) → delta_of op (grows old_rows op sources) ≡ Some d → operate op (map new_value sources) ≡ Some (Bat (b ++ d))

-- ## A write

-- a write fits a pool: the columns that were added to go on by oids from the old number of rows on; no two pooled binds differ by their versions alone; and what comes back is short
pub record IsWrite (write : Touched) (now : ℕ) (pool : PoolState) : Type 0 where
  pub rows : (added : List (List ℕ × Pairs)) → write.added ≡ Some added → (column : List ℕ × Pairs) → Contains added column → AreFrom write.old_rows (drop write.old_rows column.1)
  pub one_version : (e f : PoolEntry) → Contains pool.entries e → Contains pool.entries f → is_bind e.key ≡ true → is_bind f.key ≡ true → e.key.args ≡ f.key.args → e.key.version ≡ f.key.version
  pub short : (r : Return) → Contains (backs_of write now pool) r → length r.new.value < 2 ^ 62

-- ## What a write keeps

-- a write later than all before leaves a pool, with its bytes within the budget; and it adds to what was given out, so that pooled values stay worths
pub record WritesKeep : Type 0 where
  pub pool : (write : Touched) (now : ℕ) (pool : PoolState) → pool.moment < now → IsPool pool → IsWrite write now pool → IsPool (write_of write now pool).pool
  pub given : (write : Touched) (now : ℕ) (given : List Face) (pool : PoolState) → pool.moment < now → IsPool pool → IsWrite write now pool → IsGiven given pool
      → GivesOn given (faces (map (λ (r : Return). r.new) (backs_of write now pool))) (write_of write now pool).pool
