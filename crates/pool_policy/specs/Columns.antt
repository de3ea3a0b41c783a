-- That the value of each pooled bind is its present column.
use Rattle.std.specs.Prelude.{◌≡◌, ℕ, ◌<◌, List, ◌++◌, true, false, Some, Contains, drop}
use Rattle.std.specs.List.{AllByRecursion}
use Rattle.cell_core.specs.Pairs.{Pairs}
use Rattle.lineage_key.specs.declared.key.Key.{Key}
use Rattle.lineage_key.specs.Parents.{is_bind, table_of, column_of}
use Rattle.pool_policy.specs.declared.entry.Who.{Who}
use Rattle.pool_policy.specs.declared.touched.Touched.{Touched}
use Rattle.pool_policy.specs.Pool.{PoolState}
use Rattle.pool_policy.specs.Looks.{after_look}
use Rattle.pool_policy.specs.Admits.{Offer, admit_of, release_of}
use Rattle.pool_policy.specs.Writes.{forget_of, write_of}
use Rattle.pool_policy.specs.Keeps.{Face, faces, IsPool}
use Rattle.pool_policy.specs.Versions.{is_of}
use Rattle.pool_policy.specs.WriteLaws.{IsWrite}

-- a column as a BAT, by the names of its table and of itself
abbrev pub Columns : Type 0
Columns = List ℕ → List ℕ → Pairs

abbrev pub IsColumn : Columns → Key → Pairs → Type 0
IsColumn columns key value = is_bind key ≡ true → value ≡ columns (table_of key) (column_of key)

abbrev pub AreColumns : Columns → PoolState → Type 0
AreColumns columns pool = AllByRecursion (λ (f : Face). IsColumn columns f.key f.value) (faces pool.entries)

-- a write changes the columns: those that it didn't touch stay, and where it only added rows each is the old one, followed by the new rows
pub record Changes (write : Touched) (old new : Columns) : Type 0 where
  pub others : (table column : List ℕ) → is_of write table column ≡ false → new table column ≡ old table column
  pub added : (columns : List (List ℕ × Pairs)) → write.added ≡ Some columns → (column : List ℕ × Pairs) → Contains columns column
      → (new write.table column.0 ≡ column.1) × (column.1 ≡ old write.table column.0 ++ drop write.old_rows column.1)

-- each step keeps that, where an offered bind has its column
pub record ColumnsHold : Type 0 where
  pub look : (who : Who) (now : ℕ) (key : Key) (columns : Columns) (pool : PoolState) → AreColumns columns pool → AreColumns columns (after_look who now key pool)
  pub release : (session : ℕ) (columns : Columns) (pool : PoolState) → AreColumns columns pool → AreColumns columns (release_of session pool)
  pub forget : (table : List ℕ) (names : List (List ℕ)) (columns : Columns) (pool : PoolState) → AreColumns columns pool → AreColumns columns (forget_of table names pool)
  pub admit : (who : Who) (now : ℕ) (offer : Offer) (columns : Columns) (pool : PoolState) → IsColumn columns offer.key offer.value → AreColumns columns pool → AreColumns columns (admit_of who now offer pool).1
  pub write : (write : Touched) (now : ℕ) (old new : Columns) (pool : PoolState) → pool.moment < now → IsPool pool → IsWrite write now pool → Changes write old new → AreColumns old pool → AreColumns new (write_of write now pool).pool
