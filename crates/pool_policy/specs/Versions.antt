-- That each pooled bind has the present version of its column.
use Rattle.std.specs.Prelude.{◌≡◌, ℕ, ◌<◌, List, Bool, true, false, ◌&&◌, Some, Contains}
use Rattle.std.specs.List.{AllByRecursion, list_any}
use Rattle.std.specs.Str.{bytes_eq}
use Rattle.cell_core.specs.Pairs.{Pairs}
use Rattle.lineage_key.specs.declared.key.Key.{Key}
use Rattle.lineage_key.specs.Parents.{is_bind, table_of, column_of}
use Rattle.pool_policy.specs.declared.entry.Who.{Who}
use Rattle.pool_policy.specs.declared.entry.PoolEntry.{PoolEntry}
use Rattle.pool_policy.specs.declared.touched.Touched.{Touched}
use Rattle.pool_policy.specs.Pool.{PoolState}
use Rattle.pool_policy.specs.Looks.{after_look}
use Rattle.pool_policy.specs.Admits.{Offer, admit_of, release_of}
use Rattle.pool_policy.specs.Writes.{forget_of, write_of}
use Rattle.pool_policy.specs.Keeps.{Face, faces, IsPool}
use Rattle.pool_policy.specs.WriteLaws.{IsWrite}

-- the version of a column, by the names of its table and of itself
abbrev pub Versions : Type 0
Versions = List ℕ → List ℕ → ℕ

abbrev pub IsCurrent : Versions → Key → Type 0
IsCurrent versions key = is_bind key ≡ true → key.version ≡ versions (table_of key) (column_of key)

abbrev pub AreCurrent : Versions → PoolState → Type 0
AreCurrent versions pool = AllByRecursion (λ (f : Face). IsCurrent versions f.key) (faces pool.entries)

-- the column is one that the write touched
abbrev pub is_of : Touched → List ℕ → List ℕ → Bool
is_of write table column = bytes_eq table write.table && list_any (bytes_eq column) write.columns

-- a write moves the versions: those of columns that it didn't touch stay, and where it only added rows those that it touched are its moment
pub record Moves (write : Touched) (now : ℕ) (old new : Versions) : Type 0 where
  pub others : (table column : List ℕ) → is_of write table column ≡ false → new table column ≡ old table column
  pub added : (columns : List (List ℕ × Pairs)) → write.added ≡ Some columns → (table column : List ℕ) → is_of write table column ≡ true → new table column ≡ now

-- each step keeps that, where an offered bind has the present version; and then no two pooled binds differ by their versions alone
pub record VersionsHold : Type 0 where
  pub look : (who : Who) (now : ℕ) (key : Key) (versions : Versions) (pool : PoolState) → AreCurrent versions pool → AreCurrent versions (after_look who now key pool)
  pub release : (session : ℕ) (versions : Versions) (pool : PoolState) → AreCurrent versions pool → AreCurrent versions (release_of session pool)
  pub forget : (table : List ℕ) (columns : List (List ℕ)) (versions : Versions) (pool : PoolState) → AreCurrent versions pool → AreCurrent versions (forget_of table columns pool)
  pub admit : (who : Who) (now : ℕ) (offer : Offer) (versions : Versions) (pool : PoolState) → (is_bind offer.key ≡ true → offer.present ≡ versions (table_of offer.key) (column_of offer.key)) → AreCurrent versions pool → AreCurrent versions (admit_of who now offer pool).1
  pub write : (write : Touched) (now : ℕ) (old new : Versions) (pool : PoolState) → pool.moment < now → IsPool pool → IsWrite write now pool → Moves write now old new → AreCurrent old pool → AreCurrent new (write_of write now pool).pool
  pub one : (versions : Versions) (pool : PoolState) → AreCurrent versions pool → (e f : PoolEntry) → Contains pool.entries e → Contains pool.entries f → is_bind e.key ≡ true → is_bind f.key ≡ true → e.key.args ≡ f.key.args → e.key.version ≡ f.key.version
