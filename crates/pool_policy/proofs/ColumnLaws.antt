-- The value of each pooled bind is its present column, after each step.
use Rattle.std.proofs.Common.{◌≡◌, ℕ, ◌<◌, List, [], ◌++◌, Bool, true, false, refl, ap, sym, ◌∙◌, subst}
use Rattle.std.specs.List.{list_any}
use Rattle.std.specs.Str.{bytes_eq}
use Rattle.std.specs.Cmp.{first_so}
use Rattle.std.proofs.lemmas.Slice.Eq.{bytes_eq-Decides}
use Rattle.lineage_key.specs.declared.key.KeyArg.{KeyArg}
use Rattle.lineage_key.specs.Parents.{is_bind, table_of, column_of, first_text, second_text}
use Rattle.evict_admit.specs.Runs.{is_one_of}
use Rattle.subsume.proofs.Members.{In, contains_from_in, in_map}
use Rattle.pool_policy.specs.declared.entry.PoolEntry.{PoolEntry}
use Rattle.pool_policy.specs.declared.touched.Touched.{Touched}
use Rattle.pool_policy.specs.Pool.{PoolState}
use Rattle.pool_policy.specs.Looks.{look_of}
use Rattle.pool_policy.specs.Admits.{admit_of, unpinned, release_of}
use Rattle.pool_policy.specs.Writes.{Return, binds_one, touched_ids, write_of}
use Rattle.pool_policy.specs.Keeps.{Face, face_of, faces, IsPool}
use Rattle.pool_policy.specs.Versions.{is_of}
use Rattle.pool_policy.specs.Columns.{Columns, IsColumn, AreColumns, Changes, ColumnsHold}
use Rattle.pool_policy.specs.WriteLaws.{IsWrite}
use Rattle.pool_policy.proofs.Lists.{all_at, in_among}
use Rattle.pool_policy.proofs.Faces.{map_faces}
use Rattle.pool_policy.proofs.AdmitGiven.{admit_step}
use Rattle.pool_policy.proofs.Touches.{binds_touched}
use Rattle.pool_policy.proofs.Returns.{IsBack}
use Rattle.pool_policy.proofs.Written.{bind_same}
use Rattle.pool_policy.proofs.WrittenPool.{gone, all_back, told_back}
use Rattle.pool_policy.proofs.VersionLaws.{all_same, all_found, all_left, all_step, all_written, all_three, was_touched}

abbrev Holds : Columns → Face → Type 0
Holds columns f = IsColumn columns f.key f.value

-- the column before the write of what is pooled
was_column : (pool : PoolState) (columns : Columns) → AreColumns columns pool → (e : PoolEntry) → In e pool.entries → is_bind e.key ≡ true → e.value ≡ columns (table_of e.key) (column_of e.key)
was_column pool columns current e i bind = all_at (Holds columns) (faces pool.entries) (face_of e) current (in_map face_of pool.entries e i) bind

module _ (write : Touched) (now : ℕ) (pool : PoolState) (later : pool.moment < now) (known : IsPool pool) (fits : IsWrite write now pool)
    (old new : Columns) (changes : Changes write old new) (current : AreColumns old pool) where
  abbrev touched : List ℕ
  touched = gone write now pool

  stays_column : (e : PoolEntry) → In e pool.entries → is_one_of touched e.id ≡ false → IsColumn new e.key e.value
  stays_column e i out bind = go (is_of write (table_of e.key) (column_of e.key)) refl
    where
      go : (b : Bool) → is_of write (table_of e.key) (column_of e.key) ≡ b → e.value ≡ new (table_of e.key) (column_of e.key)
      go false is = was_column pool old current e i bind ∙ sym (changes.others (table_of e.key) (column_of e.key) is)
      go true is =
          let one : binds_one write.table write.columns e.key ≡ true = all_three (is_bind e.key) (bytes_eq (table_of e.key) write.table) (list_any (bytes_eq (column_of e.key)) write.columns) bind is in
          let there = in_among touched e.id (binds_touched write.table write.columns pool.entries [] e i one) in
          let wrong : true ≡ false = sym there ∙ out in cc

  -- what comes back has its column after the write, also where it goes again at the write's end
  pub back_column : (r : Return) → In r (all_back write now pool) → IsColumn new r.new.key r.new.value
  back_column r i bind =
      let told : IsBack write now pool (all_back write now pool) r = told_back write now pool known fits later r i in
      let was : is_bind r.old.key ≡ true = sym (bind_same write now pool known fits r i) ∙ bind in
      let of = was_touched write now pool later known fits r i was in
      let table : table_of r.old.key ≡ write.table = (bytes_eq-Decides (table_of r.old.key) write.table).0 (first_so (bytes_eq (table_of r.old.key) write.table) (list_any (bytes_eq (column_of r.old.key)) write.columns) of) in
      let rows = told.rows was in
      let name : rows.1.0 ≡ column_of r.old.key = (bytes_eq-Decides rows.1.0 (column_of r.old.key)).0 rows.4 in
      let column = changes.added rows.0 rows.2 rows.1 (contains_from_in rows.0 rows.1 rows.3) in
      told.value
      ∙ ap (λ v. v ++ r.delta) (was_column pool old current r.old told.here was ∙ ap (λ t. old t (column_of r.old.key)) table ∙ ap (old write.table) (sym name))
      ∙ ap (λ d. old write.table rows.1.0 ++ d) rows.5
      ∙ sym column.1 ∙ sym column.0
      ∙ ap (new write.table) name ∙ ap (λ t. new t (column_of r.old.key)) (sym table)
      ∙ ap (λ (xs : List KeyArg). new (first_text xs) (second_text xs)) (sym (told.binds was).0)

  write_columns : AreColumns new (write_of write now pool).pool
  write_columns = all_written (Holds new) write now pool later known fits stays_column back_column

pub columns_hold_all : ColumnsHold
columns_hold_all = record {
  look = λ who now key columns pool known. all_found (Holds columns) who now (look_of pool key) pool known;
  release = λ session columns pool known. all_same (Holds columns) pool (release_of session pool) (map_faces (unpinned session) (λ e. refl) pool.entries) known;
  forget = λ table names columns pool known. all_left (Holds columns) (touched_ids table names pool.entries) pool.entries known;
  admit = λ who now offer columns pool is known. all_step (Holds columns) offer pool (admit_of who now offer pool).1 (admit_step who now offer pool)
      (λ m bind. m.value ∙ subst (λ k. is_bind k ≡ true → offer.value ≡ columns (table_of k) (column_of k)) (sym m.key) is bind) known;
  write = λ write now old new pool later known fits changes current. write_columns write now pool later known fits old new changes current;
}
