-- Each pooled bind has the present version of its column, after each step.
use Rattle.std.proofs.Common.{◌≡◌, ℕ, ◌<◌, List, [], Bool, true, false, not, ◌&&◌, inl, inr, refl, ap, sym, ◌∙◌, subst}
use Rattle.std.specs.Prelude.{◌==◌, filter, if◌then◌else◌}
use Rattle.std.specs.List.{AllByRecursion, list_any}
use Rattle.std.specs.Str.{bytes_eq}
use Rattle.std.proofs.lemmas.Bool.Decides.{Decides-eqb}
use Rattle.lineage_key.specs.declared.key.KeyArg.{KeyArg}
use Rattle.lineage_key.specs.Parents.{is_bind, table_of, column_of, first_text, second_text}
use Rattle.evict_admit.specs.Runs.{is_one_of}
use Rattle.subsume.proofs.Members.{In, in_from_contains, filter_in, in_map, map_in}
use Rattle.pool_policy.specs.declared.entry.Who.{Who}
use Rattle.pool_policy.specs.declared.entry.PoolEntry.{PoolEntry}
use Rattle.pool_policy.specs.declared.touched.Touched.{Touched}
use Rattle.pool_policy.specs.Pool.{PoolState}
use Rattle.pool_policy.specs.Looks.{Finding, used, look_of, ids_used, ids_pinned, at_ids, after_found}
use Rattle.pool_policy.specs.Admits.{Offer, is_other_version, admit_of, unpinned, release_of}
use Rattle.pool_policy.specs.Writes.{Return, binds_one, touched_ids, evictions_after, write_of}
use Rattle.pool_policy.specs.Keeps.{Face, face_of, faces, IsPool}
use Rattle.pool_policy.specs.WriteLaws.{IsWrite}
use Rattle.pool_policy.specs.Versions.{Versions, IsCurrent, AreCurrent, is_of, Moves, VersionsHold}
use Rattle.pool_policy.proofs.Lists.{all_filter, all_at, all_snoc, among_in, in_among, unnot}
use Rattle.pool_policy.proofs.Ends.{all_append, all_from}
use Rattle.pool_policy.proofs.Faces.{map_faces, entry_rooted}
use Rattle.pool_policy.proofs.Leaving.{stays, faces_left}
use Rattle.pool_policy.proofs.AdmitGiven.{IsStep, IsMore, used_faces, pinned_faces, admit_step}
use Rattle.pool_policy.proofs.Touches.{touched_why, binds_touched}
use Rattle.pool_policy.proofs.Returns.{IsBack}
use Rattle.pool_policy.proofs.Written.{news_of, left, bind_same}
use Rattle.pool_policy.proofs.WrittenPool.{gone, all_back, new_pool, told_back, faces_after}

-- ## What holds of each face

pub all_same : (P : Face → Type 0) (old new : PoolState) → faces new.entries ≡ faces old.entries → AllByRecursion P (faces old.entries) → AllByRecursion P (faces new.entries)
all_same P old new same known = subst (AllByRecursion P) (sym same) known

pub all_found : (P : Face → Type 0) (who : Who) (now : ℕ) (found : Finding) (pool : PoolState) → AllByRecursion P (faces pool.entries) → AllByRecursion P (faces (after_found who now found pool).entries)
all_found P who now found pool known = all_same P pool (after_found who now found pool)
    (pinned_faces who (ids_pinned found) (at_ids (ids_used found) (used who now) pool.entries) ∙ used_faces who now (ids_used found) pool.entries) known

pub all_left : (P : Face → Type 0) (gone : List ℕ) (es : List PoolEntry) → AllByRecursion P (faces es) → AllByRecursion P (faces (filter (λ (e : PoolEntry). not (is_one_of gone e.id)) es))
all_left P gone es known = subst (AllByRecursion P) (sym (faces_left gone es)) (all_filter P (stays gone) (faces es) known)

-- a step whose new face holds
pub all_step : (P : Face → Type 0) (offer : Offer) (old new : PoolState) → (step : IsStep offer old new) → ((m : IsMore offer old new) → P m.one) → AllByRecursion P (faces old.entries) → AllByRecursion P (faces new.entries)
all_step P offer old new (inl s) one known = all_same P old new s.same known
all_step P offer old new (inr m) one known = subst (AllByRecursion P) (sym m.more) (all_snoc P m.left m.one (all_from P m.left (λ g i. all_at P (faces old.entries) g known (m.inside g i))) (one m))

-- after a write, what is left and what came back
pub all_written : (P : Face → Type 0) (write : Touched) (now : ℕ) (pool : PoolState) (later : pool.moment < now) (known : IsPool pool) (fits : IsWrite write now pool)
    → ((e : PoolEntry) → In e pool.entries → is_one_of (gone write now pool) e.id ≡ false → P (face_of e)) → ((r : Return) → In r (all_back write now pool) → P (face_of r.new))
    → AllByRecursion P (faces (write_of write now pool).pool.entries)
all_written P write now pool later known fits stay come =
    let touched = gone write now pool in
    let backs = all_back write now pool in
    all_left P (evictions_after now (new_pool write now pool known fits later)).0 (new_pool write now pool known fits later).entries
    (subst (AllByRecursion P) (sym (faces_after write now pool known fits later)) (all_append P (left write now pool known fits) (faces (news_of backs))
    (all_from P (left write now pool known fits) (λ f i.
    let there = filter_in (stays touched) (faces pool.entries) f i in
    let e = map_in face_of pool.entries f there.0 in
    subst P (sym e.2) (stay e.0 e.1 (ap (λ (x : Face). is_one_of touched x.id) (sym e.2) ∙ unnot (is_one_of touched f.id) there.1))))
    (all_from P (faces (news_of backs)) (λ f i.
    let e = map_in face_of (news_of backs) f i in
    let r = map_in (λ (r : Return). r.new) backs e.0 e.1 in
    subst P (ap face_of (sym r.2) ∙ sym e.2) (come r.0 r.1)))))

-- ## Versions

abbrev Current : Versions → Face → Type 0
Current versions f = IsCurrent versions f.key

-- an offer that isn't stale has the present version
pub is_present : (offer : Offer) → is_other_version offer.key offer.present ≡ false → is_bind offer.key ≡ true → offer.key.version ≡ offer.present
is_present offer fits bind = go (offer.key.version == offer.present) refl (sym (ap (λ b. b && not (offer.key.version == offer.present)) bind) ∙ fits)
  where
    go : (b : Bool) → (offer.key.version == offer.present) ≡ b → (true && not b) ≡ false → offer.key.version ≡ offer.present
    go true is h = (Decides-eqb offer.key.version offer.present).0 is
    go false is h = cc

-- ## A write

pub all_three : (a b c : Bool) → a ≡ true → (b && c) ≡ true → (a && b && c) ≡ true
all_three true true true x y = refl
all_three true true false x y = y
all_three true false c x y = y
all_three false b c x y = cc

pub last_two : (a b c : Bool) → (a && b && c) ≡ true → (b && c) ≡ true
last_two true true true x = refl
last_two true true false x = x
last_two true false c x = x
last_two false b c x = cc

module _ (write : Touched) (now : ℕ) (pool : PoolState) (later : pool.moment < now) (known : IsPool pool) (fits : IsWrite write now pool) where
  -- what comes back was of a touched column, where it is a bind
  pub was_touched : (r : Return) → In r (all_back write now pool) → is_bind r.old.key ≡ true → is_of write (table_of r.old.key) (column_of r.old.key) ≡ true
  was_touched r i was =
      let told : IsBack write now pool (all_back write now pool) r = told_back write now pool known fits later r i in
      let one : binds_one write.table write.columns r.old.key ≡ true = elim (touched_why write.table write.columns 1 pool.next pool.entries [] r.old known.rising (λ n k. absurd k) told.here (among_in (gone write now pool) r.old.id told.touches)) [
        | inl h ↦ h
        | inr h ↦ absurd (let none = (entry_rooted pool.options.budget pool known r.old told.here).sole was in subst (λ ids. In h.0 ids) none h.1)
      ] in
      last_two (is_bind r.old.key) (bytes_eq (table_of r.old.key) write.table) (list_any (bytes_eq (column_of r.old.key)) write.columns) one

  -- and has the write's moment, also where it goes again at the write's end
  pub back_current : (old new : Versions) → Moves write now old new → (r : Return) → In r (all_back write now pool) → IsCurrent new r.new.key
  back_current old new moves r i bind =
      let told : IsBack write now pool (all_back write now pool) r = told_back write now pool known fits later r i in
      let was : is_bind r.old.key ≡ true = sym (bind_same write now pool known fits r i) ∙ bind in
      let version : r.new.key.version ≡ now = told.version ∙ ap (λ b. if b then now else r.old.key.version) was in
      version ∙ sym (moves.added told.added.0 told.added.1 (table_of r.old.key) (column_of r.old.key) (was_touched r i was)) ∙ ap (λ (xs : List KeyArg). new (first_text xs) (second_text xs)) (sym (told.binds was).0)

module _ (write : Touched) (now : ℕ) (pool : PoolState) (later : pool.moment < now) (known : IsPool pool) (fits : IsWrite write now pool)
    (old new : Versions) (moves : Moves write now old new) (current : AreCurrent old pool) where
  abbrev touched : List ℕ
  touched = gone write now pool

  -- what is left binds columns that were not touched
  stays_current : (e : PoolEntry) → In e pool.entries → is_one_of touched e.id ≡ false → IsCurrent new e.key
  stays_current e i out bind = go (is_of write (table_of e.key) (column_of e.key)) refl
    where
      go : (b : Bool) → is_of write (table_of e.key) (column_of e.key) ≡ b → e.key.version ≡ new (table_of e.key) (column_of e.key)
      go false is = all_at (Current old) (faces pool.entries) (face_of e) current (in_map face_of pool.entries e i) bind ∙ sym (moves.others (table_of e.key) (column_of e.key) is)
      go true is =
          let one : binds_one write.table write.columns e.key ≡ true = all_three (is_bind e.key) (bytes_eq (table_of e.key) write.table) (list_any (bytes_eq (column_of e.key)) write.columns) bind is in
          let there = in_among touched e.id (binds_touched write.table write.columns pool.entries [] e i one) in
          let wrong : true ≡ false = sym there ∙ out in cc

  write_current : AreCurrent new (write_of write now pool).pool
  write_current = all_written (Current new) write now pool later known fits stays_current (back_current write now pool later known fits old new moves)

pub versions_hold_all : VersionsHold
versions_hold_all = record {
  look = λ who now key versions pool known. all_found (Current versions) who now (look_of pool key) pool known;
  release = λ session versions pool known. all_same (Current versions) pool (release_of session pool) (map_faces (unpinned session) (λ e. refl) pool.entries) known;
  forget = λ table columns versions pool known. all_left (Current versions) (touched_ids table columns pool.entries) pool.entries known;
  admit = λ who now offer versions pool present known. all_step (Current versions) offer pool (admit_of who now offer pool).1 (admit_step who now offer pool)
      (λ m. subst (IsCurrent versions) (sym m.key) (λ bind. is_present offer m.version bind ∙ present bind)) known;
  write = λ write now old new pool later known fits moves current. write_current write now pool later known fits old new moves current;
  one = λ versions pool known e f i j bind_e bind_f args.
      let of_e = all_at (Current versions) (faces pool.entries) (face_of e) known (in_map face_of pool.entries e (in_from_contains pool.entries e i)) bind_e in
      let of_f = all_at (Current versions) (faces pool.entries) (face_of f) known (in_map face_of pool.entries f (in_from_contains pool.entries f j)) bind_f in
      of_e ∙ ap (λ (xs : List KeyArg). versions (first_text xs) (second_text xs)) args ∙ sym of_f;
}
