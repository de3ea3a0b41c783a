-- A look, a release and an admission keep what a pool keeps.
use Rattle.std.proofs.Common.{◌≡◌, ℕ, suc, ◌+◌, ◌^◌, ◌≤◌, ◌<◌, List, [], ◌∷◌, true, false, not, ◌&&◌, refl, ap, sym, ◌∙◌, subst, arith, length, map}
use Rattle.std.specs.Prelude.{slice_set, filter, ◌==◌, if◌then◌else◌, count_by, sum_by}
use Rattle.std.specs.List.{AllByRecursion}
use Rattle.std.proofs.lemmas.List.Sums.{sum_by-cons}
use Rattle.lineage_key.specs.declared.key.Key.{Key}
use Rattle.lineage_key.specs.declared.shape.Shape.{Shape}
use Rattle.score_hook.specs.declared.stats.Stats.{Stats}
use Rattle.pool_policy.specs.declared.entry.Who.{Who}
use Rattle.pool_policy.specs.declared.entry.PoolEntry.{PoolEntry}
use Rattle.pool_policy.specs.declared.options.PoolOptions.{PoolOptions}
use Rattle.pool_policy.specs.Pool.{PoolState, pool_bytes, has_credits}
use Rattle.evict_admit.specs.Runs.{is_one_of}
use Rattle.pool_policy.specs.Looks.{Finding, used, pays_back, pinned, at_ids, after_uses, ids_used, ids_pinned, look_of, after_found, after_look}
use Rattle.pool_policy.specs.Admits.{release_of}
use Rattle.pool_policy.specs.Keeps.{Face, face_of, faces, Rises, HaveOwnKeys, IsRooted, IsCounted, is_unpaid, AreFunded, IsPoolWithin, IsPool}
use Rattle.pool_policy.proofs.Lists.{all_on}
use Rattle.pool_policy.proofs.Faces.{map_faces}
use Rattle.pool_policy.proofs.Credits.{one_if, length_paid, funded_used}

-- ## By the faces alone

bytes_faces : (es : List PoolEntry) → pool_bytes es ≡ sum_by (λ (f : Face). f.bytes) (faces es)
bytes_faces [] = refl
bytes_faces (e ∷ es) =
    let one = sum_by-cons (λ (e : PoolEntry). e.bytes) e es in
    let two = sum_by-cons (λ (f : Face). f.bytes) (face_of e) (faces es) in
    let rest = bytes_faces es in omega (arith, one, two, rest)

length_faces : (es : List PoolEntry) → length es ≡ length (faces es)
length_faces [] = refl
length_faces (e ∷ es) = ap suc (length_faces es)

bytes_same : (xs ys : List PoolEntry) → faces xs ≡ faces ys → pool_bytes xs ≡ pool_bytes ys
bytes_same xs ys e = bytes_faces xs ∙ ap (λ fs. sum_by (λ (f : Face). f.bytes) fs) e ∙ sym (bytes_faces ys)

length_same : (xs ys : List PoolEntry) → faces xs ≡ faces ys → length xs ≡ length ys
length_same xs ys e = length_faces xs ∙ ap (λ (fs : List Face). length fs) e ∙ sym (length_faces ys)

-- what the faces say of shapes
marked_same : (xs ys : List PoolEntry) → faces xs ≡ faces ys → AllByRecursion (λ (e : PoolEntry). 0 < e.shape) ys → AllByRecursion (λ (e : PoolEntry). 0 < e.shape) xs
marked_same [] ys e h = tt
marked_same (x ∷ xs) [] e h = cc
marked_same (x ∷ xs) (y ∷ ys) e h =
    let one : face_of x ≡ face_of y = cc in
    let rest : faces xs ≡ faces ys = cc in
    let shape : x.shape ≡ y.shape = ap (λ (f : Face). f.shape) one in
    (omega (arith, h.0, shape), marked_same xs ys rest h.1)

-- a pool whose entries have the same faces
pub same_faces : (budget : ℕ) (pool new : PoolState) → new.options ≡ pool.options → new.next ≡ pool.next → new.shapes ≡ pool.shapes → length new.credit ≡ length pool.credit → faces new.entries ≡ faces pool.entries → AllByRecursion (IsCounted new.moment) new.entries → AreFunded new.options new.credit new.entries → IsPoolWithin budget pool → IsPoolWithin budget new
same_faces budget pool new options next shapes credit same counted funded known = record {
  rising = subst (λ n. Rises 1 n (faces new.entries)) (sym next) (subst (λ fs. Rises 1 pool.next fs) (sym same) known.rising);
  own_keys = subst HaveOwnKeys (sym same) known.own_keys;
  rooted = subst (λ fs. AllByRecursion (IsRooted fs) fs) (sym same) known.rooted;
  bytes = let b = bytes_same new.entries pool.entries same in omega (arith, b, known.bytes);
  places = let l = length_same new.entries pool.entries same in let o = ap (λ (o : PoolOptions). o.places) options in omega (arith, l, o, known.places);
  counted = counted;
  funded = funded;
  shapes = ap (λ (ss : List Shape). length ss) shapes ∙ known.shapes ∙ sym credit;
  plain = λ e. credit ∙ known.plain (sym (ap has_credits options) ∙ e);
  marked = λ e. marked_same new.entries pool.entries same (known.marked (sym (ap has_credits options) ∙ e));
}

-- ## Uses

used_face : (who : Who) (now : ℕ) (ids : List ℕ) (e : PoolEntry) → face_of (if is_one_of ids e.id then used who now e else e) ≡ face_of e
used_face who now ids e = elim (is_one_of ids e.id) as (λ b. face_of (if b then used who now e else e) ≡ face_of e) [ true ↦ refl | false ↦ refl ]

used_counted : (who : Who) (moment now : ℕ) (e : PoolEntry) → moment < now → IsCounted moment e → IsCounted now (used who now e)
used_counted who moment now e later h = record {
  class = h.class;
  work = h.work;
  reuses = omega (arith, h.reuses);
  others = elim ((e.by.session == who.session) && (e.by.statement == who.statement)) as (λ b. e.stats.others + (if b then 0 else 1) ≤ now) [ true ↦ omega (arith, h.others) | false ↦ omega (arith, h.others) ];
  admitted = omega (arith, h.admitted);
  used = omega arith;
}

pub counted_later : (moment now : ℕ) → moment ≤ now → (es : List PoolEntry) → AllByRecursion (IsCounted moment) es → AllByRecursion (IsCounted now) es
counted_later moment now later es h = all_on (IsCounted moment) (IsCounted now) es (λ e _ k. record { class = k.class; work = k.work; reuses = omega (arith, k.reuses); others = omega (arith, k.others); admitted = omega (arith, k.admitted); used = omega (arith, k.used) }) h

used_all : (who : Who) (moment now : ℕ) (ids : List ℕ) (es : List PoolEntry) → moment < now → AllByRecursion (IsCounted moment) es → AllByRecursion (IsCounted now) (at_ids ids (used who now) es)
used_all who moment now ids [] later h = tt
used_all who moment now ids (e ∷ es) later h =
    let still : AllByRecursion (IsCounted now) (e ∷ []) = counted_later moment now (omega arith) (e ∷ []) (h.0, tt) in
    (elim (is_one_of ids e.id) as (λ b. IsCounted now (if b then used who now e else e)) [ true ↦ used_counted who moment now e later h.0 | false ↦ still.0 ], used_all who moment now ids es later h.1)

pub uses_keep : (who : Who) (now : ℕ) (ids : List ℕ) (pool : PoolState) → pool.moment < now → IsPool pool → IsPool (after_uses who now ids pool)
uses_keep who now ids pool later known =
    let new = after_uses who now ids pool in
    let funded = funded_used who now ids pool.options pool.credit pool.entries known.funded in
    same_faces pool.options.budget pool new refl refl refl (length_paid pool.credit (filter (λ (e : PoolEntry). is_one_of ids e.id && pays_back who e) pool.entries))
    (map_faces (λ (e : PoolEntry). if is_one_of ids e.id then used who now e else e) (used_face who now ids) pool.entries)
    (used_all who pool.moment now ids pool.entries later known.counted) funded known

-- ## Pins

pinned_keep : (change : PoolEntry → PoolEntry) → ((e : PoolEntry) → face_of (change e) ≡ face_of e) → ((e : PoolEntry) → (change e).stats ≡ e.stats) → ((e : PoolEntry) → (change e).is_paid ≡ e.is_paid) → (pool : PoolState) → IsPool pool → IsPool (record pool { entries = map change pool.entries })
pinned_keep change face stats paid pool known = same_faces pool.options.budget pool (record pool { entries = map change pool.entries }) refl refl refl refl (map_faces change face pool.entries) (counted pool.entries known.counted)
    (record { each = λ t some low. let owed = owes t pool.entries in let before = known.funded.each t some low in omega (arith, owed, before); numbered = numbers (length pool.credit) pool.entries known.funded.numbered }) known
  where
    counted : (es : List PoolEntry) → AllByRecursion (IsCounted pool.moment) es → AllByRecursion (IsCounted pool.moment) (map change es)
    counted [] h = tt
    counted (e ∷ es) h = (
      let s = sym (stats e) in record {
        class = subst (λ (x : Stats). x.class < 35) s h.0.class;
        work = subst (λ (x : Stats). x.work < 2 ^ 62) s h.0.work;
        reuses = subst (λ (x : Stats). x.reuses ≤ pool.moment) s h.0.reuses;
        others = subst (λ (x : Stats). x.others ≤ pool.moment) s h.0.others;
        admitted = subst (λ (x : Stats). x.admitted_at ≤ pool.moment) s h.0.admitted;
        used = subst (λ (x : Stats). x.used_at ≤ pool.moment) s h.0.used;
      },
      counted es h.1,
    )

    owes : (t : ℕ) (es : List PoolEntry) → count_by (is_unpaid t) (map change es) ≡ count_by (is_unpaid t) es
    owes t [] = refl
    owes t (e ∷ es) =
        let rest = owes t es in
        let new = sum_by-cons (λ (x : PoolEntry). one_if (is_unpaid t x)) (change e) (map change es) in
        let old = sum_by-cons (λ (x : PoolEntry). one_if (is_unpaid t x)) e es in
        let one : one_if (is_unpaid t (change e)) ≡ one_if (is_unpaid t e) = ap (λ (f : Face). one_if ((f.shape == t) && not (change e).is_paid)) (face e) ∙ ap (λ b. one_if ((e.shape == t) && not b)) (paid e) in
        omega (arith, rest, new, old, one)

    numbers : (n : ℕ) (es : List PoolEntry) → AllByRecursion (λ (e : PoolEntry). (e.shape ≤ n) × (0 < n → 0 < e.shape)) es → AllByRecursion (λ (e : PoolEntry). (e.shape ≤ n) × (0 < n → 0 < e.shape)) (map change es)
    numbers n [] h = tt
    numbers n (e ∷ es) h = (subst (λ (f : Face). (f.shape ≤ n) × (0 < n → 0 < f.shape)) (sym (face e)) h.0, numbers n es h.1)

pub pins_keep : (who : Who) (ids : List ℕ) (pool : PoolState) → IsPool pool → IsPool (record pool { entries = at_ids ids (pinned who) pool.entries })
pins_keep who ids pool known = pinned_keep (λ (e : PoolEntry). if is_one_of ids e.id then pinned who e else e)
    (λ e. elim (is_one_of ids e.id) as (λ b. face_of (if b then pinned who e else e) ≡ face_of e) [ true ↦ refl | false ↦ refl ])
    (λ e. elim (is_one_of ids e.id) as (λ b. (if b then pinned who e else e).stats ≡ e.stats) [ true ↦ refl | false ↦ refl ])
    (λ e. elim (is_one_of ids e.id) as (λ b. (if b then pinned who e else e).is_paid ≡ e.is_paid) [ true ↦ refl | false ↦ refl ])
    pool known

-- what is found keeps a pool
pub found_keeps : (who : Who) (now : ℕ) (found : Finding) (pool : PoolState) → pool.moment < now → IsPool pool → IsPool (after_found who now found pool)
found_keeps who now found pool later known = pins_keep who (ids_pinned found) (after_uses who now (ids_used found) pool) (uses_keep who now (ids_used found) pool later known)

-- a look keeps a pool
pub look_keeps : (who : Who) (now : ℕ) (key : Key) (pool : PoolState) → pool.moment < now → IsPool pool → IsPool (after_look who now key pool)
look_keeps who now key pool later known = found_keeps who now (look_of pool key) pool later known

-- the end of a statement keeps a pool
pub release_keeps : (session : ℕ) (pool : PoolState) → IsPool pool → IsPool (release_of session pool)
release_keeps session pool known = pinned_keep (λ (e : PoolEntry). record e { pins = slice_set e.pins session false }) (λ e. refl) (λ e. refl) (λ e. refl) pool known
