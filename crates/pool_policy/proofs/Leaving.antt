-- What is left of a pool once some entries leave is a pool; and a run of evictions leaves room.
use Rattle.std.proofs.Common.{◌≡◌, ℕ, suc, ◌+◌, ◌≤◌, ◌<◌, List, [], ◌∷◌, Bool, true, false, not, ◌&&◌, ◌||◌, cond, inl, inr, refl, ap, sym, ◌∙◌, subst, arith, length}
use Rattle.std.specs.Prelude.{filter, ◌==◌, slice_index}
use Rattle.std.specs.List.{AllByRecursion, list_any}
use Rattle.std.specs.Cmp.{second_so}
use Rattle.std.proofs.lemmas.Bool.Decides.{Decides-eqb}
use Rattle.std.proofs.lemmas.List.Sums.{sum_by-cons}
use Rattle.lineage_key.specs.Parents.{parents_of, two_parents}
use Rattle.evict_admit.specs.declared.plan.Row.{Row}
use Rattle.evict_admit.specs.Evictions.{is_parent}
use Rattle.evict_admit.specs.Runs.{is_one_of, left, row_bytes, LeavesWhole}
use Rattle.subsume.proofs.Members.{In, in_from_contains, contains_from_in, filter_in, in_filter, in_map, map_in}
use Rattle.pool_policy.specs.declared.entry.PoolEntry.{PoolEntry}
use Rattle.pool_policy.specs.Pool.{PoolState, pool_bytes}
use Rattle.pool_policy.specs.Admits.{is_held, row_of, rows_of, left_without, pays_at_end, after_leaving}
use Rattle.pool_policy.specs.Keeps.{Face, face_of, faces, Rises, HaveOwnKeys, value_in, IsRooted, IsCounted, IsPoolWithin}
use Rattle.pool_policy.proofs.Lists.{all_filter, all_on, all_at, unnot, not_among}
use Rattle.pool_policy.proofs.Faces.{rises_filter, keys_filter, value_filter, rooted_on}
use Rattle.pool_policy.proofs.Credits.{length_paid, funded_left}

-- ## Rows and faces of what is left

abbrev pub stays : List ℕ → Face → Bool
stays gone f = not (is_one_of gone f.id)

pub faces_left : (gone : List ℕ) (es : List PoolEntry) → faces (left_without gone es) ≡ filter (stays gone) (faces es)
faces_left gone [] = refl
faces_left gone (e ∷ es) = elim (not (is_one_of gone e.id)) as (λ b. faces (cond b (e ∷ left_without gone es) (left_without gone es)) ≡ cond b (face_of e ∷ filter (stays gone) (faces es)) (filter (stays gone) (faces es))) [
  | true ↦ ap (λ fs. face_of e ∷ fs) (faces_left gone es)
  | false ↦ faces_left gone es
]

rows_left : (kept gone : List ℕ) (es : List PoolEntry) → rows_of kept (left_without gone es) ≡ left gone (rows_of kept es)
rows_left kept gone [] = refl
rows_left kept gone (e ∷ es) = elim (not (is_one_of gone e.id)) as (λ b. rows_of kept (cond b (e ∷ left_without gone es) (left_without gone es)) ≡ cond b (row_of kept e ∷ left gone (rows_of kept es)) (left gone (rows_of kept es))) [
  | true ↦ ap (λ rs. row_of kept e ∷ rs) (rows_left kept gone es)
  | false ↦ rows_left kept gone es
]

rows_bytes : (kept : List ℕ) (es : List PoolEntry) → row_bytes (rows_of kept es) ≡ pool_bytes es
rows_bytes kept [] = refl
rows_bytes kept (e ∷ es) =
    let one = sum_by-cons (λ (e : PoolEntry). e.bytes) e es in
    let other = sum_by-cons (λ (r : Row). r.bytes) (row_of kept e) (rows_of kept es) in
    let rest = rows_bytes kept es in omega (arith, one, other, rest)

pub rows_length : (kept : List ℕ) (es : List PoolEntry) → length (rows_of kept es) ≡ length es
rows_length kept [] = refl
rows_length kept (e ∷ es) = ap suc (rows_length kept es)

-- ## What leaves takes no parent along

-- no parent of what is left is gone
abbrev pub KeepsParents : List ℕ → List Face → Type 0
KeepsParents gone fs = (f : Face) → In f (filter (stays gone) fs) → (id : ℕ) → In id (parents_of f.key) → is_one_of gone id ≡ false

pub value_stays : (gone : List ℕ) (fs : List Face) (id : ℕ) → is_one_of gone id ≡ false → value_in (filter (stays gone) fs) id ≡ value_in fs id
value_stays gone fs id out = value_filter (stays gone) fs id (λ f is. ap (λ n. not (is_one_of gone n)) is ∙ ap not out)

pub rooted_left : (gone : List ℕ) (fs : List Face) → KeepsParents gone fs → AllByRecursion (IsRooted fs) fs → AllByRecursion (IsRooted (filter (stays gone) fs)) (filter (stays gone) fs)
rooted_left gone fs closed rooted = all_on (IsRooted fs) (IsRooted (filter (stays gone) fs)) (filter (stays gone) fs)
    (λ f h k. rooted_on fs (filter (stays gone) fs) f (λ id i. value_stays gone fs id (closed f h id i)) k)
    (all_filter (IsRooted fs) (stays gone) fs rooted)

pub bytes_left : (gone : List ℕ) (es : List PoolEntry) → pool_bytes (left_without gone es) ≤ pool_bytes es
bytes_left gone [] = omega arith
bytes_left gone (e ∷ es) =
    let rest = bytes_left gone es in
    let all = sum_by-cons (λ (e : PoolEntry). e.bytes) e es in
    elim (not (is_one_of gone e.id)) as (λ b. pool_bytes (cond b (e ∷ left_without gone es) (left_without gone es)) ≤ pool_bytes (e ∷ es)) [
      | true ↦ let one = sum_by-cons (λ (e : PoolEntry). e.bytes) e (left_without gone es) in omega (arith, rest, all, one)
      | false ↦ omega (arith, rest, all)
    ]

pub count_left : (gone : List ℕ) (es : List PoolEntry) → length (left_without gone es) ≤ length es
count_left gone [] = omega arith
count_left gone (e ∷ es) = let rest = count_left gone es in elim (not (is_one_of gone e.id)) as (λ b. length (cond b (e ∷ left_without gone es) (left_without gone es)) ≤ length (e ∷ es)) [ true ↦ omega (arith, rest) | false ↦ omega (arith, rest) ]

-- what is left is a pool
pub leaving_keeps : (budget : ℕ) (gone : List ℕ) (pool : PoolState) → KeepsParents gone (faces pool.entries) → IsPoolWithin budget pool → IsPoolWithin budget (after_leaving gone pool)
leaving_keeps budget gone pool closed known = record {
  rising = subst (Rises 1 pool.next) (sym (faces_left gone pool.entries)) (rises_filter (stays gone) 1 pool.next (faces pool.entries) known.rising);
  own_keys = subst HaveOwnKeys (sym (faces_left gone pool.entries)) (keys_filter (stays gone) (faces pool.entries) known.own_keys);
  rooted = subst (λ fs. AllByRecursion (IsRooted fs) fs) (sym (faces_left gone pool.entries)) (rooted_left gone (faces pool.entries) closed known.rooted);
  bytes = let b = bytes_left gone pool.entries in omega (arith, b, known.bytes);
  places = let l = count_left gone pool.entries in omega (arith, l, known.places);
  counted = all_filter (IsCounted pool.moment) (λ (e : PoolEntry). not (is_one_of gone e.id)) pool.entries known.counted;
  funded = funded_left gone pool.options pool.credit pool.entries known.funded;
  shapes = known.shapes ∙ sym (length_paid pool.credit (filter (λ (e : PoolEntry). is_one_of gone e.id && pays_at_end e) pool.entries));
  plain = λ e. length_paid pool.credit (filter (λ (e : PoolEntry). is_one_of gone e.id && pays_at_end e) pool.entries) ∙ known.plain e;
  marked = λ e. all_filter (λ (e : PoolEntry). 0 < e.shape) (λ (e : PoolEntry). not (is_one_of gone e.id)) pool.entries (known.marked e);
}

-- ## A run of evictions

-- each of at most two parents is among the two
two_has : (ids : List ℕ) (n : ℕ) → length ids ≤ 2 → In n ids → list_any (λ p. p == n) (slice_index ids 0 ∷ slice_index ids 1 ∷ []) ≡ true
two_has [] n few h = absurd h
two_has (a ∷ []) n few h = elim h [ inl e ↦ ap (λ b. b || list_any (λ p. p == n) (0 ∷ [])) ((Decides-eqb a n).1 (sym e)) | inr more ↦ absurd more ]
two_has (a ∷ b ∷ []) n few h = elim h [
  | inl e ↦ ap (λ r. r || list_any (λ p. p == n) (b ∷ [])) ((Decides-eqb a n).1 (sym e))
  | inr more ↦ elim more [ inl e ↦ let is : (b == n) ≡ true = (Decides-eqb b n).1 (sym e) in elim (a == n) as (λ r. (r || ((b == n) || false)) ≡ true) [ true ↦ refl | false ↦ ap (λ r. r || false) is ] | inr never ↦ absurd never ]
]
two_has (a ∷ b ∷ c ∷ ids) n few h = absurd (omega arith)

-- an id that is kept is among those that are
kept_has : (kept : List ℕ) (n : ℕ) → In n kept → list_any (λ id. id == n) kept ≡ true
kept_has [] n h = absurd h
kept_has (k ∷ kept) n (inl e) = ap (λ b. b || list_any (λ id. id == n) kept) ((Decides-eqb k n).1 (sym e))
kept_has (k ∷ kept) n (inr h) = let more = kept_has kept n h in elim (k == n) as (λ b. (b || list_any (λ id. id == n) kept) ≡ true) [ true ↦ refl | false ↦ more ]

module _ (kept : List ℕ) (pool : PoolState) (rooted : AllByRecursion (IsRooted (faces pool.entries)) (faces pool.entries))
    (need slots : ℕ) (gone : List ℕ) (enough : Bool) (run : LeavesWhole (rows_of kept pool.entries) need slots gone enough) where
  abbrev rows : List Row
  rows = rows_of kept pool.entries

  pub run_closed : KeepsParents gone (faces pool.entries)
  run_closed f h id i = not_among gone id (λ g.
      let there = filter_in (stays gone) (faces pool.entries) f h in
      let entry = map_in face_of pool.entries f there.0 in
      let row : Row = row_of kept entry.0 in
      let stayed : not (is_one_of gone row.id) ≡ true = ap (λ (f : Face). not (is_one_of gone f.id)) (sym entry.2) ∙ there.1 in
      let here : In row (left gone rows) = in_filter (λ (r : Row). not (is_one_of gone r.id)) rows row (in_map (row_of kept) pool.entries entry.0 entry.1) stayed in
      let no_child : is_parent id row ≡ false = run.keeps_parents row (contains_from_in (left gone rows) row here) id (contains_from_in gone id g) in
      let known = all_at (IsRooted (faces pool.entries)) (faces pool.entries) f rooted there.0 in
      let child : list_any (λ p. p == id) (two_parents f.key) ≡ true = two_has (parents_of f.key) id known.few i in
      let same : list_any (λ p. p == id) (two_parents f.key) ≡ is_parent id row = ap (λ (f : Face). list_any (λ p. p == id) (two_parents f.key)) entry.2 in
      let wrong : true ≡ false = sym child ∙ same ∙ no_child in cc)

  -- what is kept is not gone
  pub kept_stay : (id : ℕ) → In id kept → is_one_of gone id ≡ false
  kept_stay id i = not_among gone id (λ g.
      let was = run.were_free id (contains_from_in gone id g) in
      let entry = map_in (row_of kept) pool.entries was.0 (in_from_contains rows was.0 was.1) in
      let free : (not (is_held entry.0) && not (list_any (λ n. n == entry.0.id) kept)) ≡ true = ap (λ (r : Row). r.free) (sym entry.2) ∙ was.3 in
      let out : list_any (λ n. n == entry.0.id) kept ≡ false = unnot (list_any (λ n. n == entry.0.id) kept) (second_so (not (is_held entry.0)) (not (list_any (λ n. n == entry.0.id) kept)) free) in
      let is : entry.0.id ≡ id = ap (λ (r : Row). r.id) (sym entry.2) ∙ was.2 in
      let inside : list_any (λ n. n == entry.0.id) kept ≡ true = kept_has kept entry.0.id (subst (λ n. In n kept) (sym is) i) in
      let wrong : true ≡ false = sym inside ∙ out in cc)

  -- with enough gone, so many bytes and places are free
  pub room_left : enough ≡ true → (need + pool_bytes (left_without gone pool.entries) ≤ pool_bytes pool.entries) × (slots + length (left_without gone pool.entries) ≤ length pool.entries)
  room_left e =
      let bytes = run.bytes_freed e in
      let places = run.places_freed e in
      let all = rows_bytes kept pool.entries in
      let some = rows_bytes kept (left_without gone pool.entries) in
      let same = ap row_bytes (rows_left kept gone pool.entries) in
      let count = rows_length kept pool.entries in
      let fewer = rows_length kept (left_without gone pool.entries) in
      let same_count = ap (λ (rs : List Row). length rs) (rows_left kept gone pool.entries) in
      (omega (arith, bytes, all, some, same), omega (arith, places, count, fewer, same_count))
