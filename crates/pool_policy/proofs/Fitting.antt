-- What a pool hands to the calls below is what these ask for.
use Rattle.std.proofs.Common.{◌≡◌, ℕ, ◌+◌, ◌^◌, ◌≤◌, ◌<◌, List, [], ◌∷◌, true, false, Option, Some, None, inl, inr, refl, ap, sym, ◌∙◌, subst, arith, length, map}
use Rattle.std.proofs.lemmas.List.{length-map}
use Rattle.std.specs.Prelude.{All, if◌then◌else◌, nat_eq}
use Rattle.std.specs.List.{IsDistinct, filter_map, cons_option}
use Rattle.std.proofs.lemmas.Bool.Decides.{Decides-eqb}
use Rattle.std.proofs.lemmas.List.Sums.{sum_by-cons}
use Rattle.cell_core.specs.Pairs.{Pairs, heads_of, tails_of}
use Rattle.chunk_core.specs.Facts.{cells_bytes, is_dense}
use Rattle.bat_core.specs.Bats.{bat_bytes}
use Rattle.score_hook.specs.Scores.{IsInRange}
use Rattle.lineage_key.specs.Parents.{is_bind}
use Rattle.least_cover.specs.Chosen.{Selection}
use Rattle.evict_admit.specs.declared.plan.Row.{Row}
use Rattle.subsume.proofs.Members.{In, all_from_in, map_in, in_map}
use Rattle.pool_policy.specs.declared.entry.PoolEntry.{PoolEntry}
use Rattle.pool_policy.specs.Pool.{PoolState, pool_bytes}
use Rattle.pool_policy.specs.Looks.{selection_from, selections_from}
use Rattle.pool_policy.specs.Admits.{row_of, rows_of}
use Rattle.pool_policy.specs.Keeps.{Face, face_of, faces, Rises, IsCounted, IsPoolWithin}
use Rattle.pool_policy.specs.Fits.{PoolsFit}
use Rattle.pool_policy.proofs.Lists.{all_at}
use Rattle.chunk_core.proofs.FactLemmas.{length-le-bytes}
use Rattle.pool_policy.proofs.Ends.{filter_map_in, all_from}
use Rattle.pool_policy.proofs.Faces.{ids_below, entry_rooted}
use Rattle.pool_policy.proofs.Leaving.{rows_length}
use Rattle.pool_policy.proofs.Reuses.{from_entry, select_is_plain}

fewer_than_bytes : (b : Pairs) → length b ≤ cells_bytes (tails_of b)
fewer_than_bytes b = subst (λ n. n ≤ cells_bytes (tails_of b)) (length-map b (λ p. p.1)) (length-le-bytes (tails_of b))

stated : (b : Pairs) → length b ≤ bat_bytes b
stated b = let few = fewer_than_bytes b in elim (is_dense (heads_of b)) as (λ d. length b ≤ 64 + cells_bytes (tails_of b) + (if d then 0 else cells_bytes (heads_of b))) [ true ↦ omega (arith, few) | false ↦ omega (arith, few) ]

shorter : {X Y : Type 0} (f : X → Option Y) (xs : List X) → length (filter_map f xs) ≤ length xs
shorter f [] = omega arith
shorter f (x ∷ xs) = let rest = shorter f xs in elim (f x) as (λ o. length (cons_option o (filter_map f xs)) ≤ length (x ∷ xs)) [ Some y ↦ omega (arith, rest) | None ↦ omega (arith, rest) ]

one_entry : (es : List PoolEntry) (e : PoolEntry) → In e es → e.bytes ≤ pool_bytes es
one_entry [] e i = absurd i
one_entry (x ∷ xs) e (inl is) = let all = sum_by-cons (λ (y : PoolEntry). y.bytes) x xs in let same = ap (λ (y : PoolEntry). y.bytes) is in omega (arith, all, same)
one_entry (x ∷ xs) e (inr i) = let all = sum_by-cons (λ (y : PoolEntry). y.bytes) x xs in let rest = one_entry xs e i in omega (arith, all, rest)

-- ids that rise differ
distinct_ids : (kept : List ℕ) (from next : ℕ) (es : List PoolEntry) → Rises from next (faces es) → IsDistinct nat_eq (map (λ (r : Row). r.id) (rows_of kept es))
unfolding IsDistinct
distinct_ids kept from next [] up = tt
distinct_ids kept from next (e ∷ es) up = (
  all_from (λ id. nat_eq e.id id ≡ false) (map (λ (r : Row). r.id) (rows_of kept es)) (λ id i.
      let r = map_in (λ (r : Row). r.id) (rows_of kept es) id i in
      let x = map_in (row_of kept) es r.0 r.1 in
      let above = all_at (λ (f : Face). (e.id + 1 ≤ f.id) × (f.id < next)) (faces es) (face_of x.0) (ids_below (e.id + 1) next (faces es) up.1) (in_map face_of es x.0 x.1) in
      let same : id ≡ x.0.id = r.2 ∙ ap (λ (r : Row). r.id) x.2 in
      elim (nat_eq e.id id) as (λ b. nat_eq e.id id ≡ b → b ≡ false) [ true ↦ λ is. absurd (let one = (Decides-eqb e.id id).0 is in omega (arith, one, same, above.0)) | false ↦ λ _. refl ] refl),
  distinct_ids kept (e.id + 1) next es up.1,
)

-- rows that can be compared, whatever the bytes of their entries are within
pub ids_fit : (kept : List ℕ) (budget : ℕ) (pool : PoolState) → IsPoolWithin budget pool → All (λ (r : Row). 0 < r.id) (rows_of kept pool.entries)
ids_fit kept budget pool known = all_from_in (λ (r : Row). 0 < r.id) (rows_of kept pool.entries) (λ r i.
    let e = map_in (row_of kept) pool.entries r i in
    let id = ap (λ (r : Row). r.id) e.2 in
    let low = all_at (λ (f : Face). (1 ≤ f.id) × (f.id < pool.next)) (faces pool.entries) (face_of e.0) (ids_below 1 pool.next (faces pool.entries) known.rising) (in_map face_of pool.entries e.0 e.1) in
    omega (arith, id, low.0))

pub apart_fit : (kept : List ℕ) (budget : ℕ) (pool : PoolState) → IsPoolWithin budget pool → IsDistinct nat_eq (map (λ (r : Row). r.id) (rows_of kept pool.entries))
apart_fit kept budget pool known = distinct_ids kept 1 pool.next pool.entries known.rising

pub range_fit : (kept : List ℕ) (budget : ℕ) (pool : PoolState) (now : ℕ) → IsPoolWithin budget pool → pool.moment < 2 ^ 30 → now < 2 ^ 30 → All (λ (r : Row). IsInRange r.stats now) (rows_of kept pool.entries)
range_fit kept budget pool now known moment present = all_from_in (λ (r : Row). IsInRange r.stats now) (rows_of kept pool.entries) (λ r i.
    let e = map_in (row_of kept) pool.entries r i in
    let c = all_at (IsCounted pool.moment) pool.entries e.0 known.counted e.1 in
    subst (λ (r : Row). IsInRange r.stats now) (sym e.2) (record {
      class = c.class;
      work = c.work;
      reuses = omega (arith, c.reuses, moment);
      others = omega (arith, c.others, moment);
      admitted = omega (arith, c.admitted, moment);
      used = omega (arith, c.used, moment);
      present = omega (arith, present);
    }))

pub pools_fit_all : PoolsFit
pools_fit_all pool now known places budget moment present = record {
  few = λ parent. let less = shorter (selection_from parent) pool.entries in omega (arith, less, known.places, places);
  pairs = λ parent. all_from_in (λ (s : Selection). s.1.0 < 2 ^ 41) (selections_from parent pool.entries) (λ s i.
      let from = filter_map_in (selection_from parent) pool.entries s i in
      let plain : is_bind from.0.key ≡ false = select_is_plain from.0.key s.1.1 (from_entry parent from.0 s from.2).1 in
      let told = (entry_rooted pool.options.budget pool known from.0 from.1).told ∙ ap (λ b. if b then 64 else bat_bytes from.0.value) plain in
      let short = stated from.0.value in
      let one = one_entry pool.entries from.0 from.1 in
      let pairs = (from_entry parent from.0 s from.2).3 in
      omega (arith, told, short, one, pairs, known.bytes, budget));
  rows = λ kept. let many = rows_length kept pool.entries in omega (arith, many, known.places, places);
  ids = λ kept. ids_fit kept pool.options.budget pool known;
  apart = λ kept. apart_fit kept pool.options.budget pool known;
  range = λ kept. range_fit kept pool.options.budget pool now known moment present;
}
