-- A write leaves a pool: its last run ends within the budget, and what was given out goes on.
use Rattle.std.proofs.Common.{◌≡◌, ℕ, suc, ◌+◌, ◌-◌, ◌≤◌, ◌<◌, List, [], ◌∷◌, ◌++◌, Bool, true, false, not, ◌&&◌, ◌||◌, inl, inr, refl, ap, sym, ◌∙◌, subst, arith, length, ltb-true, lt-ltb, nat_lt}
use Rattle.std.specs.Prelude.{◌==◌, if◌then◌else◌, IsSome, slice_index}
use Rattle.std.specs.List.{AllByRecursion, list_any}
use Rattle.std.proofs.lemmas.Bool.Decides.{Decides-eqb}
use Rattle.std.proofs.lemmas.List.Sums.{sum_by-cons}
use Rattle.lineage_key.specs.Parents.{parents_of, two_parents}
use Rattle.evict_admit.specs.declared.plan.Row.{Row}
use Rattle.evict_admit.specs.Evictions.{GivesUp, is_parent}
use Rattle.evict_admit.specs.Runs.{Run, LeavesWhole}
use Rattle.evict_admit.proofs.Runs.{runs_are_functions_hold}
use Rattle.subsume.proofs.Members.{In, in_from_contains, contains_from_in, filter_in, in_map, map_in}
use Rattle.pool_policy.specs.declared.entry.PoolEntry.{PoolEntry}
use Rattle.pool_policy.specs.declared.touched.Touched.{Touched}
use Rattle.pool_policy.specs.Pool.{PoolState, pool_bytes, score_at}
use Rattle.pool_policy.specs.Admits.{is_held, left_without, row_of, rows_of, after_leaving}
use Rattle.pool_policy.specs.Writes.{Return, evictions_after, write_of}
use Rattle.pool_policy.specs.Keeps.{Face, face_of, faces, Rises, value_in, IsParentIn, IsRooted, IsPoolWithin, IsPool}
use Rattle.pool_policy.specs.Worths.{IsGiven, GivesOn}
use Rattle.pool_policy.specs.WriteLaws.{IsWrite, WritesKeep}
use Rattle.pool_policy.proofs.Lists.{all_at, all_on}
use Rattle.pool_policy.proofs.Faces.{value_append, value_of_in, value_found, ids_below, rooted_on}
use Rattle.pool_policy.proofs.Leaving.{stays, faces_left, leaving_keeps, run_closed, room_left, bytes_left}
use Rattle.pool_policy.proofs.Ends.{all_append, all_from, in_first, in_second, in_one_of}
use Rattle.pool_policy.proofs.WriteRun.{Up, IsFamily, fresh_bytes, write_run_ends}
use Rattle.pool_policy.proofs.Written.{rises_append, news_of, new_rises, back, left}
use Rattle.pool_policy.proofs.WrittenPool.{gone, all_back, new_pool, told_back, faces_after, returns_keep}

-- an id among the two parents is a parent
two_in : (ids : List ℕ) (n : ℕ) → 0 < n → list_any (λ p. p == n) (slice_index ids 0 ∷ slice_index ids 1 ∷ []) ≡ true → In n ids
two_in ids n some e = first (slice_index ids 0 == n) refl e
  where
    at_first : (ids : List ℕ) → slice_index ids 0 ≡ n → In n ids
    at_first [] h = absurd (omega (arith, h, some))
    at_first (a ∷ ids) h = inl (sym h)

    at_second : (ids : List ℕ) → slice_index ids 1 ≡ n → In n ids
    at_second [] h = absurd (omega (arith, h, some))
    at_second (a ∷ []) h = absurd (omega (arith, h, some))
    at_second (a ∷ b ∷ ids) h = inr (inl (sym h))

    first : (b : Bool) → (slice_index ids 0 == n) ≡ b → (b || ((slice_index ids 1 == n) || false)) ≡ true → In n ids
    first true is h = at_first ids ((Decides-eqb (slice_index ids 0) n).0 is)
    first false is h = second (slice_index ids 1 == n) refl h
      where
        second : (b : Bool) → (slice_index ids 1 == n) ≡ b → (b || false) ≡ true → In n ids
        second true is h = at_second ids ((Decides-eqb (slice_index ids 1) n).0 is)
        second false is h = let wrong : false ≡ true = h in cc

module _ (write : Touched) (now : ℕ) (pool : PoolState) (later : pool.moment < now) (known : IsPool pool) (fits : IsWrite write now pool) where
  abbrev new : PoolState
  new = new_pool write now pool known fits later

  abbrev backs : List Return
  backs = all_back write now pool

  abbrev staying : List PoolEntry
  staying = left_without (gone write now pool) pool.entries

  kept : IsPoolWithin (pool_bytes new.entries) new
  kept = returns_keep write now pool known fits later

  abbrev rows : List Row
  rows = rows_of [] new.entries

  -- rows of entries that came back
  abbrev fresh : Row → Bool
  fresh r = nat_lt pool.next (suc r.id)

  up_rows : (from next : ℕ) (es : List PoolEntry) → Rises from next (faces es) → Up fresh from (rows_of [] es)
  up_rows from next [] h = tt
  up_rows from next (e ∷ es) h = (h.0, up_rows (e.id + 1) next es h.1)

  up_zero : (rs : List Row) → Up fresh 1 rs → Up fresh 0 rs
  up_zero [] h = tt
  up_zero (r ∷ rs) h = (omega arith, h.1)

  entry_id : (e : PoolEntry) → In e new.entries → 1 ≤ e.id
  entry_id e i = (all_at (λ (f : Face). (1 ≤ f.id) × (f.id < new.next)) (faces new.entries) (face_of e) (ids_below 1 new.next (faces new.entries) kept.rising) (in_map face_of new.entries e i)).0

  stays_low : (e : PoolEntry) → In e staying → e.id < pool.next
  stays_low e i =
      let there = (filter_in (λ (x : PoolEntry). not (is_one x)) pool.entries e i).0 in
      (all_at (λ (f : Face). (1 ≤ f.id) × (f.id < pool.next)) (faces pool.entries) (face_of e) (ids_below 1 pool.next (faces pool.entries) known.rising) (in_map face_of pool.entries e there)).1
    where
      is_one : PoolEntry → Bool
      is_one x = list_any (λ i. x.id == i) (gone write now pool)

  older : (a b : Row) → In a rows → In b rows → is_parent a.id b ≡ true → a.id < b.id
  older a b i j h =
      let e = map_in (row_of []) new.entries a i in
      let f = map_in (row_of []) new.entries b j in
      let id_a : a.id ≡ e.0.id = ap (λ (r : Row). r.id) e.2 in
      let id_b : b.id ≡ f.0.id = ap (λ (r : Row). r.id) f.2 in
      let some = entry_id e.0 e.1 in
      let two : list_any (λ p. p == a.id) (two_parents f.0.key) ≡ true = ap (λ (r : Row). list_any (λ p. p == a.id) r.parents) (sym f.2) ∙ h in
      let parent = two_in (parents_of f.0.key) a.id (omega (arith, some, id_a)) two in
      let rooted = all_at (IsRooted (faces new.entries)) (faces new.entries) (face_of f.0) kept.rooted (in_map face_of new.entries f.0 f.1) in
      let less = all_at (IsParentIn (faces new.entries) f.0.id) (parents_of f.0.key) a.id rooted.parents parent in
      omega (arith, less.1, id_b)

  family : IsFamily fresh rows
  family = record {
    up = up_zero rows (up_rows 1 new.next new.entries kept.rising);
    older = older;
    free = λ r i f.
        let e = map_in (row_of []) new.entries r i in
        let id : r.id ≡ e.0.id = ap (λ (r : Row). r.id) e.2 in
        let high = ltb-true pool.next (suc r.id) f in
        elim (in_one_of staying (news_of backs) e.0 e.1) [
          | inl j ↦ absurd (let low = stays_low e.0 j in omega (arith, low, high, id))
          | inr j ↦ (let q = map_in (λ (q : Return). q.new) backs e.0 j in
              let loose : is_held e.0 ≡ false = ap is_held q.2 ∙ (told_back write now pool known fits later q.0 q.1).free in
              ap (λ (r : Row). r.free) e.2 ∙ ap (λ b. not b && true) loose)
        ];
    heirs = λ a b i j f h. let less = older a b i j h in let high = ltb-true pool.next (suc a.id) f in lt-ltb pool.next (suc b.id) (omega (arith, less, high));
  }

  -- ## Bytes

  abbrev fresh_of : List PoolEntry → ℕ
  fresh_of es = fresh_bytes fresh (rows_of [] es)

  all_fresh : (es : List PoolEntry) → AllByRecursion (λ (e : PoolEntry). pool.next ≤ e.id) es → pool_bytes es ≤ fresh_of es
  all_fresh [] h = omega arith
  all_fresh (e ∷ es) h =
      let rest = all_fresh es h.1 in
      let one = sum_by-cons (λ (x : PoolEntry). x.bytes) e es in
      let all = sum_by-cons (λ (r : Row). if fresh r then r.bytes else 0) (row_of [] e) (rows_of [] es) in
      let is : (if fresh (row_of [] e) then e.bytes else 0) ≡ e.bytes = ap (λ b. if b then e.bytes else 0) (lt-ltb pool.next (suc e.id) (omega (arith, h.0))) in
      omega (arith, rest, one, all, is)

  split_bytes : (xs ys : List PoolEntry) → AllByRecursion (λ (e : PoolEntry). pool.next ≤ e.id) ys → pool_bytes (xs ++ ys) ≤ pool_bytes xs + fresh_of (xs ++ ys)
  split_bytes [] ys h = let all = all_fresh ys h in omega (arith, all)
  split_bytes (x ∷ xs) ys h =
      let rest = split_bytes xs ys h in
      let one = sum_by-cons (λ (e : PoolEntry). e.bytes) x (xs ++ ys) in
      let two = sum_by-cons (λ (e : PoolEntry). e.bytes) x xs in
      let all = sum_by-cons (λ (r : Row). if fresh r then r.bytes else 0) (row_of [] x) (rows_of [] (xs ++ ys)) in
      omega (arith, rest, one, two, all)

  news_fresh : AllByRecursion (λ (e : PoolEntry). pool.next ≤ e.id) (news_of backs)
  news_fresh = all_from (λ (e : PoolEntry). pool.next ≤ e.id) (news_of backs) (λ e i.
      (all_at (λ (f : Face). (pool.next ≤ f.id) × (f.id < pool.next + length backs)) (faces (news_of backs)) (face_of e)
      (ids_below pool.next (pool.next + length backs) (faces (news_of backs)) (new_rises pool.next backs (back write now pool known fits).news)) (in_map face_of (news_of backs) e i)).0)

  abbrev need : ℕ
  need = pool_bytes new.entries - pool.options.budget

  need_fresh : need ≤ fresh_of new.entries
  need_fresh =
      let split = split_bytes staying (news_of backs) news_fresh in
      let low = bytes_left (gone write now pool) pool.entries in
      omega (arith, split, low, known.bytes)

  -- ## The last run

  final_keeps : (r : Run) → evictions_after now new ≡ r → IsPool (after_leaving r.0 new)
  final_keeps (ids, enough) e =
      let law = runs_are_functions_hold (score_at pool.options now) rows need 0 ids enough in
      let gives : GivesUp (score_at pool.options now) rows need 0 ids enough = law.0.1 e in
      let whole : LeavesWhole rows need 0 ids enough = law.1 gives in
      let ended = write_run_ends fresh ids (score_at pool.options now) rows need enough family need_fresh gives in
      let left = leaving_keeps (pool_bytes new.entries) ids new (run_closed [] new kept.rooted need 0 ids enough whole) kept in
      let room = room_left [] new kept.rooted need 0 ids enough whole ended in record {
        rising = left.rising;
        own_keys = left.own_keys;
        rooted = left.rooted;
        bytes = omega (arith, room.0);
        places = left.places;
        counted = left.counted;
        funded = left.funded;
        shapes = left.shapes;
        plain = left.plain;
        marked = left.marked;
      }

  pub write_keeps : IsPool (write_of write now pool).pool
  write_keeps = final_keeps (evictions_after now new) refl

  -- ## Worths

  module _ (given : List Face) (was : IsGiven given pool) where
    abbrev more : List Face
    more = faces (news_of backs)

    abbrev all : List Face
    all = given ++ more

    all_rises : Rises 1 (pool.next + length backs) all
    all_rises = rises_append 1 pool.next (pool.next + length backs) given more was.rising (new_rises pool.next backs (back write now pool known fits).news)

    -- what is pooled after the returns was given out
    is_given : (f : Face) → In f (faces new.entries) → In f all
    is_given f i = elim (in_one_of (left write now pool known fits) more f (subst (In f) (faces_after write now pool known fits later) i)) [
      | inl j ↦ in_first given more f (in_from_contains given f (was.pooled f (contains_from_in (faces pool.entries) f (filter_in (stays (gone write now pool)) (faces pool.entries) f j).0)))
      | inr j ↦ in_second given more f j
    ]

    same_value : (id : ℕ) → IsSome (value_in (faces new.entries) id) → value_in all id ≡ value_in (faces new.entries) id
    same_value id some =
        let found = value_found (faces new.entries) id some in
        ap (value_in all) (sym found.2) ∙ value_of_in 1 (pool.next + length backs) all found.0 all_rises (is_given found.0 found.1) ∙ sym found.3

    more_rooted : AllByRecursion (IsRooted all) more
    more_rooted = all_from (IsRooted all) more (λ f i.
        let here : In f (faces new.entries) = subst (In f) (sym (faces_after write now pool known fits later)) (in_second (left write now pool known fits) more f i) in
        let rooted = all_at (IsRooted (faces new.entries)) (faces new.entries) f kept.rooted here in
        rooted_on (faces new.entries) all f (λ id j. same_value id (all_at (IsParentIn (faces new.entries) f.id) (parents_of f.key) id rooted.parents j).2) rooted)

    given_rooted : AllByRecursion (IsRooted all) given
    given_rooted = all_on (IsRooted given) (IsRooted all) given (λ f _ h. rooted_on given all f (λ id j. value_append given more id (all_at (IsParentIn given f.id) (parents_of f.key) id h.parents j).2) h) was.rooted

    pub write_given : GivesOn given more (write_of write now pool).pool
    write_given = record {
      known = record {
        rising = all_rises;
        rooted = all_append (IsRooted all) given more given_rooted more_rooted;
        pooled = λ f c. contains_from_in all f (is_given f (filter_in (stays (evictions_after now new).0) (faces new.entries) f
            (subst (In f) (faces_left (evictions_after now new).0 new.entries) (in_from_contains (faces (write_of write now pool).pool.entries) f c))).0);
      };
      stay = λ id some. value_append given more id some;
    }

pub writes_keep_holds : WritesKeep
writes_keep_holds = record {
  pool = λ write now pool later known fits. write_keeps write now pool later known fits;
  given = λ write now given pool later known fits was. write_given write now pool later known fits given was;
}
