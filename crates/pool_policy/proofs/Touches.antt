-- What is computed from something touched is touched too; so what is left of a pool that forgets is a pool.
use Rattle.std.proofs.Common.{◌≡◌, ℕ, ◌+◌, ◌≤◌, ◌<◌, List, [], ◌∷◌, ◌++◌, Bool, true, false, not, ◌||◌, ◌⊎◌, inl, inr, refl, ap, sym, ◌∙◌, subst, arith}
use Rattle.std.specs.Prelude.{fold, if◌then◌else◌}
use Rattle.std.specs.List.{list_any}
use Rattle.lineage_key.specs.Parents.{parents_of}
use Rattle.evict_admit.specs.Runs.{is_one_of}
use Rattle.subsume.proofs.Members.{In, filter_in, map_in, list_any_from_in, in_from_list_any}
use Rattle.pool_policy.specs.declared.entry.PoolEntry.{PoolEntry}
use Rattle.pool_policy.specs.Pool.{PoolState}
use Rattle.pool_policy.specs.Writes.{binds_one, and_touched, touched_ids, forget_of}
use Rattle.pool_policy.specs.Keeps.{Face, face_of, faces, Rises, IsParentIn, IsRooted, IsPool, IsPoolWithin}
use Rattle.pool_policy.specs.Worths.{IsGiven}
use Rattle.pool_policy.proofs.Lists.{all_at, among_in, in_among, not_among}
use Rattle.pool_policy.proofs.Leaving.{stays, faces_left, KeepsParents, leaving_keeps}
use Rattle.pool_policy.proofs.AdmitGiven.{given_within}
use Rattle.pool_policy.proofs.Ends.{in_first, in_last, last_or}

module _ (table : List ℕ) (columns : List (List ℕ)) where
  abbrev touched_from : List ℕ → List PoolEntry → List ℕ
  touched_from ids es = fold (and_touched table columns) ids es

  -- is it a bind of these columns, or has it a touched parent
  abbrev is_touched : List ℕ → PoolEntry → Bool
  is_touched ids e = binds_one table columns e.key || list_any (is_one_of ids) (parents_of e.key)

  touched_or : (ids : List ℕ) (e : PoolEntry) (n : ℕ) → In n (and_touched table columns ids e) → In n ids ⊎ (n ≡ e.id)
  touched_or ids e n i = elim (is_touched ids e) as (λ b. In n (if b then ids ++ e.id ∷ [] else ids) → In n ids ⊎ (n ≡ e.id)) [
    | true ↦ λ j. last_or ids e.id n j
    | false ↦ λ j. inl j
  ] i

  stays_touched : (ids : List ℕ) (e : PoolEntry) (n : ℕ) → In n ids → In n (and_touched table columns ids e)
  stays_touched ids e n i = elim (is_touched ids e) as (λ b. In n (if b then ids ++ e.id ∷ [] else ids)) [ true ↦ in_first ids (e.id ∷ []) n i | false ↦ i ]

  still_touched : (es : List PoolEntry) (ids : List ℕ) (n : ℕ) → In n ids → In n (touched_from ids es)
  still_touched [] ids n i = i
  still_touched (e ∷ es) ids n i = still_touched es (and_touched table columns ids e) n (stays_touched ids e n i)

  -- what is touched was so before, or is the id of one of these
  pub touched_by : (es : List PoolEntry) (ids : List ℕ) (n : ℕ) → In n (touched_from ids es) → In n ids ⊎ ((e : PoolEntry) × In e es × (e.id ≡ n))
  touched_by [] ids n i = inl i
  touched_by (x ∷ xs) ids n i = elim (touched_by xs (and_touched table columns ids x) n i) [
    | inl j ↦ elim (touched_or ids x n j) [ inl k ↦ inl k | inr e ↦ inr (x, inl refl, sym e) ]
    | inr h ↦ inr (h.0, inr h.1, h.2)
  ]

  over : (from next : ℕ) (es : List PoolEntry) (e : PoolEntry) → Rises from next (faces es) → In e es → from ≤ e.id
  over from next [] e up i = absurd i
  over from next (x ∷ xs) e up (inl is) = let same = ap (λ (y : PoolEntry). y.id) is in omega (arith, same, up.0)
  over from next (x ∷ xs) e up (inr i) = let more = over (x.id + 1) next xs e up.1 i in omega (arith, more, up.0)

  -- an entry with a touched parent, which is older, is touched
  pub heirs_touched : (from next : ℕ) (es : List PoolEntry) (ids : List ℕ) (e : PoolEntry) (p : ℕ) → Rises from next (faces es) → In e es → In p (parents_of e.key) → p < e.id → In p (touched_from ids es) → In e.id (touched_from ids es)
  heirs_touched from next [] ids e p up i child older there = absurd i
  heirs_touched from next (x ∷ xs) ids e p up (inl is) child older there =
      let same = ap (λ (y : PoolEntry). y.id) is in
      let before : In p ids = elim (touched_by xs (and_touched table columns ids x) p there) [
        | inl j ↦ elim (touched_or ids x p j) [ inl k ↦ k | inr e ↦ absurd (omega (arith, e, same, older)) ]
        | inr h ↦ absurd (let above = over (x.id + 1) next xs h.0 up.1 h.1 in omega (arith, above, same, older, h.2))
      ] in
      let parent : list_any (is_one_of ids) (parents_of x.key) ≡ true = list_any_from_in (is_one_of ids) (parents_of x.key) p (subst (λ (y : PoolEntry). In p (parents_of y.key)) is child) (in_among ids p before) in
      let touched : is_touched ids x ≡ true = either_way (binds_one table columns x.key) (list_any (is_one_of ids) (parents_of x.key)) parent in
      let here : In x.id (and_touched table columns ids x) = subst (λ b. In x.id (if b then ids ++ x.id ∷ [] else ids)) (sym touched) (in_last ids x.id) in
      subst (λ n. In n (touched_from (and_touched table columns ids x) xs)) (sym same) (still_touched xs (and_touched table columns ids x) x.id here)
    where
      either_way : (a b : Bool) → b ≡ true → (a || b) ≡ true
      either_way true b e = refl
      either_way false b e = e
  heirs_touched from next (x ∷ xs) ids e p up (inr i) child older there = heirs_touched (x.id + 1) next xs (and_touched table columns ids x) e p up.1 i child older there

  -- an entry that is touched is such a bind, or has a parent that is touched
  pub touched_why : (from next : ℕ) (es : List PoolEntry) (ids : List ℕ) (e : PoolEntry) → Rises from next (faces es) → ((n : ℕ) → In n ids → n < from) → In e es → In e.id (touched_from ids es)
      → (binds_one table columns e.key ≡ true) ⊎ ((p : ℕ) × In p (parents_of e.key) × In p (touched_from ids es))
  touched_why from next [] ids e up low i there = absurd i
  touched_why from next (x ∷ xs) ids e up low (inl is) there = here (is_touched ids x) refl
    where
      same : e.id ≡ x.id
      same = ap (λ (y : PoolEntry). y.id) is

      here : (b : Bool) → is_touched ids x ≡ b → (binds_one table columns e.key ≡ true) ⊎ ((p : ℕ) × In p (parents_of e.key) × In p (touched_from (and_touched table columns ids x) xs))
      here true h = either_one (binds_one table columns x.key) refl
        where
          either_one : (b : Bool) → binds_one table columns x.key ≡ b → (binds_one table columns e.key ≡ true) ⊎ ((p : ℕ) × In p (parents_of e.key) × In p (touched_from (and_touched table columns ids x) xs))
          either_one true b = inl (ap (λ (y : PoolEntry). binds_one table columns y.key) is ∙ b)
          either_one false b =
              let any : list_any (is_one_of ids) (parents_of x.key) ≡ true = ap (λ c. c || list_any (is_one_of ids) (parents_of x.key)) (sym b) ∙ h in
              let found = in_from_list_any (is_one_of ids) (parents_of x.key) any in
              inr (found.0, subst (λ (y : PoolEntry). In found.0 (parents_of y.key)) (sym is) found.1, still_touched xs (and_touched table columns ids x) found.0 (stays_touched ids x found.0 (among_in ids found.0 found.2)))
      here false h = elim (touched_by xs (and_touched table columns ids x) e.id there) [
        | inl j ↦ absurd (let before = low e.id (subst (λ b. In e.id (if b then ids ++ x.id ∷ [] else ids)) h j) in omega (arith, before, up.0, same))
        | inr k ↦ absurd (let above = over (x.id + 1) next xs k.0 up.1 k.1 in omega (arith, above, k.2, same))
      ]
  touched_why from next (x ∷ xs) ids e up low (inr i) there = touched_why (x.id + 1) next xs (and_touched table columns ids x) e up.1
      (λ n j. elim (touched_or ids x n j) [ inl k ↦ (let before = low n k in omega (arith, before, up.0)) | inr is ↦ omega (arith, is) ]) i there

  -- a bind of one of the columns is touched
  pub binds_touched : (es : List PoolEntry) (ids : List ℕ) (e : PoolEntry) → In e es → binds_one table columns e.key ≡ true → In e.id (touched_from ids es)
  binds_touched [] ids e i bind = absurd i
  binds_touched (x ∷ xs) ids e (inl is) bind =
      let here : binds_one table columns x.key ≡ true = ap (λ (y : PoolEntry). binds_one table columns y.key) (sym is) ∙ bind in
      let touched : is_touched ids x ≡ true = ap (λ b. b || list_any (is_one_of ids) (parents_of x.key)) here in
      subst (λ n. In n (touched_from (and_touched table columns ids x) xs)) (ap (λ (y : PoolEntry). y.id) (sym is))
      (still_touched xs (and_touched table columns ids x) x.id (subst (λ b. In x.id (if b then ids ++ x.id ∷ [] else ids)) (sym touched) (in_last ids x.id)))
  binds_touched (x ∷ xs) ids e (inr i) bind = binds_touched xs (and_touched table columns ids x) e i bind

  -- what is left keeps its parents
  pub touched_closed : (budget : ℕ) (pool : PoolState) → IsPoolWithin budget pool → KeepsParents (touched_ids table columns pool.entries) (faces pool.entries)
  touched_closed budget pool known f h id i = not_among (touched_ids table columns pool.entries) id (λ g.
      let there = filter_in (stays (touched_ids table columns pool.entries)) (faces pool.entries) f h in
      let entry = map_in face_of pool.entries f there.0 in
      let rooted = all_at (IsRooted (faces pool.entries)) (faces pool.entries) f known.rooted there.0 in
      let parent = all_at (IsParentIn (faces pool.entries) f.id) (parents_of f.key) id rooted.parents i in
      let is : f.id ≡ entry.0.id = ap (λ (f : Face). f.id) entry.2 in
      let heir : In entry.0.id (touched_ids table columns pool.entries) = heirs_touched 1 pool.next pool.entries [] entry.0 id known.rising entry.1 (subst (λ (f : Face). In id (parents_of f.key)) entry.2 i) (omega (arith, parent.1, is)) g in
      let gone : is_one_of (touched_ids table columns pool.entries) f.id ≡ true = in_among (touched_ids table columns pool.entries) f.id (subst (λ n. In n (touched_ids table columns pool.entries)) (sym is) heir) in
      let wrong : true ≡ false = sym there.1 ∙ ap not gone in cc)

  -- a pool that forgets is a pool
  pub forget_keeps : (pool : PoolState) → IsPool pool → IsPool (forget_of table columns pool)
  forget_keeps pool known = leaving_keeps pool.options.budget (touched_ids table columns pool.entries) pool (touched_closed pool.options.budget pool known) known

  pub forget_given : (given : List Face) (pool : PoolState) → IsGiven given pool → IsGiven given (forget_of table columns pool)
  forget_given given pool known = given_within given pool (forget_of table columns pool) refl
      (λ f i. (filter_in (stays (touched_ids table columns pool.entries)) (faces pool.entries) f (subst (In f) (faces_left (touched_ids table columns pool.entries) pool.entries) i)).0) known
