-- What a write leaves before its last run is a pool, whose bytes may pass the budget.
use Rattle.std.proofs.Common.{◌≡◌, ℕ, suc, ◌+◌, ◌≤◌, ◌<◌, List, [], ◌∷◌, ◌++◌, Bool, true, false, Some, inl, inr, refl, ap, sym, ◌∙◌, subst, arith, length, map}
use Rattle.std.specs.Prelude.{filter, IsSome}
use Rattle.std.specs.List.{AllByRecursion, filter_map}
use Rattle.std.specs.Option.{unwrap_or}
use Rattle.cell_core.specs.declared.operator.Value.TheVariants.{Bat, One}
use Rattle.cell_core.specs.Pairs.{Pairs}
use Rattle.cell_core.specs.Operators.{operate}
use Rattle.lineage_key.specs.declared.key.Key.{Key}
use Rattle.lineage_key.specs.declared.key.KeyArg.{KeyArg}
use Rattle.lineage_key.specs.declared.key.KeyArg.TheVariants.{Const, Id}
use Rattle.lineage_key.specs.Parents.{id_in, parents_of, is_bind}
use Rattle.lineage_key.specs.Same.{same_key, same_key_decides}
use Rattle.evict_admit.specs.Runs.{is_one_of}
use Rattle.subsume.proofs.Members.{In, contains_from_in, in_map, map_in}
use Rattle.pool_policy.specs.declared.entry.PoolEntry.{PoolEntry}
use Rattle.pool_policy.specs.declared.touched.Touched.{Touched}
use Rattle.pool_policy.specs.Pool.{PoolState}
use Rattle.pool_policy.specs.Writes.{Return, Source, returns_of}
use Rattle.pool_policy.specs.Writes.Source.{Plain, Same, Grown}
use Rattle.pool_policy.specs.Keeps.{Face, face_of, faces, Rises, HaveOwnKeys, value_in, arg_value, IsParentIn, IsRooted, IsPool}
use Rattle.pool_policy.specs.WriteLaws.{HasGrown, IsGrown, old_value, new_value, IsWrite}
use Rattle.pool_policy.proofs.Lists.{all_on, all_at}
use Rattle.pool_policy.proofs.Faces.{value_append, value_of_in, entry_rooted, rises_lower, rises_filter, ids_below, rooted_on}
use Rattle.pool_policy.proofs.Leaving.{stays, value_stays, rooted_left}
use Rattle.pool_policy.proofs.Touches.{touched_closed}
use Rattle.pool_policy.proofs.Growths.{growths_serve}
use Rattle.pool_policy.proofs.Returns.{OldsUp, NewIds, touched, old_faces, IsArgs, IsBack, AreBack, are_back}
use Rattle.pool_policy.proofs.Ends.{all_append, all_from, in_second}

-- ## Two lists of faces, one after the other

pub rises_append : (from mid next : ℕ) (fs gs : List Face) → Rises from mid fs → Rises mid next gs → Rises from next (fs ++ gs)
rises_append from mid next [] gs h k = rises_lower from mid next gs h k
rises_append from mid next (f ∷ fs) gs h k = (h.0, rises_append (f.id + 1) mid next fs gs h.1 k)

pub keys_append : (fs gs : List Face) → HaveOwnKeys fs → HaveOwnKeys gs → ((f g : Face) → In f fs → In g gs → same_key f.key g.key ≡ false) → HaveOwnKeys (fs ++ gs)
keys_append [] gs h k apart = k
keys_append (f ∷ fs) gs h k apart = (all_append (λ (g : Face). same_key f.key g.key ≡ false) fs gs h.0 (all_from (λ (g : Face). same_key f.key g.key ≡ false) gs (λ g i. apart f g (inl refl) i)), keys_append fs gs h.1 k (λ x g i j. apart x g (inr i) j))

-- entries with one key are one
pub keys_apart : (fs : List Face) (f g : Face) → HaveOwnKeys fs → In f fs → In g fs → f.key ≡ g.key → f.id ≡ g.id
keys_apart [] f g own i j e = absurd i
keys_apart (x ∷ xs) f g own (inl i) (inl j) e = ap (λ (y : Face). y.id) (i ∙ sym j)
keys_apart (x ∷ xs) f g own (inl i) (inr j) e =
    let differ = all_at (λ (y : Face). same_key x.key y.key ≡ false) xs g own.0 j in
    let same : same_key x.key g.key ≡ true = (same_key_decides x.key g.key).1 (ap (λ (y : Face). y.key) (sym i) ∙ e) in
    let wrong : true ≡ false = sym same ∙ differ in cc
keys_apart (x ∷ xs) f g own (inr i) (inl j) e =
    let differ = all_at (λ (y : Face). same_key x.key y.key ≡ false) xs f own.0 i in
    let same : same_key x.key f.key ≡ true = (same_key_decides x.key f.key).1 (ap (λ (y : Face). y.key) (sym j) ∙ sym e) in
    let wrong : true ≡ false = sym same ∙ differ in cc
keys_apart (x ∷ xs) f g own (inr i) (inr j) e = keys_apart xs f g own.1 i j e

pub differ_by : (a b : Key) → (a ≡ b → ⊥) → same_key a b ≡ false
differ_by a b no_more = elim (same_key a b) as (λ c. same_key a b ≡ c → c ≡ false) [ true ↦ λ e. absurd (no_more ((same_key_decides a b).0 e)) | false ↦ λ _. refl ] refl

-- ## What comes back, by its ids

abbrev pub news_of : List Return → List PoolEntry
news_of rs = map (λ (r : Return). r.new) rs

pub new_rises : (from : ℕ) (rs : List Return) → NewIds from rs → Rises from (from + length rs) (faces (news_of rs))
new_rises from [] h = omega arith
new_rises from (r ∷ rs) h = (omega (arith, h.0), subst (λ n. Rises (r.new.id + 1) n (faces (news_of rs))) (omega (arith, h.0)) (subst (λ k. Rises k (from + 1 + length rs) (faces (news_of rs))) (omega (arith, h.0)) (new_rises (from + 1) rs h.1)))

pub new_from : (from : ℕ) (rs : List Return) (r : Return) → NewIds from rs → In r rs → from ≤ r.new.id
new_from from [] r h i = absurd i
new_from from (x ∷ xs) r h (inl e) = let same = ap (λ (y : Return). y.new.id) e in omega (arith, same, h.0)
new_from from (x ∷ xs) r h (inr i) = let more = new_from (from + 1) xs r h.1 i in omega (arith, more)

-- an older one comes back under a lesser id
pub younger : (from : ℕ) (rs : List Return) (q r : Return) → OldsUp rs → NewIds from rs → In q rs → In r rs → q.old.id < r.old.id → q.new.id < r.new.id
younger from [] q r up h i j less = absurd i
younger from (x ∷ xs) q r up h (inl i) (inl j) less = let a = ap (λ (y : Return). y.old.id) i in let b = ap (λ (y : Return). y.old.id) j in absurd (omega (arith, less, a, b))
younger from (x ∷ xs) q r up h (inl i) (inr j) less = let a = ap (λ (y : Return). y.new.id) i in let above = new_from (from + 1) xs r h.1 j in omega (arith, a, h.0, above)
younger from (x ∷ xs) q r up h (inr i) (inl j) less = let above = all_at (λ (y : Return). x.old.id < y.old.id) xs q up.0 i in let b = ap (λ (y : Return). y.old.id) j in absurd (omega (arith, less, above, b))
younger from (x ∷ xs) q r up h (inr i) (inr j) less = younger (from + 1) xs q r up.1 h.1 i j less

-- ids that are given once are given to one
pub one_by_id : (from : ℕ) (rs : List Return) (q r : Return) → NewIds from rs → In q rs → In r rs → q.new.id ≡ r.new.id → q ≡ r
one_by_id from [] q r h i j e = absurd i
one_by_id from (x ∷ xs) q r h (inl i) (inl j) e = i ∙ sym j
one_by_id from (x ∷ xs) q r h (inl i) (inr j) e = let a = ap (λ (y : Return). y.new.id) i in let above = new_from (from + 1) xs r h.1 j in absurd (omega (arith, a, h.0, above, e))
one_by_id from (x ∷ xs) q r h (inr i) (inl j) e = let a = ap (λ (y : Return). y.new.id) j in let above = new_from (from + 1) xs q h.1 i in absurd (omega (arith, a, h.0, above, e))
one_by_id from (x ∷ xs) q r h (inr i) (inr j) e = one_by_id (from + 1) xs q r h.1 i j e

module _ (write : Touched) (now : ℕ) (pool : PoolState) (known : IsPool pool) (fits : IsWrite write now pool) where
  abbrev pub gone : List ℕ
  gone = touched write now pool

  abbrev pub before : List Face
  before = old_faces write now pool

  abbrev pub rs : List Return
  rs = returns_of write now gone pool

  pub back : AreBack write now pool rs
  back = are_back write now pool known fits

  abbrev pub left : List Face
  left = filter (stays gone) before

  abbrev pub after : List Face
  after = left ++ faces (news_of rs)

  pub is_back : (r : Return) → In r rs → IsBack write now pool rs r
  is_back r i = all_at (IsBack write now pool rs) rs r back.each i

  pub left_rises : Rises 1 pool.next left
  left_rises = rises_filter (stays gone) 1 pool.next before known.rising

  pub after_rises : Rises 1 (pool.next + length rs) after
  after_rises = rises_append 1 pool.next (pool.next + length rs) left (faces (news_of rs)) left_rises (new_rises pool.next rs back.news)

  pub entry_below : (e : PoolEntry) → In e pool.entries → (1 ≤ e.id) × (e.id < pool.next)
  entry_below e i = all_at (λ (f : Face). (1 ≤ f.id) × (f.id < pool.next)) before (face_of e) (ids_below 1 pool.next before known.rising) (in_map face_of pool.entries e i)

  pub rooted_entry : (e : PoolEntry) → In e pool.entries → IsRooted before (face_of e)
  rooted_entry = entry_rooted pool.options.budget pool known

  -- ## Values

  new_found : (q : Return) → In q rs → value_in after q.new.id ≡ Some q.new.value
  new_found q i = value_of_in 1 (pool.next + length rs) after (face_of q.new) after_rises
      (in_second left (faces (news_of rs)) (face_of q.new) (in_map face_of (news_of rs) q.new (in_map (λ (r : Return). r.new) rs q i)))

  old_found : (q : Return) → In q rs → value_in before q.old.id ≡ Some q.old.value
  old_found q i = value_of_in 1 pool.next before (face_of q.old) known.rising (in_map face_of pool.entries q.old (is_back q i).here)

  same_found : (n : ℕ) (v : Pairs) → is_one_of gone n ≡ false → value_in before n ≡ Some v → value_in after n ≡ Some v
  same_found n v out is =
      let at : value_in left n ≡ Some v = value_stays gone before n out ∙ is in
      value_append left (faces (news_of rs)) n (subst (λ o. IsSome o) (sym at) refl) ∙ at

  old_args : (xs ys : List KeyArg) (ss : List Source) → IsArgs write now pool rs xs ys ss → map (arg_value before) xs ≡ map old_value ss
  old_args [] [] [] h = refl
  old_args (Const c ∷ xs) (Const d ∷ ys) (Plain e ∷ ss) h = ap (λ c. One c ∷ map (arg_value before) xs) h.0.1 ∙ ap (λ vs. One e ∷ vs) (old_args xs ys ss h.1)
  old_args (Id n ∷ xs) (Id m ∷ ys) (Same v ∷ ss) h = ap (λ o. Bat (unwrap_or o []) ∷ map (arg_value before) xs) h.0.2 ∙ ap (λ vs. Bat v ∷ vs) (old_args xs ys ss h.1)
  old_args (Id n ∷ xs) (Id m ∷ ys) (Grown q ∷ ss) h =
      ap (λ o. Bat (unwrap_or o []) ∷ map (arg_value before) xs) (ap (value_in before) (sym h.0.1) ∙ old_found q h.0.0) ∙ ap (λ vs. Bat q.old.value ∷ vs) (old_args xs ys ss h.1)
  old_args (x ∷ xs) (y ∷ ys) (s ∷ ss) h = absurd h.0
  old_args _ _ _ h = absurd h

  new_args : (xs ys : List KeyArg) (ss : List Source) → IsArgs write now pool rs xs ys ss → map (arg_value after) ys ≡ map new_value ss
  new_args [] [] [] h = refl
  new_args (Const c ∷ xs) (Const d ∷ ys) (Plain e ∷ ss) h = ap (λ c. One c ∷ map (arg_value after) ys) (sym h.0.0 ∙ h.0.1) ∙ ap (λ vs. One e ∷ vs) (new_args xs ys ss h.1)
  new_args (Id n ∷ xs) (Id m ∷ ys) (Same v ∷ ss) h =
      ap (λ o. Bat (unwrap_or o []) ∷ map (arg_value after) ys) (ap (value_in after) (sym h.0.0) ∙ same_found n v h.0.1 h.0.2) ∙ ap (λ vs. Bat v ∷ vs) (new_args xs ys ss h.1)
  new_args (Id n ∷ xs) (Id m ∷ ys) (Grown q ∷ ss) h =
      ap (λ o. Bat (unwrap_or o []) ∷ map (arg_value after) ys) (ap (value_in after) (sym h.0.2) ∙ new_found q h.0.0) ∙ ap (λ vs. Bat q.new.value ∷ vs) (new_args xs ys ss h.1)
  new_args (x ∷ xs) (y ∷ ys) (s ∷ ss) h = absurd h.0
  new_args _ _ _ h = absurd h

  has_grown : (q : Return) → In q rs → HasGrown write.old_rows q
  has_grown q i = record { value = (is_back q i).value; rows = λ bind. ((is_back q i).binds bind).1; short = fits.short q (contains_from_in rs q i) }

  are_grown : (xs ys : List KeyArg) (ss : List Source) → IsArgs write now pool rs xs ys ss → AllByRecursion (IsGrown write.old_rows) ss
  are_grown [] [] [] h = tt
  are_grown (Const c ∷ xs) (Const d ∷ ys) (Plain e ∷ ss) h = (tt, are_grown xs ys ss h.1)
  are_grown (Id n ∷ xs) (Id m ∷ ys) (Same v ∷ ss) h = (tt, are_grown xs ys ss h.1)
  are_grown (Id n ∷ xs) (Id m ∷ ys) (Grown q ∷ ss) h = (has_grown q h.0.0, are_grown xs ys ss h.1)
  are_grown (x ∷ xs) (y ∷ ys) (s ∷ ss) h = absurd h.0
  are_grown _ _ _ h = absurd h

  -- ## Parents

  as_many : (xs ys : List KeyArg) (ss : List Source) → IsArgs write now pool rs xs ys ss → length (filter_map id_in ys) ≡ length (filter_map id_in xs)
  as_many [] [] [] h = refl
  as_many (Const c ∷ xs) (Const d ∷ ys) (Plain e ∷ ss) h = as_many xs ys ss h.1
  as_many (Id n ∷ xs) (Id m ∷ ys) (Same v ∷ ss) h = ap suc (as_many xs ys ss h.1)
  as_many (Id n ∷ xs) (Id m ∷ ys) (Grown q ∷ ss) h = ap suc (as_many xs ys ss h.1)
  as_many (x ∷ xs) (y ∷ ys) (s ∷ ss) h = absurd h.0
  as_many _ _ _ h = absurd h

  module _ (r : Return) (i : In r rs) where
    new_parents : (xs ys : List KeyArg) (ss : List Source) → IsArgs write now pool rs xs ys ss → AllByRecursion (IsParentIn before r.old.id) (filter_map id_in xs) → AllByRecursion (IsParentIn after r.new.id) (filter_map id_in ys)
    new_parents [] [] [] h k = tt
    new_parents (Const c ∷ xs) (Const d ∷ ys) (Plain e ∷ ss) h k = new_parents xs ys ss h.1 k
    new_parents (Id n ∷ xs) (Id m ∷ ys) (Same v ∷ ss) h k =
        let low = entry_below r.old (is_back r i).here in
        let fresh = new_from pool.next rs r back.news i in
        ((omega (arith, k.0.0, h.0.0), omega (arith, k.0.1, h.0.0, low.1, fresh), subst (λ o. IsSome o) (sym (ap (value_in after) (sym h.0.0) ∙ same_found n v h.0.1 h.0.2)) refl), new_parents xs ys ss h.1 k.1)
    new_parents (Id n ∷ xs) (Id m ∷ ys) (Grown q ∷ ss) h k =
        let older : q.old.id < r.old.id = omega (arith, k.0.1, h.0.1) in
        let less = younger pool.next rs q r back.olds back.news h.0.0 i older in
        let fresh = new_from pool.next rs q back.news h.0.0 in
        let low = entry_below r.old (is_back r i).here in
        ((omega (arith, h.0.2, fresh, low.1), omega (arith, less, h.0.2), subst (λ o. IsSome o) (sym (ap (value_in after) (sym h.0.2) ∙ new_found q h.0.0)) refl), new_parents xs ys ss h.1 k.1)
    new_parents (x ∷ xs) (y ∷ ys) (s ∷ ss) h k = absurd h.0
    new_parents _ _ _ h k = absurd h

    pub bind_same : is_bind r.new.key ≡ is_bind r.old.key
    bind_same = ap (λ o. is_bind (record { op = o; args = []; version = 0 })) (is_back r i).op

    new_rooted : IsRooted after (face_of r.new)
    new_rooted = go (is_bind r.old.key) refl
      where
        go : (b : Bool) → is_bind r.old.key ≡ b → IsRooted after (face_of r.new)
        go true bind =
            let none : parents_of r.new.key ≡ [] = ap (filter_map id_in) ((is_back r i).binds bind).0 ∙ (rooted_entry r.old (is_back r i).here).sole bind in record {
              few = subst (λ (ids : List ℕ). length ids ≤ 2) (sym none) (omega arith);
              sole = λ _. none;
              parents = subst (AllByRecursion (IsParentIn after r.new.id)) (sym none) tt;
              computed = λ plain. let wrong : true ≡ false = sym bind ∙ sym bind_same ∙ plain in cc;
              told = (is_back r i).told;
            }
        go false plain =
            let rooted = rooted_entry r.old (is_back r i).here in
            let h = (is_back r i).others plain in
            let old : operate r.old.key.op (map old_value h.0) ≡ Some (Bat r.old.value) = ap (operate r.old.key.op) (sym (old_args r.old.key.args r.new.key.args h.0 h.1)) ∙ rooted.computed plain in
            let new : operate r.old.key.op (map new_value h.0) ≡ Some (Bat (r.old.value ++ r.delta)) = growths_serve write.old_rows r.old.key.op h.0 r.old.value r.delta (are_grown r.old.key.args r.new.key.args h.0 h.1) old h.2 in
            let many = as_many r.old.key.args r.new.key.args h.0 h.1 in record {
              few = omega (arith, many, rooted.few);
              sole = λ bind. let wrong : true ≡ false = sym bind ∙ bind_same ∙ plain in cc;
              parents = new_parents r.old.key.args r.new.key.args h.0 h.1 rooted.parents;
              computed = λ _. ap (λ o. operate o (map (arg_value after) r.new.key.args)) (is_back r i).op ∙ ap (operate r.old.key.op) (new_args r.old.key.args r.new.key.args h.0 h.1) ∙ new ∙ ap (λ v. Some (Bat v)) (sym (is_back r i).value);
              told = (is_back r i).told;
            }

  pub after_rooted : AllByRecursion (IsRooted after) after
  after_rooted = all_append (IsRooted after) left (faces (news_of rs))
      (all_on (IsRooted left) (IsRooted after) left (λ f _ k. rooted_on left after f (λ id i. value_append left (faces (news_of rs)) id (all_at (IsParentIn left f.id) (parents_of f.key) id k.parents i).2) k)
      (rooted_left gone before (touched_closed write.table write.columns pool.options.budget pool known) known.rooted))
      (all_from (IsRooted after) (faces (news_of rs)) (λ f i.
      let e = map_in face_of (news_of rs) f i in
      let r = map_in (λ (r : Return). r.new) rs e.0 e.1 in
      subst (IsRooted after) (ap face_of (sym r.2) ∙ sym e.2) (new_rooted r.0 r.1)))
