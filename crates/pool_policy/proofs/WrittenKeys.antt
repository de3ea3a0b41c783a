-- After a write no two entries have one key.
use Rattle.std.proofs.Common.{◌≡◌, ℕ, ◌≤◌, ◌<◌, List, [], ◌∷◌, Bool, true, false, ◌&&◌, Some, ◌⊎◌, inl, inr, refl, ap, sym, ◌∙◌, subst, arith}
use Rattle.std.specs.Prelude.{if◌then◌else◌, IsSome}
use Rattle.std.specs.List.{filter_map, list_any}
use Rattle.std.specs.Str.{bytes_eq}
use Rattle.cell_core.specs.Pairs.{Pairs}
use Rattle.lineage_key.specs.declared.key.Key.{Key}
use Rattle.lineage_key.specs.declared.key.KeyArg.{KeyArg}
use Rattle.lineage_key.specs.declared.key.KeyArg.TheVariants.{Const, Id}
use Rattle.lineage_key.specs.Parents.{id_in, parents_of, is_bind, first_text, second_text, table_of, column_of}
use Rattle.lineage_key.specs.Same.{same_key}
use Rattle.evict_admit.specs.Runs.{is_one_of}
use Rattle.subsume.proofs.Members.{In, contains_from_in, filter_in, in_map, map_in}
use Rattle.pool_policy.specs.declared.entry.PoolEntry.{PoolEntry}
use Rattle.pool_policy.specs.declared.touched.Touched.{Touched}
use Rattle.pool_policy.specs.Pool.{PoolState}
use Rattle.pool_policy.specs.Writes.{binds_one, Return, Source}
use Rattle.pool_policy.specs.Writes.Source.{Plain, Same, Grown}
use Rattle.pool_policy.specs.Keeps.{Face, face_of, faces, HaveOwnKeys, value_in, IsParentIn, IsPool}
use Rattle.pool_policy.specs.WriteLaws.{IsWrite}
use Rattle.pool_policy.proofs.Lists.{all_at, among_in, in_among, unnot}
use Rattle.pool_policy.proofs.Faces.{value_found, ids_below, keys_filter}
use Rattle.pool_policy.proofs.Leaving.{stays}
use Rattle.pool_policy.proofs.Ends.{all_from}
use Rattle.pool_policy.proofs.Touches.{touched_why, binds_touched}
use Rattle.pool_policy.proofs.Returns.{OldsUp, IsArg, IsArgs, IsBack}
use Rattle.pool_policy.proofs.Written.{keys_append, keys_apart, differ_by, new_from, one_by_id, news_of, gone, rs, left, after, back, is_back, entry_below, rooted_entry, bind_same}

module _ (write : Touched) (now : ℕ) (pool : PoolState) (known : IsPool pool) (fits : IsWrite write now pool) where
  abbrev back_list : List Return
  back_list = rs write now pool known fits

  abbrev Args : List KeyArg → List KeyArg → List Source → Type 0
  Args = IsArgs write now pool back_list

  is_returned : (r : Return) → In r back_list → IsBack write now pool back_list r
  is_returned r i = is_back write now pool known fits r i

  -- a pooled id is below the next
  low_id : (n : ℕ) (v : Pairs) → value_in (faces pool.entries) n ≡ Some v → n < pool.next
  low_id n v is =
      let found = value_found (faces pool.entries) n (subst (λ o. IsSome o) (sym is) refl) in
      let range = all_at (λ (f : Face). (1 ≤ f.id) × (f.id < pool.next)) (faces pool.entries) found.0 (ids_below 1 pool.next (faces pool.entries) known.rising) found.1 in
      omega (arith, range.1, found.2)

  fresh_id : (q : Return) → In q back_list → pool.next ≤ q.new.id
  fresh_id q i = new_from pool.next back_list q (back write now pool known fits).news i

  -- one argument comes from one
  one_arg : (x x2 y y2 : KeyArg) (s s2 : Source) → y ≡ y2 → IsArg write now pool back_list x y s → IsArg write now pool back_list x2 y2 s2 → x ≡ x2
  one_arg (Const c) (Const c2) (Const d) (Const d2) (Plain e) (Plain e2) same h k = let is : d ≡ d2 = cc in ap Const (h.0 ∙ is ∙ sym k.0)
  one_arg (Id n) (Id n2) (Id m) (Id m2) (Same v) (Same v2) same h k = let is : m ≡ m2 = cc in ap Id (h.0 ∙ is ∙ sym k.0)
  one_arg (Id n) (Id n2) (Id m) (Id m2) (Same v) (Grown q) same h k =
      let is : m ≡ m2 = cc in let low = low_id n v h.2 in let fresh = fresh_id q k.0 in absurd (omega (arith, is, low, fresh, h.0, k.2))
  one_arg (Id n) (Id n2) (Id m) (Id m2) (Grown q) (Same v) same h k =
      let is : m ≡ m2 = cc in let low = low_id n2 v k.2 in let fresh = fresh_id q h.0 in absurd (omega (arith, is, low, fresh, h.2, k.0))
  one_arg (Id n) (Id n2) (Id m) (Id m2) (Grown q) (Grown q2) same h k =
      let is : m ≡ m2 = cc in
      let one = one_by_id pool.next back_list q q2 (back write now pool known fits).news h.0 k.0 (h.2 ∙ is ∙ sym k.2) in
      ap Id (sym h.1 ∙ ap (λ (r : Return). r.old.id) one ∙ k.1)
  one_arg (Const c) x2 (Const d) (Id m) (Plain e) s2 same h k = cc
  one_arg (Id n) x2 (Id m) (Const d) s s2 same h k = cc
  one_arg (Const c) (Id n) (Const d) (Const d2) (Plain e) s2 same h k = absurd k
  one_arg (Const c) (Const c2) (Const d) (Const d2) (Plain e) (Same v) same h k = absurd k
  one_arg (Const c) (Const c2) (Const d) (Const d2) (Plain e) (Grown q) same h k = absurd k
  one_arg (Id n) (Const c) (Id m) (Id m2) s s2 same h k = absurd k
  one_arg (Id n) (Id n2) (Id m) (Id m2) s (Plain e) same h k = absurd k
  one_arg _ _ _ _ _ _ same h k = absurd h

  first_same : (x y : KeyArg) (xs ys : List KeyArg) → x ∷ xs ≡ y ∷ ys → (x ≡ y) × (xs ≡ ys)
  first_same x y xs ys e = (cc, cc)

  one_list : (xs xs2 ys ys2 : List KeyArg) (ss ss2 : List Source) → ys ≡ ys2 → Args xs ys ss → Args xs2 ys2 ss2 → xs ≡ xs2
  one_list [] [] [] [] [] [] same h k = refl
  one_list (x ∷ xs) (x2 ∷ xs2) (y ∷ ys) (y2 ∷ ys2) (s ∷ ss) (s2 ∷ ss2) same h k =
      let parts = first_same y y2 ys ys2 same in
      ap (λ z. z ∷ xs) (one_arg x x2 y y2 s s2 parts.0 h.0 k.0) ∙ ap (λ zs. x2 ∷ zs) (one_list xs xs2 ys ys2 ss ss2 parts.1 h.1 k.1)
  one_list [] xs2 [] (y2 ∷ ys2) [] ss2 same h k = cc
  one_list (x ∷ xs) xs2 (y ∷ ys) [] (s ∷ ss) ss2 same h k = cc
  one_list [] (x2 ∷ xs2) [] [] [] ss2 same h k = absurd k
  one_list [] [] [] [] [] (s2 ∷ ss2) same h k = absurd k
  one_list (x ∷ xs) [] (y ∷ ys) (y2 ∷ ys2) (s ∷ ss) ss2 same h k = absurd k
  one_list (x ∷ xs) (x2 ∷ xs2) (y ∷ ys) (y2 ∷ ys2) (s ∷ ss) [] same h k = absurd k
  one_list _ _ _ _ _ _ same h k = absurd h

  -- a touched parent comes back under a fresh id
  fresh_parent : (xs ys : List KeyArg) (ss : List Source) → Args xs ys ss → (p : ℕ) → In p (filter_map id_in xs) → is_one_of (gone write now pool known fits) p ≡ true → (m : ℕ) × In m (filter_map id_in ys) × (pool.next ≤ m)
  fresh_parent [] [] [] h p i there = absurd i
  fresh_parent (Const c ∷ xs) (Const d ∷ ys) (Plain e ∷ ss) h p i there = fresh_parent xs ys ss h.1 p i there
  fresh_parent (Id n ∷ xs) (Id m ∷ ys) (Same v ∷ ss) h p (inl is) there = let wrong : true ≡ false = sym there ∙ ap (is_one_of (gone write now pool known fits)) is ∙ h.0.1 in cc
  fresh_parent (Id n ∷ xs) (Id m ∷ ys) (Same v ∷ ss) h p (inr i) there = let more = fresh_parent xs ys ss h.1 p i there in (more.0, inr more.1, more.2)
  fresh_parent (Id n ∷ xs) (Id m ∷ ys) (Grown q ∷ ss) h p (inl is) there = (m, inl refl, let fresh = fresh_id q h.0.0 in omega (arith, fresh, h.0.2))
  fresh_parent (Id n ∷ xs) (Id m ∷ ys) (Grown q ∷ ss) h p (inr i) there = let more = fresh_parent xs ys ss h.1 p i there in (more.0, inr more.1, more.2)
  fresh_parent (x ∷ xs) (y ∷ ys) (s ∷ ss) h p i there = absurd h.0
  fresh_parent _ _ _ h p i there = absurd h

  -- what is left has no key of what comes back
  apart_old : (e : PoolEntry) (r : Return) → In e pool.entries → is_one_of (gone write now pool known fits) e.id ≡ false → In r back_list → e.key ≡ r.new.key → ⊥
  apart_old e r i out j same = go (is_bind r.old.key) refl
    where
      told : IsBack write now pool back_list r
      told = is_returned r j

      -- it names a fresh id
      fresh_named : is_bind r.old.key ≡ false → (p : ℕ) → In p (parents_of r.old.key) → is_one_of (gone write now pool known fits) p ≡ true → ⊥
      fresh_named plain p k there =
          let h = told.others plain in
          let m = fresh_parent r.old.key.args r.new.key.args h.0 h.1 p k there in
          let parent = all_at (IsParentIn (faces pool.entries) e.id) (parents_of e.key) m.0 (rooted_entry write now pool known fits e i).parents (subst (λ (key : Key). In m.0 (parents_of key)) (sym same) m.1) in
          let low = entry_below write now pool known fits e i in
          omega (arith, parent.1, low.1, m.2)

      why : (binds_one write.table write.columns r.old.key ≡ true) ⊎ ((p : ℕ) × In p (parents_of r.old.key) × In p (gone write now pool known fits))
      why = touched_why write.table write.columns 1 pool.next pool.entries [] r.old known.rising (λ n k. absurd k) told.here (among_in (gone write now pool known fits) r.old.id told.touches)

      no_false : (b : Bool) → b ≡ true → b ≡ false → ⊥
      no_false b t f = let wrong : true ≡ false = sym t ∙ f in cc

      go : (b : Bool) → is_bind r.old.key ≡ b → ⊥
      go true bind = elim why [
        | inl one ↦
            let key_bind : is_bind e.key ≡ true = ap is_bind same ∙ bind_same write now pool known fits r j ∙ bind in
            let args : e.key.args ≡ r.old.key.args = ap (λ (key : Key). key.args) same ∙ (told.binds bind).0 in
            let mine : binds_one write.table write.columns e.key ≡ true = bound e.key r.old.key (key_bind ∙ sym bind) args ∙ one in
            no_false (is_one_of (gone write now pool known fits) e.id) (in_among (gone write now pool known fits) e.id (binds_touched write.table write.columns pool.entries [] e i mine)) out
        | inr h ↦ let none = (rooted_entry write now pool known fits r.old told.here).sole bind in subst (λ ids. In h.0 ids) none h.1
      ]
        where
          bound : (k l : Key) → is_bind k ≡ is_bind l → k.args ≡ l.args → binds_one write.table write.columns k ≡ binds_one write.table write.columns l
          bound k l b a =
              ap (λ c. c && bytes_eq (first_text k.args) write.table && list_any (bytes_eq (second_text k.args)) write.columns) b
              ∙ ap (λ xs. is_bind l && bytes_eq (first_text xs) write.table && list_any (bytes_eq (second_text xs)) write.columns) a
      go false plain = elim why [
        | inl one ↦ no_false (is_bind r.old.key) (first_of (is_bind r.old.key) one) plain
        | inr h ↦ fresh_named plain h.0 h.1 (in_among (gone write now pool known fits) h.0 h.2)
      ]
        where
          first_of : (b : Bool) → binds_one write.table write.columns r.old.key ≡ true → is_bind r.old.key ≡ true
          first_of b one = go_on (is_bind r.old.key) refl
            where
              go_on : (c : Bool) → is_bind r.old.key ≡ c → is_bind r.old.key ≡ true
              go_on true is = is
              go_on false is = let wrong : false ≡ true = sym (ap (λ b. b && bytes_eq (table_of r.old.key) write.table && list_any (bytes_eq (column_of r.old.key)) write.columns) is) ∙ one in cc

  -- nor have two of what comes back
  apart_new : (q r : Return) → In q back_list → In r back_list → q.old.id < r.old.id → q.new.key ≡ r.new.key → ⊥
  apart_new q r i j less same =
      let a = is_returned q i in
      let b = is_returned r j in
      let ops : q.old.key.op ≡ r.old.key.op = sym a.op ∙ ap (λ (k : Key). k.op) same ∙ b.op in
      let binds : is_bind q.old.key ≡ is_bind r.old.key = sym (bind_same write now pool known fits q i) ∙ ap is_bind same ∙ bind_same write now pool known fits r j in
      let one = keys_apart (faces pool.entries) (face_of q.old) (face_of r.old) known.own_keys (in_map face_of pool.entries q.old a.here) (in_map face_of pool.entries r.old b.here) (old_keys (is_bind q.old.key) refl a b ops binds) in
      omega (arith, one, less)
    where
      whole : (k l : Key) → k.op ≡ l.op → k.args ≡ l.args → k.version ≡ l.version → k ≡ l
      whole k l o a v = λ i. record { op = o i; args = a i; version = v i }

      old_keys : (c : Bool) → is_bind q.old.key ≡ c → IsBack write now pool back_list q → IsBack write now pool back_list r → q.old.key.op ≡ r.old.key.op → is_bind q.old.key ≡ is_bind r.old.key → q.old.key ≡ r.old.key
      old_keys true bind a b ops binds =
          let args : q.old.key.args ≡ r.old.key.args = sym (a.binds bind).0 ∙ ap (λ (k : Key). k.args) same ∙ (b.binds (sym binds ∙ bind)).0 in
          whole q.old.key r.old.key ops args (fits.one_version q.old r.old (contains_from_in pool.entries q.old a.here) (contains_from_in pool.entries r.old b.here) bind (sym binds ∙ bind) args)
      old_keys false plain a b ops binds =
          let h = a.others plain in
          let k = b.others (sym binds ∙ plain) in
          let args = one_list q.old.key.args r.old.key.args q.new.key.args r.new.key.args h.0 k.0 (ap (λ (k : Key). k.args) same) h.1 k.1 in
          let version_q : q.new.key.version ≡ q.old.key.version = a.version ∙ ap (λ c. if c then now else q.old.key.version) plain in
          let version_r : r.new.key.version ≡ r.old.key.version = b.version ∙ ap (λ c. if c then now else r.old.key.version) (sym binds ∙ plain) in
          whole q.old.key r.old.key ops args (sym version_q ∙ ap (λ (k : Key). k.version) same ∙ version_r)

  new_keys : (qs : List Return) → OldsUp qs → ((q : Return) → In q qs → In q back_list) → HaveOwnKeys (faces (news_of qs))
  new_keys [] up inside = tt
  new_keys (q ∷ qs) up inside = (
    all_from (λ (g : Face). same_key q.new.key g.key ≡ false) (faces (news_of qs)) (λ g i.
        let e = map_in face_of (news_of qs) g i in
        let r = map_in (λ (r : Return). r.new) qs e.0 e.1 in
        subst (λ (f : Face). same_key q.new.key f.key ≡ false) (ap face_of (sym r.2) ∙ sym e.2)
        (differ_by q.new.key r.0.new.key (apart_new q r.0 (inside q (inl refl)) (inside r.0 (inr r.1)) (all_at (λ (x : Return). q.old.id < x.old.id) qs r.0 up.0 r.1)))),
    new_keys qs up.1 (λ x i. inside x (inr i)),
  )

  pub after_keys : HaveOwnKeys (after write now pool known fits)
  after_keys = keys_append (left write now pool known fits) (faces (news_of back_list)) (keys_filter (stays (gone write now pool known fits)) (faces pool.entries) known.own_keys)
      (new_keys back_list (back write now pool known fits).olds (λ q i. i)) (λ f g i j.
      let there = filter_in (stays (gone write now pool known fits)) (faces pool.entries) f i in
      let e = map_in face_of pool.entries f there.0 in
      let n = map_in face_of (news_of back_list) g j in
      let r = map_in (λ (r : Return). r.new) back_list n.0 n.1 in
      let out : is_one_of (gone write now pool known fits) e.0.id ≡ false = ap (λ (x : Face). is_one_of (gone write now pool known fits) x.id) (sym e.2) ∙ unnot (is_one_of (gone write now pool known fits) f.id) there.1 in
      differ_by f.key g.key (λ same. apart_old e.0 r.0 e.1 out r.1 (ap (λ (x : Face). x.key) (sym e.2) ∙ same ∙ ap (λ (x : Face). x.key) n.2 ∙ ap (λ (x : PoolEntry). x.key) r.2)))
