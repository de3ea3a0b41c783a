-- What is known of the entries that come back in a write, one after the other.
use Rattle.std.proofs.Common.{◌≡◌, ℕ, ◌+◌, ◌<◌, List, [], ◌∷◌, ◌++◌, true, false, Option, Some, None, inl, inr, refl, ap, sym, ◌∙◌, subst, arith, length, map, drop}
use Rattle.std.specs.Prelude.{◌==◌, if◌then◌else◌, fold}
use Rattle.std.specs.List.{AllByRecursion, find, filter_map}
use Rattle.std.specs.Option.{option_and_then, option_map, option_map_or}
use Rattle.std.specs.Str.{bytes_eq}
use Rattle.std.proofs.lemmas.Bool.Decides.{Decides-eqb}
use Rattle.cell_core.specs.Calc.{all_or_none}
use Rattle.cell_core.specs.Pairs.{Pairs}
use Rattle.lineage_key.specs.declared.key.KeyArg.{KeyArg}
use Rattle.lineage_key.specs.declared.key.KeyArg.TheVariants.{Const, Id}
use Rattle.lineage_key.specs.Parents.{id_in, is_bind, column_of}
use Rattle.evict_admit.specs.Runs.{is_one_of}
use Rattle.subsume.proofs.Members.{In, contains_from_in}
use Rattle.reuse_laws.specs.Grown.{AreFrom}
use Rattle.pool_policy.specs.declared.entry.PoolEntry.{PoolEntry}
use Rattle.pool_policy.specs.declared.touched.Touched.{Touched}
use Rattle.pool_policy.specs.Pool.{PoolState}
use Rattle.pool_policy.specs.Keyed.{entry_of_id}
use Rattle.pool_policy.specs.Admits.{is_held, stated_bytes}
use Rattle.pool_policy.specs.Writes.{touched_ids, Return, return_of, Source, source_of, of_rows, grows, delta_of, delta_work, renamed_arg, returned, growth_of, and_returned, come_back, returns_of}
use Rattle.pool_policy.specs.Writes.Source.{Plain, Same, Grown}
use Rattle.pool_policy.specs.Writes.Growth.{NewRows, NoForm}
use Rattle.pool_policy.specs.Keeps.{Face, faces, Rises, value_in, IsPool}
use Rattle.pool_policy.specs.WriteLaws.{IsWrite}
use Rattle.pool_policy.proofs.Lists.{all_on, all_snoc, all_at}
use Rattle.pool_policy.proofs.Faces.{value_by_id, entry_rooted}
use Rattle.pool_policy.proofs.Ends.{found_in, in_first}

-- the ids of the old entries rise, and those of the new ones are counted
abbrev pub OldsUp : List Return → Type 0
OldsUp [] = Unit {0}
OldsUp (r ∷ rs) = AllByRecursion (λ (q : Return). r.old.id < q.old.id) rs × OldsUp rs

abbrev pub NewIds : ℕ → List Return → Type 0
NewIds from [] = Unit {0}
NewIds from (r ∷ rs) = (r.new.id ≡ from) × NewIds (from + 1) rs

olds_snoc : (rs : List Return) (r : Return) → AllByRecursion (λ (q : Return). q.old.id < r.old.id) rs → OldsUp rs → OldsUp (rs ++ r ∷ [])
olds_snoc [] r low up = (tt, tt)
olds_snoc (x ∷ xs) r low up = (all_snoc (λ (q : Return). x.old.id < q.old.id) xs r up.0 low.0, olds_snoc xs r low.1 up.1)

news_snoc : (from : ℕ) (rs : List Return) (r : Return) → r.new.id ≡ from + length rs → NewIds from rs → NewIds from (rs ++ r ∷ [])
news_snoc from [] r is known = (omega (arith, is), tt)
news_snoc from (x ∷ xs) r is known = (known.0, news_snoc (from + 1) xs r (omega (arith, is)) known.1)

module _ (write : Touched) (now : ℕ) (pool : PoolState) where
  abbrev pub touched : List ℕ
  touched = touched_ids write.table write.columns pool.entries

  abbrev pub old_faces : List Face
  old_faces = faces pool.entries

  -- an argument before, the one after, and its source
  abbrev pub IsArg : List Return → KeyArg → KeyArg → Source → Type 0
  IsArg rs (Const c) (Const d) (Plain e) = (c ≡ d) × (c ≡ e)
  IsArg rs (Id n) (Id m) (Same v) = (n ≡ m) × (is_one_of touched n ≡ false) × (value_in old_faces n ≡ Some v)
  IsArg rs (Id n) (Id m) (Grown q) = In q rs × (q.old.id ≡ n) × (q.new.id ≡ m) × (is_one_of touched n ≡ true)
  IsArg rs _ _ _ = ⊥

  abbrev pub IsArgs : List Return → List KeyArg → List KeyArg → List Source → Type 0
  IsArgs rs [] [] [] = Unit {0}
  IsArgs rs (x ∷ xs) (y ∷ ys) (s ∷ ss) = IsArg rs x y s × IsArgs rs xs ys ss
  IsArgs rs _ _ _ = ⊥

  pub record IsBack (rs : List Return) (r : Return) : Type 0 where
    pub here : In r.old pool.entries
    pub touches : is_one_of touched r.old.id ≡ true
    pub value : r.new.value ≡ r.old.value ++ r.delta
    pub told : r.new.bytes ≡ stated_bytes r.new.key r.new.value
    pub op : r.new.key.op ≡ r.old.key.op
    pub version : r.new.key.version ≡ (if is_bind r.old.key then now else r.old.key.version)
    pub stats : r.new.stats ≡ r.old.stats
    pub shape : r.new.shape ≡ r.old.shape
    pub paid : r.new.is_paid ≡ r.old.is_paid
    pub free : is_held r.new ≡ false
    pub added : (columns : List (List ℕ × Pairs)) × (write.added ≡ Some columns)
    pub rows : is_bind r.old.key ≡ true → (columns : List (List ℕ × Pairs)) × (column : List ℕ × Pairs) × (write.added ≡ Some columns) × In column columns × (bytes_eq column.0 (column_of r.old.key) ≡ true) × (r.delta ≡ drop write.old_rows column.1)
    pub binds : is_bind r.old.key ≡ true → (r.new.key.args ≡ r.old.key.args) × AreFrom write.old_rows r.delta
    pub others : is_bind r.old.key ≡ false → (sources : List Source) × IsArgs rs r.old.key.args r.new.key.args sources × (delta_of r.old.key.op (grows write.old_rows r.old.key.op sources) ≡ Some r.delta)

  pub record AreBack (rs : List Return) : Type 0 where
    pub each : AllByRecursion (IsBack rs) rs
    pub olds : OldsUp rs
    pub news : NewIds pool.next rs

  arg_more : (rs : List Return) (r : Return) (x y : KeyArg) (s : Source) → IsArg rs x y s → IsArg (rs ++ r ∷ []) x y s
  arg_more rs r (Const c) (Const d) (Plain e) h = h
  arg_more rs r (Id n) (Id m) (Same v) h = h
  arg_more rs r (Id n) (Id m) (Grown q) h = (in_first rs (r ∷ []) q h.0, h.1, h.2, h.3)
  arg_more rs r (Const c) (Const d) (Same v) h = absurd h
  arg_more rs r (Const c) (Const d) (Grown q) h = absurd h
  arg_more rs r (Const c) (Id m) s h = absurd h
  arg_more rs r (Id n) (Const d) s h = absurd h
  arg_more rs r (Id n) (Id m) (Plain e) h = absurd h

  args_more : (rs : List Return) (r : Return) (xs ys : List KeyArg) (ss : List Source) → IsArgs rs xs ys ss → IsArgs (rs ++ r ∷ []) xs ys ss
  args_more rs r [] [] [] h = tt
  args_more rs r (x ∷ xs) (y ∷ ys) (s ∷ ss) h = (arg_more rs r x y s h.0, args_more rs r xs ys ss h.1)
  args_more rs r [] [] (s ∷ ss) h = absurd h
  args_more rs r [] (y ∷ ys) ss h = absurd h
  args_more rs r (x ∷ xs) [] ss h = absurd h
  args_more rs r (x ∷ xs) (y ∷ ys) [] h = absurd h

  back_more : (rs : List Return) (r q : Return) → IsBack rs q → IsBack (rs ++ r ∷ []) q
  back_more rs r q k = record {
    here = k.here;
    touches = k.touches;
    value = k.value;
    told = k.told;
    op = k.op;
    version = k.version;
    stats = k.stats;
    shape = k.shape;
    paid = k.paid;
    free = k.free;
    added = k.added;
    rows = k.rows;
    binds = k.binds;
    others = λ plain. let h = k.others plain in (h.0, args_more rs r q.old.key.args q.new.key.args h.0 h.1, h.2);
  }

  -- the arguments of a key that comes back
  args_are : (rs : List Return) → AllByRecursion (λ (q : Return). is_one_of touched q.old.id ≡ true) rs → (args : List KeyArg) (ss : List Source) → all_or_none (map (source_of touched pool.entries rs) args) ≡ Some ss → IsArgs rs args (map (renamed_arg rs) args) ss
  args_are rs back [] ss e = let none : [] ≡ ss = cc in subst (λ ss. IsArgs rs [] [] ss) none tt
  args_are rs back (a ∷ args) ss e = go a (source_of touched pool.entries rs a) refl e (λ rest told. args_are rs back args rest told)
    where
      one : (a : KeyArg) (s : Source) → source_of touched pool.entries rs a ≡ Some s → IsArg rs a (renamed_arg rs a) s
      one (Const c) s e = let same : Plain c ≡ s = cc in subst (λ s. IsArg rs (Const c) (Const c) s) same (refl, refl)
      one (Id n) s e = elim (is_one_of touched n) as (λ b. is_one_of touched n ≡ b → (if b then option_map Grown (return_of rs n) else option_map (λ (x : PoolEntry). Same x.value) (entry_of_id n pool.entries)) ≡ Some s → IsArg rs (Id n) (renamed_arg rs (Id n)) s) [
        | true ↦ λ is h. came is (return_of rs n) refl h
        | false ↦ λ is h. stayed is (entry_of_id n pool.entries) refl h
      ] refl e
        where
          came : is_one_of touched n ≡ true → (o : Option Return) → return_of rs n ≡ o → option_map Grown o ≡ Some s → IsArg rs (Id n) (renamed_arg rs (Id n)) s
          came is None at h = cc
          came is (Some q) at h =
              let found = found_in (λ (q : Return). q.old.id == n) rs q at in
              let old : q.old.id ≡ n = (Decides-eqb q.old.id n).0 found.1 in
              let same : Grown q ≡ s = cc in
              subst (λ s. IsArg rs (Id n) (renamed_arg rs (Id n)) s) same (found.0, old, ap (λ o. option_map_or (λ (r : Return). r.new.id) o n) (sym at), is)

          stayed : is_one_of touched n ≡ false → (o : Option PoolEntry) → entry_of_id n pool.entries ≡ o → option_map (λ (x : PoolEntry). Same x.value) o ≡ Some s → IsArg rs (Id n) (renamed_arg rs (Id n)) s
          stayed is None at h = cc
          stayed is (Some x) at h =
              let same : Same x.value ≡ s = cc in
              subst (λ s. IsArg rs (Id n) (renamed_arg rs (Id n)) s) same (kept (return_of rs n) refl, is, value_by_id pool.entries n ∙ ap (option_map (λ (e : PoolEntry). e.value)) at)
            where
              kept : (o : Option Return) → return_of rs n ≡ o → n ≡ option_map_or (λ (r : Return). r.new.id) o n
              kept None at = refl
              kept (Some q) at =
                  let found = found_in (λ (q : Return). q.old.id == n) rs q at in
                  let touches = all_at (λ (q : Return). is_one_of touched q.old.id ≡ true) rs q back found.0 in
                  let wrong : true ≡ false = sym touches ∙ ap (is_one_of touched) ((Decides-eqb q.old.id n).0 found.1) ∙ is in cc

      go : (a : KeyArg) (o : Option Source) → source_of touched pool.entries rs a ≡ o → option_and_then (λ s. option_map (λ rest. s ∷ rest) (all_or_none (map (source_of touched pool.entries rs) args))) o ≡ Some ss
          → ((rest : List Source) → all_or_none (map (source_of touched pool.entries rs) args) ≡ Some rest → IsArgs rs args (map (renamed_arg rs) args) rest) → IsArgs rs (a ∷ args) (renamed_arg rs a ∷ map (renamed_arg rs) args) ss
      go a None at h later = cc
      go a (Some s) at h later = both (all_or_none (map (source_of touched pool.entries rs) args)) refl h
        where
          both : (o : Option (List Source)) → all_or_none (map (source_of touched pool.entries rs) args) ≡ o → option_map (λ rest. s ∷ rest) o ≡ Some ss → IsArgs rs (a ∷ args) (renamed_arg rs a ∷ map (renamed_arg rs) args) ss
          both None told h = cc
          both (Some rest) told h = let same : s ∷ rest ≡ ss = cc in subst (λ ss. IsArgs rs (a ∷ args) (renamed_arg rs a ∷ map (renamed_arg rs) args) ss) same (one a s at, later rest told)

  -- a key without parents is as it was
  same_args : (rs : List Return) (args : List KeyArg) → filter_map id_in args ≡ [] → map (renamed_arg rs) args ≡ args
  same_args rs [] e = refl
  same_args rs (Const c ∷ args) e = ap (λ xs. Const c ∷ xs) (same_args rs args e)
  same_args rs (Id n ∷ args) e = cc

  module _ (known : IsPool pool) (fits : IsWrite write now pool) where
    -- what a growth of a bind shows
    grown_rows : (e : PoolEntry) (o : Option (List (List ℕ × Pairs))) → write.added ≡ o → (rs : List Return) (d : Pairs) → is_bind e.key ≡ true
        → delta_of e.key.op (option_map_or (λ added. if is_bind e.key then of_rows write.old_rows (column_of e.key) added else option_map_or (grows write.old_rows e.key.op) (all_or_none (map (source_of touched pool.entries rs) e.key.args)) NoForm) o NoForm) ≡ Some d
        → (columns : List (List ℕ × Pairs)) × (column : List ℕ × Pairs) × (write.added ≡ Some columns) × In column columns × (bytes_eq column.0 (column_of e.key) ≡ true) × (d ≡ drop write.old_rows column.1)
    grown_rows e None at rs d bind h = cc
    grown_rows e (Some added) at rs d bind h = go (find (λ (c : List ℕ × Pairs). bytes_eq c.0 (column_of e.key)) added) refl
        (subst (λ b. delta_of e.key.op (if b then of_rows write.old_rows (column_of e.key) added else option_map_or (grows write.old_rows e.key.op) (all_or_none (map (source_of touched pool.entries rs) e.key.args)) NoForm) ≡ Some d) bind h)
      where
        go : (o : Option (List ℕ × Pairs)) → find (λ (c : List ℕ × Pairs). bytes_eq c.0 (column_of e.key)) added ≡ o → delta_of e.key.op (option_map_or (λ (c : List ℕ × Pairs). NewRows (drop write.old_rows c.1)) o NoForm) ≡ Some d
            → (columns : List (List ℕ × Pairs)) × (column : List ℕ × Pairs) × (write.added ≡ Some columns) × In column columns × (bytes_eq column.0 (column_of e.key) ≡ true) × (d ≡ drop write.old_rows column.1)
        go None is h = cc
        go (Some c) is h =
            let found = found_in (λ (c : List ℕ × Pairs). bytes_eq c.0 (column_of e.key)) added c is in
            let same : drop write.old_rows c.1 ≡ d = cc in (added, c, at, found.0, found.1, sym same)

    grown_added : (e : PoolEntry) (o : Option (List (List ℕ × Pairs))) → write.added ≡ o → (rs : List Return) (d : Pairs)
        → delta_of e.key.op (option_map_or (λ added. if is_bind e.key then of_rows write.old_rows (column_of e.key) added else option_map_or (grows write.old_rows e.key.op) (all_or_none (map (source_of touched pool.entries rs) e.key.args)) NoForm) o NoForm) ≡ Some d
        → (columns : List (List ℕ × Pairs)) × (write.added ≡ Some columns)
    grown_added e None at rs d h = cc
    grown_added e (Some added) at rs d h = (added, at)

    grown_other : (e : PoolEntry) (o : Option (List (List ℕ × Pairs))) (rs : List Return) (d : Pairs) → AllByRecursion (λ (q : Return). is_one_of touched q.old.id ≡ true) rs → is_bind e.key ≡ false
        → delta_of e.key.op (option_map_or (λ added. if is_bind e.key then of_rows write.old_rows (column_of e.key) added else option_map_or (grows write.old_rows e.key.op) (all_or_none (map (source_of touched pool.entries rs) e.key.args)) NoForm) o NoForm) ≡ Some d
        → (sources : List Source) × IsArgs rs e.key.args (map (renamed_arg rs) e.key.args) sources × (delta_of e.key.op (grows write.old_rows e.key.op sources) ≡ Some d)
    grown_other e None rs d back plain h = cc
    grown_other e (Some added) rs d back plain h = go (all_or_none (map (source_of touched pool.entries rs) e.key.args)) refl
        (subst (λ b. delta_of e.key.op (if b then of_rows write.old_rows (column_of e.key) added else option_map_or (grows write.old_rows e.key.op) (all_or_none (map (source_of touched pool.entries rs) e.key.args)) NoForm) ≡ Some d) plain h)
      where
        go : (o : Option (List Source)) → all_or_none (map (source_of touched pool.entries rs) e.key.args) ≡ o → delta_of e.key.op (option_map_or (grows write.old_rows e.key.op) o NoForm) ≡ Some d
            → (sources : List Source) × IsArgs rs e.key.args (map (renamed_arg rs) e.key.args) sources × (delta_of e.key.op (grows write.old_rows e.key.op sources) ≡ Some d)
        go None is h = cc
        go (Some ss) is h = (ss, args_are rs back e.key.args ss is, h)

    -- one entry more
    abbrev StepsTo : List Return → PoolEntry → List Return → Type 0
    StepsTo rs e new = AreBack new × AllByRecursion (λ (q : Return). q.old.id < e.id + 1) new

    back_step : (rs : List Return) (e : PoolEntry) → In e pool.entries → AllByRecursion (λ (q : Return). q.old.id < e.id) rs → AreBack rs → StepsTo rs e (come_back write now pool.next touched pool.entries rs e)
    back_step rs e i low back = elim (is_one_of touched e.id) as (λ b. is_one_of touched e.id ≡ b → StepsTo rs e (if b then and_returned now pool.next rs e (growth_of write touched pool.entries rs e) else rs)) [
      | true ↦ λ is. comes is (delta_of e.key.op (growth_of write touched pool.entries rs e)) refl
      | false ↦ λ _. same
    ] refl
      where
        same : StepsTo rs e rs
        same = (back, all_on (λ (q : Return). q.old.id < e.id) (λ (q : Return). q.old.id < e.id + 1) rs (λ q _ h. omega (arith, h)) low)

        comes : is_one_of touched e.id ≡ true → (o : Option Pairs) → delta_of e.key.op (growth_of write touched pool.entries rs e) ≡ o
            → StepsTo rs e (option_map_or (λ delta. rs ++ record { old = e; new = returned now (pool.next + length rs) rs e delta; delta = delta; work = delta_work e.key.op (growth_of write touched pool.entries rs e) } ∷ []) o rs)
        comes is None at = same
        comes is (Some delta) at =
            let r : Return = record { old = e; new = returned now (pool.next + length rs) rs e delta; delta = delta; work = delta_work e.key.op (growth_of write touched pool.entries rs e) } in
            let mine : IsBack rs r = record {
              here = i;
              touches = is;
              value = refl;
              told = refl;
              op = refl;
              version = refl;
              stats = refl;
              shape = refl;
              paid = refl;
              free = refl;
              added = grown_added e write.added refl rs delta at;
              rows = λ bind. grown_rows e write.added refl rs delta bind at;
              binds = λ bind. (same_args rs e.key.args ((entry_rooted pool.options.budget pool known e i).sole bind), let h = grown_rows e write.added refl rs delta bind at in subst (AreFrom write.old_rows) (sym h.5) (fits.rows h.0 h.2 h.1 (contains_from_in h.0 h.1 h.3)));
              others = λ plain. grown_other e write.added rs delta (all_on (IsBack rs) (λ (q : Return). is_one_of touched q.old.id ≡ true) rs (λ q _ k. k.touches) back.each) plain at;
            } in (
              record {
                each = all_snoc (IsBack (rs ++ r ∷ [])) rs r (all_on (IsBack rs) (IsBack (rs ++ r ∷ [])) rs (λ q _ k. back_more rs r q k) back.each) (back_more rs r r mine);
                olds = olds_snoc rs r low back.olds;
                news = news_snoc pool.next rs r refl back.news;
              },
              all_snoc (λ (q : Return). q.old.id < e.id + 1) rs r same.1 (omega arith),
            )

    back_fold : (es : List PoolEntry) (from : ℕ) (rs : List Return) → Rises from pool.next (faces es) → ((e : PoolEntry) → In e es → In e pool.entries) → AllByRecursion (λ (q : Return). q.old.id < from) rs → AreBack rs
        → AreBack (fold (come_back write now pool.next touched pool.entries) rs es)
    back_fold [] from rs up inside low back = back
    back_fold (e ∷ es) from rs up inside low back =
        let step = back_step rs e (inside e (inl refl)) (all_on (λ (q : Return). q.old.id < from) (λ (q : Return). q.old.id < e.id) rs (λ q _ h. omega (arith, h, up.0)) low) back in
        back_fold es (e.id + 1) (come_back write now pool.next touched pool.entries rs e) up.1 (λ x j. inside x (inr j)) step.1 step.0

    -- all that comes back
    pub are_back : AreBack (returns_of write now touched pool)
    are_back = back_fold pool.entries 1 [] known.rising (λ e i. i) tt (record { each = tt; olds = tt; news = tt })
