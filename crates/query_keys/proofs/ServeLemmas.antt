-- What is found for a marked instruction serves it, and what is computed for it may be offered.
use Rattle.std.proofs.Common.{◌≡◌, ℕ, ◌<◌, List, map, length, Bool, true, false, Option, Some, refl, ap, sym, ◌∙◌, subst}
use Rattle.std.specs.Prelude.{Contains}
use Rattle.std.specs.List.{AllByRecursion}
use Rattle.std.proofs.lemmas.Option.{same_Some}
use Rattle.cell_core.specs.declared.operator.Instr.{Instr}
use Rattle.cell_core.specs.declared.operator.Value.{Value}
use Rattle.cell_core.specs.declared.operator.Value.TheVariants.{Bat}
use Rattle.cell_core.specs.Operators.{operate}
use Rattle.cell_core.specs.Pairs.{Pairs}
use Rattle.mal_meaning.specs.declared.plan.Plan.{Plan}
use Rattle.mal_meaning.specs.Meaning.{column_pairs, instr_value, plan_values}
use Rattle.mal_check.proofs.PointLemmas.{instrs_fit}
use Rattle.lineage_key.specs.declared.key.Key.{Key}
use Rattle.lineage_key.specs.Keys.{IsNumbered}
use Rattle.lineage_key.specs.Parents.{is_bind, parents_of, table_of, column_of}
use Rattle.subsume.proofs.Members.{In, in_map, in_from_contains, contains_from_in}
use Rattle.pool_policy.specs.declared.entry.PoolEntry.{PoolEntry}
use Rattle.pool_policy.specs.Keeps.{Face, face_of, faces, value_in, arg_value, IsParentIn, IsRooted}
use Rattle.pool_policy.specs.Looks.{look_of}
use Rattle.pool_policy.specs.Looks.Finding.{Exact}
use Rattle.pool_policy.specs.Versions.{IsCurrent}
use Rattle.pool_policy.specs.Columns.{IsColumn}
use Rattle.pool_policy.specs.Worths.{worth}
use Rattle.pool_policy.proofs.Faces.{value_of_in}
use Rattle.pool_policy.proofs.Given.{pooled_worths}
use Rattle.pool_policy.proofs.Lists.{all_at, all_on}
use Rattle.run_log.specs.Fold.{LogState}
use Rattle.run_log.specs.Laws.{columns_of}
use Rattle.query_keys.specs.Keys.{instr_key}
use Rattle.query_keys.specs.Laws.{IsMarkedAt, value_there}
use Rattle.query_keys.proofs.InstrLemmas.{numbered_args}
use Rattle.query_keys.proofs.MarkLemmas.{IsMarkedOne, marked_one}
use Rattle.query_keys.proofs.ArgLemmas.{bind_args}
use Rattle.query_keys.proofs.KeyLemmas.{IsBound, IsComputed, bound_by_key, computed_by_key, key_is_bind, key_version}
use Rattle.query_keys.proofs.LookLemmas.{exact_entry}

module _ (seen s : LogState) (plan : Plan) (ids : List ℕ) (instr : Instr) (m : IsMarkedAt seen s plan ids instr) where
  abbrev key : Key
  key = instr_key instr seen.versions ids

  abbrev values : List (Option Value)
  values = plan_values seen.db plan.instrs

  -- ## The instruction

  pub value_is : value_there seen plan ids ≡ Some (instr_value seen.db values instr)
  value_is = ((instrs_fit plan seen.db m.checked m.fits).2 (length ids) instr m.here).2.value

  pub marked_here : IsMarkedOne (instrs_fit plan seen.db m.checked m.fits).0 (length ids) instr
  marked_here = let known = instrs_fit plan seen.db m.checked m.fits in marked_one plan known.0 known.1 (length ids) instr m.here m.marked

  numbered : AllByRecursion (IsNumbered (length ids)) instr.args
  numbered = numbered_args (instrs_fit plan seen.db m.checked m.fits).0 (length ids) instr marked_here.has

  pub computed : is_bind key ≡ false → AllByRecursion (λ id. 0 < id) (parents_of key) → IsComputed seen.db values s.given instr key
  computed plain above = computed_by_key seen.db values s.given instr seen.versions ids m.ids_of numbered plain above

  pub bound : is_bind key ≡ true → IsBound seen.db values s.given instr seen.versions ids
  bound bind =
      let is = key_is_bind instr seen.versions ids bind in
      bound_by_key seen.db values s.given instr seen.versions ids is (bind_args (instrs_fit plan seen.db m.checked m.fits).0 (length ids) instr marked_here is)

  -- a bind whose version is the present one has its column as it was
  pub column_kept : is_bind key ≡ true → key.version ≡ s.versions (table_of key) (column_of key) → column_pairs (table_of key) (column_of key) s.db ≡ column_pairs (table_of key) (column_of key) seen.db
  column_kept bind present = m.remembers (table_of key) (column_of key) (sym present ∙ key_version instr seen.versions ids bind)

  -- ## Entries of its key

  abbrev pub IsOf : PoolEntry → Type 0
  IsOf e = In e s.pool.entries × (e.key ≡ key)

  -- an entry of its key has its value
  pub entry_serves : (e : PoolEntry) → IsOf e → value_there seen plan ids ≡ Some (Some (Bat e.value))
  entry_serves e of = go (is_bind key) refl
    where
      here : Contains (faces s.pool.entries) (face_of e)
      here = contains_from_in (faces s.pool.entries) (face_of e) (in_map face_of s.pool.entries e of.0)

      rooted : IsRooted s.given (face_of e)
      rooted = all_at (IsRooted s.given) s.given (face_of e) m.sound.given.rooted (in_from_contains s.given (face_of e) (m.sound.given.pooled (face_of e) here))

      above : AllByRecursion (λ id. 0 < id) (parents_of key)
      above = subst (λ (k : Key). AllByRecursion (λ id. 0 < id) (parents_of k)) of.1 (all_on (IsParentIn s.given e.id) (λ id. 0 < id) (parents_of e.key) (λ id i p. p.0) rooted.parents)

      go : (b : Bool) → is_bind key ≡ b → value_there seen plan ids ≡ Some (Some (Bat e.value))
      go false plain =
          value_is ∙ ap Some ((computed plain above).value
          ∙ sym (ap (λ (k : Key). operate k.op (map (arg_value s.given) k.args)) of.1) ∙ rooted.computed (ap is_bind of.1 ∙ plain))
      go true bind =
          let same = ap is_bind of.1 ∙ bind in
          let current = all_at (λ (f : Face). IsCurrent s.versions f.key) (faces s.pool.entries) (face_of e) m.sound.versions (in_from_contains (faces s.pool.entries) (face_of e) here) same in
          let column = all_at (λ (f : Face). IsColumn (columns_of s.db) f.key f.value) (faces s.pool.entries) (face_of e) m.sound.columns (in_from_contains (faces s.pool.entries) (face_of e) here) same in
          let present : key.version ≡ s.versions (table_of key) (column_of key) = sym (ap (λ (k : Key). k.version) of.1) ∙ current ∙ ap (λ (k : Key). s.versions (table_of k) (column_of k)) of.1 in
          let value : e.value ≡ column_pairs (table_of key) (column_of key) seen.db = column ∙ ap (λ (k : Key). column_pairs (table_of k) (column_of k) s.db) of.1 ∙ column_kept bind present in
          value_is ∙ ap Some ((bound bind).value ∙ ap (λ b. Some (Bat b)) (sym value))

  -- and that is what its id is worth
  pub entry_worth : (e : PoolEntry) → IsOf e → worth s.given e.id ≡ Some e.value
  entry_worth e of = pooled_worths s.given s.pool m.sound.given (face_of e) (contains_from_in (faces s.pool.entries) (face_of e) (in_map face_of s.pool.entries e of.0))

  pub exact_serves : (id : ℕ) (pairs : Pairs) → look_of s.pool key ≡ Exact id → value_in (faces s.pool.entries) id ≡ Some pairs → (value_there seen plan ids ≡ Some (Some (Bat pairs))) × (worth s.given id ≡ Some pairs)
  exact_serves id pairs found value =
      let e = exact_entry s.pool key id found in
      let own : value_in (faces s.pool.entries) e.0.id ≡ Some e.0.value = value_of_in 1 s.pool.next (faces s.pool.entries) (face_of e.0) m.sound.pool.rising (in_map face_of s.pool.entries e.0 e.1) in
      let same : e.0.value ≡ pairs = same_Some e.0.value pairs (sym own ∙ ap (value_in (faces s.pool.entries)) e.3 ∙ value) in
      (entry_serves e.0 (e.1, e.2) ∙ ap (λ b. Some (Some (Bat b))) same, ap (worth s.given) (sym e.3) ∙ entry_worth e.0 (e.1, e.2) ∙ ap Some same)
