-- What is found by ranges for a marked selection: from one that contains it, and piece by piece.
use Rattle.std.proofs.Common.{◌≡◌, ℕ, zero, suc, ◌<◌, List, [], ◌∷◌, map, length, true, false, Option, Some, inl, refl, ap, sym, ◌∙◌, subst, arith}
use Rattle.std.specs.Prelude.{slice_index, unwrap_or, IsSome}
use Rattle.std.specs.List.{AllByRecursion}
use Rattle.cell_core.specs.declared.cell.Cell.{Cell}
use Rattle.cell_core.specs.declared.operator.Op.TheVariants.{Select}
use Rattle.cell_core.specs.declared.operator.Arg.{Arg}
use Rattle.cell_core.specs.declared.operator.Arg.TheVariants as arg
use Rattle.cell_core.specs.declared.operator.Instr.{Instr}
use Rattle.cell_core.specs.declared.operator.Value.TheVariants.{Bat}
use Rattle.cell_core.specs.Operators.{operate}
use Rattle.cell_core.specs.Pairs.{Pairs, heads_of, is_true}
use Rattle.cell_core.specs.Relations.{selected}
use Rattle.mal_meaning.specs.declared.plan.Plan.{Plan}
use Rattle.mal_check.proofs.PointLemmas.{instrs_fit}
use Rattle.lineage_key.specs.declared.key.Key.{Key}
use Rattle.lineage_key.specs.declared.key.KeyArg.TheVariants.{Const, Id}
use Rattle.lineage_key.specs.Keys.{arg_for}
use Rattle.lineage_key.specs.Parents.{is_bind, parents_of}
use Rattle.evict_admit.specs.Runs.{is_one_of}
use Rattle.subsume.specs.Cutting.{Entry}
use Rattle.reuse_laws.specs.Reuse.{selected_in}
use Rattle.cell_core.specs.Merged.{merged}
use Rattle.pool_policy.specs.Keeps.{faces, value_in, arg_value}
use Rattle.pool_policy.specs.Keyed.{first_parent}
use Rattle.pool_policy.specs.Laws.{value_of, selection_key}
use Rattle.chunk_core.specs.Facts.{rises}
use Rattle.pool_policy.specs.Looks.{Finding, look_of}
use Rattle.pool_policy.specs.Looks.Finding.{Within, Across}
use Rattle.pool_policy.proofs.Given.{same_worth}
use Rattle.pool_policy.proofs.Lists.{in_among}
use Rattle.pool_policy.proofs.Reuses.{reuse_is_plain_holds}
use Rattle.run_log.specs.Fold.{LogState}
use Rattle.query_keys.specs.Keys.{instr_key}
use Rattle.query_keys.specs.Laws.{IsMarkedAt, HasBounds, FoundServes, value_there}
use Rattle.query_keys.proofs.ArgLemmas.{IsRange, select_args}
use Rattle.query_keys.proofs.KeyLemmas.{key_args, key_op}
use Rattle.query_keys.proofs.LookLemmas.{IsRanged, across_covered, across_pooled, is_select, parts_rise, ranged, within_pooled}
use Rattle.query_keys.proofs.ServeLemmas.{computed, exact_serves, marked_here, value_is}

module _ (seen s : LogState) (plan : Plan) (ids : List ℕ) (instr : Instr) (m : IsMarkedAt seen s plan ids instr) (found : Finding) (r : IsRanged s.pool (instr_key instr seen.versions ids) found) where
  abbrev key : Key
  key = instr_key instr seen.versions ids

  is_selection : instr.op ≡ Select
  is_selection = sym (key_op instr seen.versions ids) ∙ (is_select key r.target r.asked).0

  range : IsRange instr.args
  range = select_args (instrs_fit plan seen.db m.checked m.fits).0 (length ids) instr (marked_here seen s plan ids instr m) is_selection

  abbrev parent : ℕ
  parent = slice_index ids range.from

  key_is : key ≡ selection_key parent range.low range.high range.li range.hi key.version
  key_is =
      let op_is : key.op ≡ Select = (is_select key r.target r.asked).0 in
      let args_are : key.args ≡ Id parent ∷ Const range.low ∷ Const range.high ∷ Const range.li ∷ Const range.hi ∷ [] = key_args instr seen.versions ids ∙ ap (λ (xs : List Arg). map (arg_for ids) xs) range.are in
      λ i. record { op = op_is i; args = args_are i; version = key.version }

  bounds : HasBounds instr range.low range.high range.li range.hi
  bounds = record { from = arg.Var range.from; op_is = is_selection; args_are = range.are }

  first_is : first_parent key ≡ parent
  first_is = ap first_parent key_is

  above : 0 < parent
  above = positive parent refl
    where
      positive : (n : ℕ) → parent ≡ n → 0 < n
      positive zero e = absurd (let there = in_among (parent ∷ []) 0 (inl (sym e)) in let wrong : true ≡ false = sym there ∙ sym (ap (λ (k : Key). is_one_of (parents_of k) 0) key_is) ∙ r.ids in cc)
      positive (suc n) e = omega arith

  -- where its parent is pooled, its value is selected from the parent's
  from_parent : IsSome (value_in (faces s.pool.entries) parent)
      → value_there seen plan ids ≡ Some (Some (Bat (selected range.low range.high (is_true range.li) (is_true range.hi) (value_of s.pool parent))))
  from_parent pooled =
      let plain : is_bind key ≡ false = ap is_bind key_is in
      let ids_above = subst (λ (k : Key). AllByRecursion (λ id. 0 < id) (parents_of k)) (sym key_is) (above, tt) in
      value_is seen s plan ids instr m
      ∙ ap Some ((computed seen s plan ids instr m plain ids_above).value
      ∙ ap (λ (k : Key). operate k.op (map (arg_value s.given) k.args)) key_is
      ∙ ap (λ (o : Option Pairs). Some (Bat (selected range.low range.high (is_true range.li) (is_true range.hi) (unwrap_or o [])))) (same_worth s.given s.pool m.sound.given parent pooled))

  pub within_serves : (id : ℕ) (pairs : Pairs) → found ≡ Within id → look_of s.pool key ≡ found → value_in (faces s.pool.entries) id ≡ Some pairs
      → (low high li hi : Cell) × HasBounds instr low high li hi × (value_there seen plan ids ≡ Some (Some (Bat (selected low high (is_true li) (is_true hi) pairs))))
  within_serves id pairs is look value =
      let pooled : IsSome (value_in (faces s.pool.entries) parent) =
      subst (λ n. IsSome (value_in (faces s.pool.entries) n)) first_is (within_pooled s.pool m.sound.pool (first_parent key) r.target id (r.from ∙ is) (subst (λ n. 0 < n) (sym first_is) above)) in
      let there = sym (ap (look_of s.pool) key_is) ∙ look ∙ is in
      let same = (reuse_is_plain_holds s.pool m.sound.pool).within parent range.low range.high range.li range.hi key.version id there in (
        range.low,
        range.high,
        range.li,
        range.hi,
        bounds,
        from_parent pooled ∙ ap (λ b. Some (Some (Bat b))) (sym same ∙ ap (λ (o : Option Pairs). selected range.low range.high (is_true range.li) (is_true range.hi) (unwrap_or o [])) value),
      )

  pub across_serves : (pieces : List Entry) → found ≡ Across pieces → look_of s.pool key ≡ found
      → (value_there seen plan ids ≡ Some (Some (Bat (merged (map (λ (piece : Entry). selected_in piece.1 (value_of s.pool piece.0)) pieces)))))
      × AllByRecursion (λ (piece : Entry). rises (heads_of (selected_in piece.1 (value_of s.pool piece.0))) ≡ true) pieces
  across_serves pieces is look =
      let covered = across_covered s.pool m.sound.pool (first_parent key) r.target pieces (r.from ∙ is) in
      let pooled : IsSome (value_in (faces s.pool.entries) parent) =
      subst (λ n. IsSome (value_in (faces s.pool.entries) n)) first_is (across_pooled s.pool m.sound.pool (first_parent key) r.target pieces covered) in
      let there = sym (ap (look_of s.pool) key_is) ∙ look ∙ is in
      let same = (reuse_is_plain_holds s.pool m.sound.pool).across parent range.low range.high range.li range.hi key.version pieces there in
      (from_parent pooled ∙ ap (λ b. Some (Some (Bat b))) (sym same), parts_rise s.pool m.sound.pool (first_parent key) r.target pieces covered)

pub found_serves_all : FoundServes
found_serves_all seen s plan ids instr m = record {
  exact = exact_serves seen s plan ids instr m;
  within = λ id pairs look value. within_serves seen s plan ids instr m (Within id) (ranged s.pool (instr_key instr seen.versions ids) (Within id) (λ n e. cc) (λ e. cc) look) id pairs refl look value;
  across = λ pieces look. across_serves seen s plan ids instr m (Across pieces) (ranged s.pool (instr_key instr seen.versions ids) (Across pieces) (λ n e. cc) (λ e. cc) look) pieces refl look;
}
