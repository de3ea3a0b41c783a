-- What is computed for a marked instruction may be offered to the pool.
use Rattle.std.proofs.Common.{◌≡◌, ℕ, ◌<◌, ◌≤◌, List, [], map, length, Bool, true, false, cond, Option, Some, refl, ap, sym, ◌∙◌, subst, arith}
use Rattle.std.specs.Prelude.{unwrap_or}
use Rattle.std.specs.List.{AllByRecursion, filter_map}
use Rattle.std.specs.Option.{option_and_then}
use Rattle.std.proofs.lemmas.Bool.Decides.{Decides-eqb}
use Rattle.std.proofs.lemmas.Option.{same_Some}
use Rattle.cell_core.specs.declared.operator.Instr.{Instr}
use Rattle.cell_core.specs.declared.operator.Value.{Value}
use Rattle.cell_core.specs.declared.operator.Value.TheVariants.{Bat}
use Rattle.cell_core.specs.Operators.{operate, work_of}
use Rattle.cell_core.specs.Pairs.{Pairs, as_bat}
use Rattle.mal_meaning.specs.declared.plan.Plan.{Plan}
use Rattle.mal_meaning.specs.Meaning.{column_pairs, instr_value, instr_load, plan_values}
use Rattle.mal_check.proofs.PointLemmas.{instrs_fit}
use Rattle.lineage_key.specs.declared.key.Key.{Key}
use Rattle.lineage_key.specs.declared.key.KeyArg.{KeyArg}
use Rattle.lineage_key.specs.Parents.{id_in, is_bind, parents_of, table_of, column_of}
use Rattle.evict_admit.specs.Runs.{is_one_of}
use Rattle.pool_policy.specs.Keeps.{arg_value}
use Rattle.pool_policy.proofs.Lists.{all_at, not_among}
use Rattle.run_log.specs.Fold.{LogState, bind_work, key_present, key_value, key_work}
use Rattle.query_keys.specs.Keys.{instr_key}
use Rattle.query_keys.specs.Laws.{IsMarkedAt, MayOffer, OffersFit, value_there}
use Rattle.query_keys.proofs.ArgLemmas.{few_ids}
use Rattle.query_keys.proofs.KeyLemmas.{key_args}
use Rattle.query_keys.proofs.ServeLemmas.{bound, column_kept, computed, marked_here, value_is}

module _ (seen s : LogState) (plan : Plan) (ids : List ℕ) (instr : Instr) (pairs : Pairs) (m : IsMarkedAt seen s plan ids instr) (there : value_there seen plan ids ≡ Some (Some (Bat pairs))) where
  abbrev key : Key
  key = instr_key instr seen.versions ids

  abbrev values : List (Option Value)
  values = plan_values seen.db plan.instrs

  -- its value, where the instruction has one
  value_has : (found : Option Value) → instr_value seen.db values instr ≡ found → found ≡ Some (Bat pairs)
  value_has found e = same_Some found (Some (Bat pairs)) (ap Some (sym e) ∙ sym (value_is seen s plan ids instr m) ∙ there)

  same_pairs : (b : Pairs) → Some (Bat b) ≡ Some (Bat pairs) → pairs ≡ b
  same_pairs b e = cc

  few : length (parents_of key) ≤ 2
  few = subst (λ (xs : List KeyArg). length (filter_map id_in xs) ≤ 2) (sym (key_args instr seen.versions ids)) (few_ids (instrs_fit plan seen.db m.checked m.fits).0 (length ids) instr ids (marked_here seen s plan ids instr m))

  column_offered : is_bind key ≡ true → key.version ≡ key_present key s → (pairs ≡ key_value key s) × (instr_load seen.db values instr ≡ key_work key s)
  column_offered bind present =
      let b = bound seen s plan ids instr m bind in
      let now : key.version ≡ s.versions (table_of key) (column_of key) = present ∙ ap (λ t. cond t (s.versions (table_of key) (column_of key)) 0) bind in
      let kept = column_kept seen s plan ids instr m bind now in
      let pairs_are : pairs ≡ column_pairs (table_of key) (column_of key) seen.db = same_pairs (column_pairs (table_of key) (column_of key) seen.db) (value_has (Some (Bat (column_pairs (table_of key) (column_of key) seen.db))) b.value) in
      let value : column_pairs (table_of key) (column_of key) s.db ≡ key_value key s =
      sym (ap (λ t. cond t (column_pairs (table_of key) (column_of key) s.db) (unwrap_or (option_and_then as_bat (operate key.op (map (arg_value s.given) key.args))) [])) bind) in
      let work : length (column_pairs (table_of key) (column_of key) s.db) ≡ bind_work key s =
      sym (ap (λ t. cond t (length (column_pairs (table_of key) (column_of key) s.db)) 0) ((Decides-eqb key.version (key_present key s)).1 present)) in (
        pairs_are ∙ sym kept ∙ value,
        b.work ∙ ap (λ (c : Pairs). length c) (sym kept) ∙ work ∙ sym (ap (λ t. cond t (bind_work key s) (cond (is_one_of (parents_of key) 0) 0 (work_of key.op (map (arg_value s.given) key.args)))) bind),
      )

  computed_offered : is_bind key ≡ false → AllByRecursion (λ id. 0 < id) (parents_of key) → (operate key.op (map (arg_value s.given) key.args) ≡ Some (Bat pairs)) × (instr_load seen.db values instr ≡ key_work key s)
  computed_offered plain above =
      let c = computed seen s plan ids instr m plain above in
      let none : is_one_of (parents_of key) 0 ≡ false = not_among (parents_of key) 0 (λ i. let wrong = all_at (λ id. 0 < id) (parents_of key) 0 above i in omega (arith, wrong)) in (
        value_has (operate key.op (map (arg_value s.given) key.args)) c.value,
        c.work ∙ sym (ap (λ t. cond t 0 (work_of key.op (map (arg_value s.given) key.args))) none)
            ∙ sym (ap (λ t. cond t (bind_work key s) (cond (is_one_of (parents_of key) 0) 0 (work_of key.op (map (arg_value s.given) key.args)))) plain),
      )

  pub may_offer : MayOffer seen s plan ids instr pairs
  may_offer = record {
    few = few;
    named = λ bind. let b = bound seen s plan ids instr m bind in (b.table, b.column, b.word, b.args);
    bound = column_offered;
    computed = computed_offered;
  }

  -- the value of its key is its value, where that may be offered
  pub value_of_key : (is_bind key ≡ true → key.version ≡ key_present key s) → (is_bind key ≡ false → AllByRecursion (λ id. 0 < id) (parents_of key)) → key_value key s ≡ pairs
  value_of_key present above = go (is_bind key) refl
    where
      go : (b : Bool) → is_bind key ≡ b → key_value key s ≡ pairs
      go true bind = sym (column_offered bind (present bind)).0
      go false plain =
          ap (λ b. cond b (column_pairs (table_of key) (column_of key) s.db) (unwrap_or (option_and_then as_bat (operate key.op (map (arg_value s.given) key.args))) [])) plain
          ∙ ap (λ (o : Option Value). unwrap_or (option_and_then as_bat o) []) (computed_offered plain (above plain)).0

pub offers_fit_all : OffersFit
offers_fit_all seen s plan ids instr pairs m there = may_offer seen s plan ids instr pairs m there
