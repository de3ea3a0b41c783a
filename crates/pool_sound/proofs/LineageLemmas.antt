-- The value that is noted for an id is what its lineage evaluates to.
use Rattle.std.proofs.Common.{◌≡◌, ℕ, zero, suc, ◌+◌, ◌≤◌, ◌<◌, List, [], ◌∷◌, map, Bool, true, false, cond, Option, Some, None, inl, inr, refl, ap, sym, ◌∙◌, subst, arith}
use Rattle.std.specs.Prelude.{◌==◌, if◌then◌else◌, IsSome, unwrap_or}
use Rattle.std.specs.List.{find, filter_map}
use Rattle.std.specs.Option.{option_and_then, option_map}
use Rattle.std.proofs.lemmas.Bool.Decides.{Decides-eqb}
use Rattle.cell_core.specs.declared.operator.Value.{Value}
use Rattle.cell_core.specs.declared.operator.Value.TheVariants.{Bat, One}
use Rattle.cell_core.specs.Calc.{all_or_none}
use Rattle.cell_core.specs.Operators.{operate}
use Rattle.cell_core.specs.Pairs.{Pairs, as_bat}
use Rattle.mal_meaning.specs.Meaning.{column_pairs}
use Rattle.lineage_key.specs.declared.key.KeyArg.{KeyArg}
use Rattle.lineage_key.specs.declared.key.KeyArg.TheVariants.{Const, Id}
use Rattle.lineage_key.specs.Parents.{id_in, is_bind, parents_of, table_of, column_of}
use Rattle.subsume.proofs.Members.{In}
use Rattle.pool_policy.specs.declared.options.PoolOptions.{PoolOptions}
use Rattle.pool_policy.specs.Keeps.{Face, IsParentIn, IsRooted, Rises, arg_value, value_in}
use Rattle.pool_policy.specs.Worths.{IsGiven, worth}
use Rattle.pool_policy.proofs.Faces.{ids_below, value_found}
use Rattle.pool_policy.proofs.Lists.{all_at}
use Rattle.run_log.specs.Events.{EventTree}
use Rattle.run_log.specs.Fold.{run_of}
use Rattle.book_core.specs.Lawful.{IsLawful}
use Rattle.pool_sound.specs.Lineage.{arg_evaluated, evaluated, key_given, tables_after, lineage_value, value_within}
use Rattle.pool_sound.proofs.BindLemmas.{binds_told}
use Rattle.book_core.proofs.LawfulLemmas.{lawful_sound}

-- ## Keys by ids

key_found : (from next : ℕ) (fs : List Face) (f : Face) → Rises from next fs → In f fs → key_given fs f.id ≡ Some f.key
key_found from next [] f up i = absurd i
key_found from next (g ∷ gs) f up (inl is) =
    let here : (g.id == f.id) ≡ true = (Decides-eqb g.id f.id).1 (ap (λ (x : Face). x.id) (sym is)) in
    ap (λ b. option_map (λ (x : Face). x.key) (cond b (Some g) (find (λ (x : Face). x.id == f.id) gs))) here ∙ ap (λ (x : Face). Some x.key) (sym is)
key_found from next (g ∷ gs) f up (inr i) =
    let range = all_at (λ (x : Face). (g.id + 1 ≤ x.id) × (x.id < next)) gs f (ids_below (g.id + 1) next gs up.1) i in
    let other : (g.id == f.id) ≡ false = elim (g.id == f.id) as (λ b. (g.id == f.id) ≡ b → b ≡ false) [ true ↦ λ e. absurd (let same = (Decides-eqb g.id f.id).0 e in omega (arith, same, range.0)) | false ↦ λ _. refl ] refl in
    ap (λ b. option_map (λ (x : Face). x.key) (cond b (Some g) (find (λ (x : Face). x.id == f.id) gs))) other ∙ key_found (g.id + 1) next gs f up.1 i

-- what has no value has no key
no_key : (fs : List Face) (id : ℕ) → value_in fs id ≡ None → key_given fs id ≡ None
no_key fs id none = elim (find (λ (f : Face). f.id == id) fs) as (λ o. option_map (λ (f : Face). f.value) o ≡ None → option_map (λ (f : Face). f.key) o ≡ None) [
  | None ↦ λ _. refl
  | Some f ↦ λ e. cc
] none

-- ## Arguments

args_evaluated : (given : List Face) (evaluate : ℕ → Option Pairs) (args : List KeyArg) → ((id : ℕ) → In id (filter_map id_in args) → evaluate id ≡ Some (unwrap_or (value_in given id) []))
    → all_or_none (map (arg_evaluated evaluate) args) ≡ Some (map (arg_value given) args)
args_evaluated given evaluate [] all = refl
args_evaluated given evaluate (Const c ∷ args) all = ap (option_map (λ (values : List Value). One c ∷ values)) (args_evaluated given evaluate args all)
args_evaluated given evaluate (Id n ∷ args) all =
    ap (λ o. option_and_then (λ (value : Value). option_map (λ values. value ∷ values) (all_or_none (map (arg_evaluated evaluate) args))) (option_map Bat o)) (all n (inl refl))
    ∙ ap (option_map (λ (values : List Value). Bat (unwrap_or (value_in given n) []) ∷ values)) (args_evaluated given evaluate args (λ id i. all id (inr i)))

-- ## Lineages

module _ (options : PoolOptions) (log : List EventTree) (lawful : IsLawful options log) where
  abbrev given : List Face
  given = (run_of options log).given

  known : IsGiven given (run_of options log).pool
  known = (lawful_sound options log lawful).given

  evaluates : (depth : ℕ) (f : Face) → In f given → f.id ≤ depth → value_within depth log given f.id ≡ Some f.value
  evaluates zero f i low = absurd (let range = all_at (λ (x : Face). (1 ≤ x.id) × (x.id < (run_of options log).pool.next)) given f (ids_below 1 (run_of options log).pool.next given known.rising) i in omega (arith, range.0, low))
  evaluates (suc depth) f i low = ap (option_and_then (evaluated log (value_within depth log given))) (key_found 1 (run_of options log).pool.next given f known.rising i) ∙ by_bind (λ g j less. evaluates depth g j less) (is_bind f.key) refl
    where
      Evaluates : Type 0
      Evaluates = (g : Face) → In g given → g.id ≤ depth → value_within depth log given g.id ≡ Some g.value

      rooted : IsRooted given f
      rooted = all_at (IsRooted given) given f known.rooted i

      parent : Evaluates → (id : ℕ) → In id (parents_of f.key) → value_within depth log given id ≡ Some (unwrap_or (value_in given id) [])
      parent each id j =
          let older = all_at (IsParentIn given f.id) (parents_of f.key) id rooted.parents j in
          let found = value_found given id older.2 in
          ap (value_within depth log given) (sym found.2) ∙ each found.0 found.1 (let less = older.1 in let same = found.2 in omega (arith, less, same, low))
          ∙ ap (λ o. Some (unwrap_or o [])) (sym found.3)

      by_bind : Evaluates → (b : Bool) → is_bind f.key ≡ b → evaluated log (value_within depth log given) f.key ≡ Some f.value
      by_bind each true bind =
          ap (λ b. if b then Some (column_pairs (table_of f.key) (column_of f.key) (tables_after log f.key.version)) else option_and_then as_bat (option_and_then (operate f.key.op) (all_or_none (map (arg_evaluated (value_within depth log given)) f.key.args)))) bind
          ∙ ap Some (sym (binds_told options log lawful f i bind).column)
      by_bind each false plain =
          ap (λ b. if b then Some (column_pairs (table_of f.key) (column_of f.key) (tables_after log f.key.version)) else option_and_then as_bat (option_and_then (operate f.key.op) (all_or_none (map (arg_evaluated (value_within depth log given)) f.key.args)))) plain
          ∙ ap (λ o. option_and_then as_bat (option_and_then (operate f.key.op) o)) (args_evaluated given (value_within depth log given) f.key.args (parent each))
          ∙ ap (option_and_then as_bat) (rooted.computed plain)

  -- of each id, also of one that wasn't given out
  pub noted_value : (id : ℕ) → lineage_value options log id ≡ worth given id
  noted_value id = go (worth given id) refl
    where
      none_at : (depth : ℕ) → key_given given id ≡ None → value_within depth log given id ≡ None
      none_at zero none = refl
      none_at (suc depth) none = ap (option_and_then (evaluated log (value_within depth log given))) none

      go : (o : Option Pairs) → worth given id ≡ o → lineage_value options log id ≡ o
      go None is = none_at id (no_key given id is)
      go (Some value) is =
          let found = value_found given id (subst IsSome (sym is) refl) in
          ap (lineage_value options log) (sym found.2) ∙ evaluates found.0.id found.0 found.1 (omega arith) ∙ sym found.3 ∙ is
