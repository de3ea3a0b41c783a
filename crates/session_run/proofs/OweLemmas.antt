-- What is owed of results that the pool was asked for in vain, as others come.
use Rattle.std.proofs.Common.{◌≡◌, ◌≢◌, ℕ, zero, suc, ◌+◌, ◌<◌, List, [], ◌∷◌, map, take, length, Bool, true, false, cond, Option, Some, None, refl, ap, sym, ◌∙◌, subst, arith}
use Rattle.std.specs.Prelude.{◌==◌, IsSome, is_some, slice_get, slice_index, slice_index_or, slice_set, unwrap_or}
use Rattle.std.specs.Option.{option_and_then, option_map}
use Rattle.std.proofs.lemmas.Bool.{eqb-false, eqb-true, ne_eqb}
use Rattle.std.proofs.lemmas.List.{get_or-set_other}
use Rattle.std.proofs.lemmas.Option.{get_or_from_slice_get, slice_get-map, slice_get_within}
use Rattle.cell_core.specs.declared.operator.Arg.{Arg}
use Rattle.cell_core.specs.declared.operator.Arg.TheVariants as arg
use Rattle.cell_core.specs.declared.operator.Instr.{Instr}
use Rattle.cell_core.specs.declared.operator.Value.{Value}
use Rattle.cell_core.specs.declared.operator.Value.TheVariants.{One}
use Rattle.bat_core.specs.declared.shared.Obj.{Obj}
use Rattle.bat_core.specs.Objects.{value_of}
use Rattle.mal_meaning.specs.declared.plan.Plan.{Plan}
use Rattle.mal_meaning.specs.Meaning.{arg_value, arg_values}
use Rattle.mal_exec.specs.Results.{known_of}
use Rattle.recycle_mark.specs.Marks.{marks_of}
use Rattle.lineage_key.specs.declared.key.KeyArg.{KeyArg}
use Rattle.lineage_key.specs.declared.key.KeyArg.TheVariants.{Const, Id}
use Rattle.lineage_key.specs.Keys.{arg_for, key_for}
use Rattle.pool_policy.specs.declared.options.PoolOptions.{PoolOptions}
use Rattle.pool_policy.specs.Looks.{look_of}
use Rattle.pool_policy.specs.Pool.{PoolState}
use Rattle.pool_policy.specs.Versions.{Versions}
use Rattle.run_log.specs.Events.{EventTree}
use Rattle.query_keys.specs.Keys.{instr_key, with_version}
use Rattle.query_run.specs.declared.step.RunningQuery.{RunningQuery}
use Rattle.query_run.specs.Queries.{GoesOn, HasArgs, HasAsked, HasGained, IsAt, IsUnderWay, has_result, key_in, result_at, versions_in, was_asked}
use Rattle.query_run.proofs.ResultLemmas.{gained_else, gained_here}
use Rattle.session_run.specs.Progress.{Got, noted}
use Rattle.session_run.specs.Work.{pool_asked, work_by}
use Rattle.session_run.specs.Works.{OweLoads}

-- ## Arguments

-- a variable that is known names a result that is there
pub result_there : (q : RunningQuery) (m : ℕ) → IsSome (arg_value (known_of q.values.items) (arg.Var m)) → has_result q m ≡ true
result_there q m some = go (slice_get q.values.items m) refl (subst (λ o. IsSome (unwrap_or o None)) (slice_get-map (option_map value_of) q.values.items m) some)
  where
    go : (o : Option (Option Obj)) → slice_get q.values.items m ≡ o → IsSome (unwrap_or (option_map (option_map value_of) o) None) → has_result q m ≡ true
    go None at none = absurd (let no : false ≡ true = none in cc)
    go (Some None) at none = absurd (let no : false ≡ true = none in cc)
    go (Some (Some result)) at is = ap is_some (get_or_from_slice_get q.values.items m (Some result) None at)

-- where all arguments are known, the first and the others are
pub first_known : (o : Option Value) (rest : Option (List Value)) → IsSome (option_and_then (λ y. option_map (λ ys. y ∷ ys) rest) o) → IsSome o
first_known (Some v) rest has = refl
first_known None rest has = has

pub others_known : (o : Option Value) (rest : Option (List Value)) → IsSome (option_and_then (λ y. option_map (λ ys. y ∷ ys) rest) o) → IsSome rest
others_known (Some v) (Some vs) has = refl
others_known (Some v) None has = has
others_known None (Some vs) has = refl
others_known None None has = has

-- and both are all
all_known : (o : Option Value) (rest : Option (List Value)) → IsSome o → IsSome rest → IsSome (option_and_then (λ y. option_map (λ ys. y ∷ ys) rest) o)
all_known (Some v) (Some vs) one more = refl
all_known (Some v) None one more = more
all_known None rest one more = one

-- what is known stays, where results stay
known_stays : (q to : RunningQuery) → ((m : ℕ) → has_result q m ≡ true → has_result to m ≡ true) → (args : List Arg) → IsSome (arg_values (known_of q.values.items) args) → IsSome (arg_values (known_of to.values.items) args)
known_stays q to keep [] has = refl
known_stays q to keep (a ∷ args) has =
    all_known (arg_value (known_of to.values.items) a) (arg_values (known_of to.values.items) args)
    (one a (first_known (arg_value (known_of q.values.items) a) (arg_values (known_of q.values.items) args) has))
    (known_stays q to keep args (others_known (arg_value (known_of q.values.items) a) (arg_values (known_of q.values.items) args) has))
  where
    there : (m : ℕ) → has_result to m ≡ true → IsSome (arg_value (known_of to.values.items) (arg.Var m))
    there m is = go to.values.items m is
      where
        go : (xs : List (Option Obj)) (k : ℕ) → is_some (slice_index_or xs k None) ≡ true → IsSome (arg_value (known_of xs) (arg.Var k))
        go [] k none = absurd (let no : false ≡ true = none in cc)
        go (Some x ∷ xs) zero some = refl
        go (None ∷ xs) zero some = absurd (cc)
        go (x ∷ xs) (suc k) some = go xs k some

    one : (a : Arg) → IsSome (arg_value (known_of q.values.items) a) → IsSome (arg_value (known_of to.values.items) a)
    one (arg.Const cell) some = refl
    one (arg.Var m) some = there m (keep m (result_there q m some))

pub args_stay : (q to : RunningQuery) → ((m : ℕ) → has_result q m ≡ true → has_result to m ≡ true) → (instr : Instr) → HasArgs q instr → HasArgs to instr
args_stay q to keep instr has = known_stays q to keep instr.args has

-- ## Keys

taken_same : (ids : List ℕ) (m n id v : ℕ) → v ≢ n → slice_index (take m (slice_set ids n id)) v ≡ slice_index (take m ids) v
taken_same ids zero n id v apart = refl
taken_same [] (suc m) n id v apart = refl
taken_same (i ∷ ids) (suc m) zero id zero apart = absurd (apart refl)
taken_same (i ∷ ids) (suc m) zero id (suc v) apart = refl
taken_same (i ∷ ids) (suc m) (suc n) id zero apart = refl
taken_same (i ∷ ids) (suc m) (suc n) id (suc v) apart = taken_same ids m n id v (λ same. apart (ap suc same))

args_same : (q : RunningQuery) (ids : List ℕ) (m n id : ℕ) → has_result q n ≡ false → (args : List Arg) → IsSome (arg_values (known_of q.values.items) args) → map (arg_for (take m (slice_set ids n id))) args ≡ map (arg_for (take m ids)) args
args_same q ids m n id open_ [] has = refl
args_same q ids m n id open_ (a ∷ args) has =
    (λ i. one a (first_known (arg_value (known_of q.values.items) a) (arg_values (known_of q.values.items) args) has) i
    ∷ args_same q ids m n id open_ args (others_known (arg_value (known_of q.values.items) a) (arg_values (known_of q.values.items) args) has) i)
  where
    one : (a : Arg) → IsSome (arg_value (known_of q.values.items) a) → arg_for (take m (slice_set ids n id)) a ≡ arg_for (take m ids) a
    one (arg.Const cell) some = refl
    one (arg.Var v) some = ap Id (taken_same ids m n id v (λ same. let no : true ≡ false = sym (result_there q v some) ∙ ap (has_result q) same ∙ open_ in cc))

-- the key of an instruction whose arguments are there stays
pub key_stays : (q to : RunningQuery) (n : ℕ) (result : Obj) (id work : ℕ) → HasGained q n result id work to → has_result q n ≡ false → (m : ℕ) (instr : Instr) → HasArgs q instr → key_in to m instr ≡ key_in q m instr
key_stays q to n result id work g open_ m instr has =
    (λ i. with_version (versions_in (g.snap_is i)) (key_for instr (take m (g.ids_are i)) 0))
    ∙ ap (λ (args : List KeyArg). with_version (versions_in q.snap) (record { op = instr.op; args = args; version = 0 })) (args_same q q.ids.items m n id open_ instr.args has)

-- ## Loads

module _ (options : PoolOptions) where
  abbrev IsLoad : List EventTree → Got → RunningQuery → ℕ → Instr → Type 0
  IsLoad log got q m instr = (load pairs : ℕ) → work_by (pool_asked options log got) (look_of (pool_asked options log got) (key_in q m instr)) load pairs ≡ load

  -- a query goes on
  pub goes_owe : (log : List EventTree) (results : ℕ → Got) (q to : RunningQuery) → GoesOn q to → OweLoads options log results q (λ m. ⊥) → OweLoads options log results to (λ m. ⊥)
  goes_owe log results q to g owes m instr at asked apart =
      let marked : slice_get (marks_of q.plan) m ≡ Some true = ap (λ pl. slice_get (marks_of pl) m) (sym g.plan_is) ∙ at.marked in
      let was : IsAt q m instr = record { here = ap (λ (p : Plan). slice_get p.instrs m) (sym g.plan_is) ∙ at.here; marked = marked; open_ = sym (g.marked_same m marked) ∙ at.open_ } in
      let both = owes m instr was (ap (λ bs. slice_index_or bs m false) (sym g.asked_are) ∙ asked) apart in
      let same : key_in to m instr ≡ key_in q m instr = λ i. instr_key instr (versions_in (g.snap_is i)) (take m (g.ids_are i)) in
      (args_stay q to g.keeps instr both.0, λ load pairs. subst (λ key. work_by (pool_asked options log (results m)) (look_of (pool_asked options log (results m)) key) load pairs ≡ load) (sym same) (both.1 load pairs))

  -- it gains a result
  pub gains_owe : (log later : List EventTree) (results : ℕ → Got) (q to : RunningQuery) (n : ℕ) (own : Instr) (result : Obj) (id work : ℕ) (got : Got) {but : ℕ → Type 0} → IsAt q n own → IsUnderWay q → HasGained q n result id work to
      → ((m : ℕ) → but m → m ≡ n) → ((m : ℕ) → pool_asked options later (results m) ≡ pool_asked options log (results m)) → OweLoads options log results q but → OweLoads options later (noted n got results) to (λ m. ⊥)
  gains_owe log later results q to n own result id work got own_at under g only same_pool owes m instr at asked free = go (m == n) refl
    where
      inside : n < length q.values.items
      inside = let many = under.values in let low = slice_get_within q.plan.instrs n own own_at.here in omega (arith, many, low)

      go : (b : Bool) → (m == n) ≡ b → HasArgs to instr × ((load pairs : ℕ) → work_by (pool_asked options later (cond b got (results m))) (look_of (pool_asked options later (cond b got (results m))) (key_in to m instr)) load pairs ≡ load)
      go true same =
          let there = ap is_some (ap (result_at to) (eqb-true m n same) ∙ gained_here q to n result id work g inside) in
          absurd (let never : true ≡ false = sym there ∙ at.open_ in cc)
      go false same =
          let apart = eqb-false m n same in
          let was : IsAt q m instr = record {
            here = ap (λ (p : Plan). slice_get p.instrs m) (sym g.plan_is) ∙ at.here;
            marked = ap (λ pl. slice_get (marks_of pl) m) (sym g.plan_is) ∙ at.marked;
            open_ = ap is_some (sym (gained_else q to n result id work g inside m apart)) ∙ at.open_;
          } in
          let both = owes m instr was (ap (λ bs. slice_index_or bs m false) (sym g.asked_are) ∙ asked) (λ b. apart (only m b)) in
          let key = key_stays q to n result id work g own_at.open_ m instr both.0 in (
            args_stay q to (λ k there. keep k there) instr both.0,
            λ load pairs. subst (λ pool. work_by pool (look_of pool (key_in to m instr)) load pairs ≡ load) (sym (same_pool m))
                (subst (λ named. work_by (pool_asked options log (results m)) (look_of (pool_asked options log (results m)) named) load pairs ≡ load) (sym key) (both.1 load pairs)),
          )
        where
          keep : (k : ℕ) → has_result q k ≡ true → has_result to k ≡ true
          keep k there = by (k == n) refl
            where
              by : (b : Bool) → (k == n) ≡ b → has_result to k ≡ true
              by true is_n = ap is_some (ap (result_at to) (eqb-true k n is_n) ∙ gained_here q to n result id work g inside)
              by false not_n = ap is_some (gained_else q to n result id work g inside k (eqb-false k n not_n)) ∙ there

  -- it asks in vain
  pub asks_owe : (log later : List EventTree) (results : ℕ → Got) (q to : RunningQuery) (n : ℕ) (got : Got) → HasAsked q n to → ((m : ℕ) → pool_asked options later (results m) ≡ pool_asked options log (results m))
      → OweLoads options log results q (λ m. ⊥) → OweLoads options later (noted n got results) to (λ m. m ≡ n)
  asks_owe log later results q to n got a same_pool owes m instr at asked apart =
      subst (λ g. HasArgs to instr × ((load pairs : ℕ) → work_by (pool_asked options later g) (look_of (pool_asked options later g) (key_in to m instr)) load pairs ≡ load)) (sym (ap (λ b. cond b got (results m)) (ne_eqb m n apart))) (
        args_stay q to (λ k there. ap (λ vs. is_some (slice_index_or vs k None)) a.values_are ∙ there) instr both.0,
        λ load pairs. subst (λ pool. work_by pool (look_of pool (key_in to m instr)) load pairs ≡ load) (sym (same_pool m))
            (subst (λ named. work_by (pool_asked options log (results m)) (look_of (pool_asked options log (results m)) named) load pairs ≡ load) (sym key) (both.1 load pairs)),
      )
    where
      was : IsAt q m instr
      was = record {
        here = ap (λ (p : Plan). slice_get p.instrs m) (sym a.plan_is) ∙ at.here;
        marked = ap (λ pl. slice_get (marks_of pl) m) (sym a.plan_is) ∙ at.marked;
        open_ = ap (λ vs. is_some (slice_index_or vs m None)) (sym a.values_are) ∙ at.open_;
      }

      both : HasArgs q instr × IsLoad log (results m) q m instr
      both = owes m instr was (sym (get_or-set_other q.asked.items n m true false apart) ∙ ap (λ bs. slice_index_or bs m false) (sym a.asked_are) ∙ asked) (λ no. no)

      key : key_in to m instr ≡ key_in q m instr
      key = λ i. instr_key instr (versions_in (a.snap_is i)) (take m (a.ids_are i))
