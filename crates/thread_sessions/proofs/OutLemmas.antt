-- Which results of a query are out, what is ready, and when all is there.
use Rattle.std.proofs.Common.{◌≡◌, ◌≢◌, ℕ, zero, suc, ◌+◌, ◌≤◌, ◌<◌, List, [], ◌∷◌, ◌++◌, map, take, length, Bool, true, false, Option, Some, None, refl, ap, sym, subst, ◌∙◌, arith}
use Rattle.std.specs.Prelude.{◌==◌, ◌&&◌, ◌||◌, not, nat_eq, is_some, IsSome, slice_get, slice_index_or, unwrap_or}
use Rattle.std.specs.Option.{option_map, option_map_or, option_and_then}
use Rattle.std.proofs.lemmas.Bool.{and_parts, eqb-false, eqb-true}
use Rattle.std.proofs.lemmas.Bool.Decides.{nat_tests}
use Rattle.std.proofs.lemmas.List.{get_or-set_other, get_or-set_same}
use Rattle.std.proofs.lemmas.List.Elements.{recursion_from_All}
use Rattle.std.proofs.lemmas.List.Folds.{list_any-append}
use Rattle.std.proofs.lemmas.Option.{same_Some, slice_get-map, slice_get_within}
use Rattle.cell_core.specs.declared.operator.Arg.{Arg}
use Rattle.cell_core.specs.declared.operator.Arg.TheVariants as arg
use Rattle.cell_core.specs.declared.operator.Instr.{Instr}
use Rattle.cell_core.specs.declared.operator.Op.{Op}
use Rattle.cell_core.specs.declared.operator.Op.TheVariants as op
use Rattle.cell_core.specs.declared.operator.Value.{Value}
use Rattle.cell_core.specs.declared.operator.Value.TheVariants.{One}
use Rattle.cell_core.specs.declared.table.Db.{Db}
use Rattle.cell_core.specs.Calc.{all_or_none}
use Rattle.cell_core.specs.Kinds.{Fits}
use Rattle.bat_core.specs.declared.shared.Obj.{Obj}
use Rattle.bat_core.specs.Objects.{value_of, values_of}
use Rattle.mal_meaning.specs.declared.plan.Plan.{Plan}
use Rattle.mal_meaning.specs.Meaning.{arg_value, arg_values}
use Rattle.mal_meaning.specs.Runs.{FitsHere}
use Rattle.mal_exec.specs.Results.{known_of}
use Rattle.lineage_key.specs.Keys.{IsNumbered}
use Rattle.query_keys.specs.Laws.{InstrsRun}
use Rattle.query_keys.proofs.InstrLemmas.{taken_args}
use Rattle.dataflow.specs.declared.basis.Basis.{Basis}
use Rattle.dataflow.specs.declared.task.Task.{Task}
use Rattle.dataflow.specs.Jobs.{CanRun}
use Rattle.dataflow.specs.Plans.{has, has_all, is_out, IsIdle, IsWhole, NoneOut, NothingReady}
use Rattle.dataflow.specs.Rules.{IsTask, basis_values, value_at as known_value}
use Rattle.query_run.specs.declared.step.RunningQuery.{RunningQuery}
use Rattle.query_run.specs.Queries.{HasArgs, HasAsked, HasBefore, HasGained, IsUnderWay, all_values, has_result, result_at, value_at, was_asked}
use Rattle.query_run.specs.Ready.{IsReady}
use Rattle.query_run.specs.Steps.{IsOpened}
use Rattle.query_run.proofs.ResultLemmas.{args_known, args_there, found, gained_else, gained_here}
use Rattle.query_run.proofs.WalkLemmas.{as_many_values, instr_at}
use Rattle.session_run.proofs.OweLemmas.{args_stay, result_there}
use Rattle.thread_sessions.specs.Crews.{Gains, HasNow, IsNew, IsOut, basis_in, is_bind, needs}

-- ## Lists of instructions

or_none : (b : Bool) → (b || false) ≡ b
or_none true = refl
or_none false = refl

-- one more in a list
pub has_else : (xs : List ℕ) (n m : ℕ) → m ≢ n → has (xs ++ n ∷ []) m ≡ has xs m
has_else xs n m apart =
    let far : nat_eq n m ≡ false = grind (arith, nat_tests) in
    list_any-append (λ j. nat_eq j m) xs (n ∷ []) ∙ ap (λ b. has xs m || (b || false)) far ∙ or_none (has xs m)

either : (a b : Bool) → b ≡ true → (a || (b || false)) ≡ true
either true b is = refl
either false b is = ap (λ c. c || false) is

pub has_last : (xs : List ℕ) (n : ℕ) → has (xs ++ n ∷ []) n ≡ true
has_last xs n = list_any-append (λ j. nat_eq j n) xs (n ∷ []) ∙ either (has xs n) (nat_eq n n) (grind (arith, nat_tests))

pub has_more : (xs : List ℕ) (n m : ℕ) → has xs m ≡ true → has (xs ++ n ∷ []) m ≡ true
has_more xs n m there = list_any-append (λ j. nat_eq j m) xs (n ∷ []) ∙ ap (λ b. b || has (n ∷ []) m) there

false_true : {P : Type 0} {b : Bool} → b ≡ true → b ≡ false → P
false_true is not = absurd (let no : true ≡ false = sym is ∙ not in cc)

-- ## One more result

module _ (q to : RunningQuery) (n : ℕ) (result : Obj) (id work : ℕ) (g : HasGained q n result id work to) (inside : n < length q.values.items) where
  gained_is : has_result to n ≡ true
  gained_is = ap is_some (gained_here q to n result id work g inside)

  others_same : (m : ℕ) → m ≢ n → has_result to m ≡ has_result q m
  others_same m apart = ap is_some (gained_else q to n result id work g inside m apart)

  gained_keeps : Gains q to
  gained_keeps m there = go (m == n) refl
    where
      go : (b : Bool) → (m == n) ≡ b → has_result to m ≡ true
      go true same = ap (has_result to) (eqb-true m n same) ∙ gained_is
      go false same = others_same m (eqb-false m n same) ∙ there

inside_values : (q : RunningQuery) (n : ℕ) (instr : Instr) → IsUnderWay q → slice_get q.plan.instrs n ≡ Some instr → n < length q.values.items
inside_values q n instr under here = let many = under.values in let low = slice_get_within q.plan.instrs n instr here in omega (arith, many, low)

pub now_keeps : (q to : RunningQuery) (n : ℕ) (instr : Instr) → IsUnderWay q → slice_get q.plan.instrs n ≡ Some instr → HasNow q n to → Gains q to
now_keeps q to n instr under here now = gained_keeps q to n now.0 now.1 now.2 now.3 (inside_values q n instr under here)

pub now_there : (q to : RunningQuery) (n : ℕ) (instr : Instr) → IsUnderWay q → slice_get q.plan.instrs n ≡ Some instr → HasNow q n to → has_result to n ≡ true
now_there q to n instr under here now = gained_is q to n now.0 now.1 now.2 now.3 (inside_values q n instr under here)

-- the results that are out then
module _ (b : Basis) (q to : RunningQuery) (n : ℕ) (instr : Instr) (handed finished later : List ℕ) {but : ℕ → Type 0} (under : IsUnderWay q) (here : slice_get q.plan.instrs n ≡ Some instr) (now : HasNow q n to) (only : (m : ℕ) → but m → m ≡ n)
    (o : IsOut b q handed finished but) (own_only : has handed n ≡ true → has later n ≡ true) (own_within : has later n ≡ true → has handed n ≡ true) (same_later : (m : ℕ) → m ≢ n → has later m ≡ has finished m) where
  abbrev g : HasGained q n now.0 now.1 now.2 to
  g = now.3

  abbrev inside : n < length q.values.items
  inside = inside_values q n instr under here

  out_after : IsOut b to handed later (λ m. ⊥)
  out_after = record {
    basis = (λ i. record { plan = g.plan_is i; database = (g.snap_is i).db }) ∙ o.basis;
    out = λ m no none. out_at m none (m == n) refl;
    only = λ m out there. only_at m out there (m == n) refl;
    done = λ m fin. done_at m fin (m == n) refl;
    within = λ m fin. within_at m fin (m == n) refl;
    ready = λ m out. let r = o.ready m out in (r.0, ap (λ (p : Plan). slice_get p.instrs m) g.plan_is ∙ r.1, args_stay q to (gained_keeps q to n now.0 now.1 now.2 g inside) r.0 r.2);
  }
    where
      out_at : (m : ℕ) → has_result to m ≡ false → (e : Bool) → (m == n) ≡ e → was_asked to m ≡ has handed m
      out_at m none true same = false_true (ap (has_result to) (eqb-true m n same) ∙ gained_is q to n now.0 now.1 now.2 g inside) none
      out_at m none false same =
          let apart = eqb-false m n same in
          ap (λ bs. slice_index_or bs m false) g.asked_are ∙ o.out m (λ b. apart (only m b)) (sym (others_same q to n now.0 now.1 now.2 g inside m apart) ∙ none)

      only_at : (m : ℕ) → has handed m ≡ true → has_result to m ≡ true → (e : Bool) → (m == n) ≡ e → has later m ≡ true
      only_at m out there true same = let place = eqb-true m n same in ap (has later) place ∙ own_only (ap (has handed) (sym place) ∙ out)
      only_at m out there false same = let apart = eqb-false m n same in same_later m apart ∙ o.only m out (sym (others_same q to n now.0 now.1 now.2 g inside m apart) ∙ there)

      done_at : (m : ℕ) → has later m ≡ true → (e : Bool) → (m == n) ≡ e → has_result to m ≡ true
      done_at m fin true same = ap (has_result to) (eqb-true m n same) ∙ gained_is q to n now.0 now.1 now.2 g inside
      done_at m fin false same = gained_keeps q to n now.0 now.1 now.2 g inside m (o.done m (sym (same_later m (eqb-false m n same)) ∙ fin))

      within_at : (m : ℕ) → has later m ≡ true → (e : Bool) → (m == n) ≡ e → has handed m ≡ true
      within_at m fin true same = let place = eqb-true m n same in ap (has handed) place ∙ own_within (ap (has later) (sym place) ∙ fin)
      within_at m fin false same = o.within m (sym (same_later m (eqb-false m n same)) ∙ fin)

-- where it wasn't handed out
pub out_gained : (b : Basis) (q to : RunningQuery) (n : ℕ) (instr : Instr) (handed finished : List ℕ) {but : ℕ → Type 0} → IsUnderWay q → slice_get q.plan.instrs n ≡ Some instr → HasNow q n to → ((m : ℕ) → but m → m ≡ n) → has handed n ≡ false
    → IsOut b q handed finished but → IsOut b to handed finished (λ m. ⊥)
out_gained b q to n instr handed finished under here now only new o = out_after b q to n instr handed finished finished under here now only o (λ out. false_true out new) (o.within n) (λ m apart. refl)

-- and where it was, and is done
pub out_done : (b : Basis) (q to : RunningQuery) (n : ℕ) (instr : Instr) (handed finished : List ℕ) → IsUnderWay q → slice_get q.plan.instrs n ≡ Some instr → HasNow q n to → has handed n ≡ true → IsOut b q handed finished (λ m. ⊥)
    → IsOut b to handed (finished ++ n ∷ []) (λ m. ⊥)
out_done b q to n instr handed finished under here now out o =
    out_after b q to n instr handed finished (finished ++ n ∷ []) under here now (λ m no. absurd no) o (λ was. has_last finished n) (λ fin. out) (λ m apart. has_else finished n m apart)

-- ## Asked for, and handed out

pub out_asked : (b : Basis) (q to : RunningQuery) (n : ℕ) (handed finished : List ℕ) → HasAsked q n to → IsOut b q handed finished (λ m. ⊥) → IsOut b to handed finished (λ m. m ≡ n)
out_asked b q to n handed finished a o = record {
  basis = (λ i. record { plan = a.plan_is i; database = (a.snap_is i).db }) ∙ o.basis;
  out = λ m apart none. ap (λ bs. slice_index_or bs m false) a.asked_are ∙ get_or-set_other q.asked.items n m true false apart ∙ o.out m (λ no. no) (sym (same m) ∙ none);
  only = λ m out there. o.only m out (sym (same m) ∙ there);
  done = λ m fin. same m ∙ o.done m fin;
  within = o.within;
  ready = λ m out. let r = o.ready m out in (r.0, ap (λ (p : Plan). slice_get p.instrs m) a.plan_is ∙ r.1, args_stay q to (λ k there. same k ∙ there) r.0 r.2);
}
  where
    same : (m : ℕ) → has_result to m ≡ has_result q m
    same m = ap (λ vs. is_some (slice_index_or vs m None)) a.values_are

pub asked_is : (q to : RunningQuery) (n : ℕ) (instr : Instr) → IsUnderWay q → slice_get q.plan.instrs n ≡ Some instr → HasAsked q n to → was_asked to n ≡ true
asked_is q to n instr under here a =
    ap (λ bs. slice_index_or bs n false) a.asked_are ∙ get_or-set_same q.asked.items n true false (let many = under.asked in let low = slice_get_within q.plan.instrs n instr here in omega (arith, many, low))

pub asked_keeps : (q to : RunningQuery) (n : ℕ) → HasAsked q n to → Gains q to
asked_keeps q to n a m there = ap (λ vs. is_some (slice_index_or vs m None)) a.values_are ∙ there

pub asked_none : (q to : RunningQuery) (n m : ℕ) → HasAsked q n to → has_result q m ≡ false → has_result to m ≡ false
asked_none q to n m a none = ap (λ vs. is_some (slice_index_or vs m None)) a.values_are ∙ none

pub asked_args : (q to : RunningQuery) (n : ℕ) (instr : Instr) → HasAsked q n to → HasArgs q instr → HasArgs to instr
asked_args q to n instr a has_args = args_stay q to (asked_keeps q to n a) instr has_args

pub out_handed : (b : Basis) (q : RunningQuery) (n : ℕ) (instr : Instr) (handed finished : List ℕ) → slice_get q.plan.instrs n ≡ Some instr → HasArgs q instr → was_asked q n ≡ true → has_result q n ≡ false → IsOut b q handed finished (λ m. m ≡ n)
    → IsOut b q (handed ++ n ∷ []) finished (λ m. ⊥)
out_handed b q n instr handed finished here args asked open_ o = record {
  basis = o.basis;
  out = λ m no none. out_at m none (m == n) refl;
  only = λ m out there. only_at m out there (m == n) refl;
  done = o.done;
  within = λ m fin. has_more handed n m (o.within m fin);
  ready = λ m out. ready_at m out (m == n) refl;
}
  where
    out_at : (m : ℕ) → has_result q m ≡ false → (e : Bool) → (m == n) ≡ e → was_asked q m ≡ has (handed ++ n ∷ []) m
    out_at m none true same = let place = eqb-true m n same in ap (was_asked q) place ∙ asked ∙ sym (ap (has (handed ++ n ∷ [])) place ∙ has_last handed n)
    out_at m none false same = let apart = eqb-false m n same in o.out m apart none ∙ sym (has_else handed n m apart)

    only_at : (m : ℕ) → has (handed ++ n ∷ []) m ≡ true → has_result q m ≡ true → (e : Bool) → (m == n) ≡ e → has finished m ≡ true
    only_at m out there true same = false_true there (ap (has_result q) (eqb-true m n same) ∙ open_)
    only_at m out there false same = o.only m (sym (has_else handed n m (eqb-false m n same)) ∙ out) there

    ready_at : (m : ℕ) → has (handed ++ n ∷ []) m ≡ true → (e : Bool) → (m == n) ≡ e → (i : Instr) × (slice_get q.plan.instrs m ≡ Some i) × HasArgs q i
    ready_at m out true same = (instr, ap (slice_get q.plan.instrs) (eqb-true m n same) ∙ here, args)
    ready_at m out false same = o.ready m (sym (has_else handed n m (eqb-false m n same)) ∙ out)

-- what is ready wasn't handed out
pub ready_new : (b : Basis) (q : RunningQuery) (n : ℕ) (handed finished : List ℕ) → IsReady q n → IsOut b q handed finished (λ m. ⊥) → has handed n ≡ false
ready_new b q n handed finished r o = sym (o.out n (λ no. no) r.open_) ∙ r.unasked

pub new_due : (handed finished : List ℕ) (n : ℕ) → (has finished n ≡ true → has handed n ≡ true) → has handed n ≡ false → has finished n ≡ false
new_due handed finished n within new = go (has finished n) refl
  where
    go : (e : Bool) → has finished n ≡ e → has finished n ≡ false
    go false is = is
    go true is = false_true (within is) new

-- ## Tasks

fit_other : (db : Db) (o : Op) (args : List Value) → (o ≡ op.Bind → ⊥) → FitsHere db o (Some args) → Fits o args
fit_other db op.Bind args apart fits = absurd (apart refl)
fit_other db _ args apart fits = fits

no_bind : (o : Op) → is_bind o ≡ false → o ≡ op.Bind → ⊥
no_bind o other is = let yes : is_bind o ≡ true = ap is_bind is in let never : true ≡ false = sym yes ∙ other in cc

pub task_is : InstrsRun → (q : RunningQuery) (n : ℕ) (instr : Instr) (task : Task) → IsUnderWay q → slice_get q.plan.instrs n ≡ Some instr → is_bind instr.op ≡ false → task.instr ≡ n → task.job.op ≡ instr.op
    → arg_values (known_of q.values.items) instr.args ≡ Some (values_of task.job.args.items) → IsTask (basis_in q) task
task_is run q n instr task under here plain number operator given =
    let own = run q.plan q.snap.db n instr under.checked under.fits here in
    let all : arg_values (all_values q) instr.args ≡ Some (values_of task.job.args.items) = args_known q under instr.args (values_of task.job.args.items) given in
    let apart = no_bind instr.op plain in
    record {
      instr = instr;
      is_there = ap (slice_get q.plan.instrs) number ∙ here;
      is_no_bind = apart;
      operator = operator;
      args = ap (λ k. arg_values (take k (all_values q)) instr.args) number ∙ taken_args n (all_values q) instr.args (recursion_from_All (IsNumbered n) instr.args own.numbered) ∙ all;
      fits = subst (λ o. Fits o (values_of task.job.args.items)) (sym operator) (fit_other q.snap.db instr.op (values_of task.job.args.items) apart (own.fits (values_of task.job.args.items) all));
    }

-- ## Arguments that have their results

result_is : (q : RunningQuery) (n : ℕ) → has_result q n ≡ is_some (arg_value (known_of q.values.items) (arg.Var n))
result_is q n = flat q.values.items n ∙ ap (λ o. is_some (unwrap_or o None)) (sym (slice_get-map (option_map value_of) q.values.items n))
  where
    flat : (xs : List (Option Obj)) (k : ℕ) → is_some (slice_index_or xs k None) ≡ is_some (unwrap_or (option_map (option_map value_of) (slice_get xs k)) None)
    flat [] k = refl
    flat (None ∷ xs) zero = refl
    flat (Some x ∷ xs) zero = refl
    flat (x ∷ xs) (suc k) = flat xs k

pub all_there : (q : RunningQuery) (args : List Arg) → has_all (has_result q) args ≡ is_some (arg_values (known_of q.values.items) args)
all_there q [] = refl
all_there q (arg.Const c ∷ args) = all_there q args ∙ kept (arg_values (known_of q.values.items) args)
  where
    kept : (o : Option (List Value)) → is_some o ≡ is_some (option_map (λ ys. One c ∷ ys) o)
    kept None = refl
    kept (Some vs) = refl
all_there q (arg.Var n ∷ args) =
    ap (λ b. b && has_all (has_result q) args) (result_is q n) ∙ ap (λ b. is_some (arg_value (known_of q.values.items) (arg.Var n)) && b) (all_there q args)
    ∙ both (arg_value (known_of q.values.items) (arg.Var n)) (arg_values (known_of q.values.items) args)
  where
    both : (first : Option Value) (rest : Option (List Value)) → (is_some first && is_some rest) ≡ is_some (option_and_then (λ y. option_map (λ ys. y ∷ ys) rest) first)
    both None rest = refl
    both (Some v) None = refl
    both (Some v) (Some vs) = refl

-- ## What is handed out

pub new_task : (b : Basis) (q : RunningQuery) (n : ℕ) (instr : Instr) (handed finished : List ℕ) (task : Task) {but : ℕ → Type 0} → IsOut b q handed finished but → slice_get q.plan.instrs n ≡ Some instr → is_bind instr.op ≡ false → HasArgs q instr → has_result q n ≡ false
    → has handed n ≡ false → task.instr ≡ n → IsTask (basis_in q) task → IsNew b q handed finished task
new_task b q n instr handed finished task o here plain args open_ new number is = record {
  is_task = subst (λ c. IsTask c task) o.basis is;
  needed = ap (needs q) number ∙ ap (λ found. option_map_or (λ (i : Instr). not (is_bind i.op)) found false && not (has_result q n)) here ∙ ap (λ p. not p && not (has_result q n)) plain ∙ ap not open_;
  ready = λ other at.
      let there : slice_get q.plan.instrs n ≡ Some other = ap (λ (c : Basis). slice_get c.plan.instrs n) o.basis ∙ ap (slice_get b.plan.instrs) (sym number) ∙ at in
      let one : instr ≡ other = same_Some instr other (sym here ∙ there) in
      subst (λ (i : Instr). has_all (has_result q) i.args ≡ true) one (all_there q instr.args ∙ args);
  new = ap (has handed) number ∙ new;
  due = ap (has finished) number ∙ new_due handed finished n (o.within n) new;
}

-- ## Where nothing is ready

not_false : (b : Bool) → not b ≡ true → b ≡ false
not_false false is = refl
not_false true is = absurd (let no : false ≡ true = is in cc)

all_have : (values : List (Option Value)) → ((i : ℕ) → i < length values → (v : Value) × (slice_get values i ≡ Some (Some v))) → IsSome (all_or_none values)
all_have [] each = refl
all_have (None ∷ vs) each = absurd (let first = each 0 (omega arith) in let no : Some None ≡ Some (Some first.0) = first.1 in cc)
all_have (Some v ∷ vs) each = kept (all_or_none vs) (all_have vs (λ i low. each (suc i) (omega (arith, low))))
  where
    kept : (o : Option (List Value)) → IsSome o → IsSome (option_map (λ ys. v ∷ ys) o)
    kept None none = none
    kept (Some ws) some = refl

module _ (run : InstrsRun) (b : Basis) (q : RunningQuery) (handed finished : List ℕ) (under : IsUnderWay q) (o : IsOut b q handed finished (λ m. ⊥)) (none : (n : ℕ) → IsReady q n → ⊥) where
  nothing : NothingReady b (has_result q) (needs q) handed
  nothing i instr here needed new = go (has_all (has_result q) instr.args) refl
    where
      open_ : has_result q i ≡ false
      open_ = not_false (has_result q i) (and_parts (option_map_or (λ (y : Instr). not (is_bind y.op)) (slice_get q.plan.instrs i) false) (not (has_result q i)) needed).1

      go : (e : Bool) → has_all (has_result q) instr.args ≡ e → has_all (has_result q) instr.args ≡ false
      go false is = is
      go true is = absurd (none i (record {
        instr = instr;
        here = ap (λ (c : Basis). slice_get c.plan.instrs i) o.basis ∙ here;
        open_ = open_;
        unasked = o.out i (λ no. no) open_ ∙ new;
        args = sym (all_there q instr.args) ∙ is;
      }))

  module _ (none_out : NoneOut handed finished) where
    there_next : (i : ℕ) → i < length q.plan.instrs → HasBefore q i → has_result q i ≡ true
    there_next i inside before = go (has_result q i) refl (has handed i) refl
      where
        go : (there : Bool) → has_result q i ≡ there → (out : Bool) → has handed i ≡ out → has_result q i ≡ true
        go true is out was = is
        go false is true was = o.done i (fin (has finished i) refl)
          where
            fin : (e : Bool) → has finished i ≡ e → has finished i ≡ true
            fin true e = e
            fin false e = absurd (let no : (true && not false) ≡ false = ap (λ c. c && not false) (sym was) ∙ ap (λ c. has handed i && not c) (sym e) ∙ none_out i in cc)
        go false is false was =
            let at = instr_at q.plan.instrs i inside in
            let own = run q.plan q.snap.db i at.0 under.checked under.fits at.1 in
            let known = args_there q i before at.0.args (recursion_from_All (IsNumbered i) at.0.args own.numbered) in
            absurd (none i (record {
              instr = at.0;
              here = at.1;
              open_ = is;
              unasked = o.out i (λ no. no) is ∙ was;
              args = ap is_some known.1;
            }))

    there_below : (count : ℕ) → count ≤ length q.plan.instrs → HasBefore q count
    there_below zero within m low = absurd (let no : ⊥ = omega (arith, low) in no)
    there_below (suc count) within m low = go (there_below count (omega (arith, within))) (m == count) refl
      where
        go : HasBefore q count → (e : Bool) → (m == count) ≡ e → has_result q m ≡ true
        go before true same = ap (has_result q) (eqb-true m count same) ∙ there_next count (omega (arith, within)) before
        go before false same = let apart = eqb-false m count same in before m (omega (arith, low, apart))

    whole : IsWhole b (has_result q)
    whole = record {
      each = λ i low. there_below (length q.plan.instrs) (omega arith) i (let same = ap (λ (c : Basis). length c.plan.instrs) o.basis in omega (arith, low, same));
      values = subst (λ c. IsSome (all_or_none (basis_values c))) o.basis (all_have (all_values q) (λ i low.
          let many = as_many_values q in
          let there = found (result_at q i) (there_below (length q.plan.instrs) (omega arith) i (omega (arith, low, many))) in
          (value_of there.0, under.known i there.0 there.1)));
    }

  pub idle : IsIdle b (has_result q) (needs q) handed finished
  idle = record { nothing_ready = nothing; whole = whole }

-- ## Where a query has been opened

none_in : {P : Type 0} (n : ℕ) → has [] n ≡ true → P
none_in n is = absurd (let no : false ≡ true = is in cc)

pub out_opened : (q to : RunningQuery) → IsOpened q to → IsOut (basis_in to) to [] [] (λ n. ⊥)
out_opened q to o = record {
  basis = refl;
  out = λ n no none. o.unasked n;
  only = λ n out there. none_in n out;
  done = λ n fin. none_in n fin;
  within = λ n fin. none_in n fin;
  ready = λ n out. none_in n out;
}

-- what is handed out and isn't done has no result
pub out_open : (b : Basis) (q : RunningQuery) (n : ℕ) (handed finished : List ℕ) → has handed n ≡ true → has finished n ≡ false → IsOut b q handed finished (λ m. ⊥) → has_result q n ≡ false
out_open b q n handed finished out due o = go (has_result q n) refl
  where
    go : (e : Bool) → has_result q n ≡ e → has_result q n ≡ false
    go false is = is
    go true is = false_true (o.only n out is) due

-- and was asked for
pub out_asked_is : (b : Basis) (q : RunningQuery) (n : ℕ) (handed finished : List ℕ) → has handed n ≡ true → has finished n ≡ false → IsOut b q handed finished (λ m. ⊥) → was_asked q n ≡ true
out_asked_is b q n handed finished out due o = o.out n (λ no. no) (out_open b q n handed finished out due o) ∙ out

-- the value of an instruction is that of the query
pub value_there : (b : Basis) (q : RunningQuery) (n : ℕ) (v : Value) → basis_in q ≡ b → known_value b n ≡ Some v → value_at q n ≡ Some (Some v)
value_there b q n v basis is = flat (value_at q n) (ap (λ c. known_value c n) basis ∙ is)
  where
    flat : (o : Option (Option Value)) → unwrap_or o None ≡ Some v → o ≡ Some (Some v)
    flat None none = absurd (let no : None ≡ Some v = none in cc)
    flat (Some x) some = ap Some some
