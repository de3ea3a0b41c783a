-- A run stays sound as a value is put, as tasks are handed out, and at its end.
use Rattle.std.proofs.Common.{◌≡◌, ◌≢◌, ℕ, zero, suc, ◌+◌, ◌<◌, ◌≤◌, List, [], ◌∷◌, ◌++◌, map, take, set, length, Bool, true, false, Option, Some, None, refl, ap, sym, subst, ◌∙◌, arith, ⊎_elim, length-append, length-set}
use Rattle.std.specs.Prelude.{◌&&◌, ◌||◌, not, nat_eq, nat_lt, is_some, IsSome, unwrap_or, slice_get, if◌then◌else◌}
use Rattle.std.specs.Option.{option_map, option_map_or, option_and_then}
use Rattle.std.specs.List.{list_all}
use Rattle.std.proofs.lemmas.Option.{slice_get-map, slice_get_within}
use Rattle.std.proofs.lemmas.Bool.Decides.{nat_tests, eqb_tells}
use Rattle.std.proofs.lemmas.List.{length-map}
use Rattle.std.proofs.lemmas.List.Folds.{list_any-append}
use Rattle.cell_core.specs.declared.cell.Cell.TheVariants.{Text}
use Rattle.cell_core.specs.declared.operator.Op.{Op}
use Rattle.cell_core.specs.declared.operator.Op.TheVariants as op
use Rattle.cell_core.specs.declared.operator.Arg.{Arg}
use Rattle.cell_core.specs.declared.operator.Arg.TheVariants.{Const, Var}
use Rattle.cell_core.specs.declared.operator.Instr.{Instr}
use Rattle.cell_core.specs.declared.operator.Value.{Value}
use Rattle.cell_core.specs.declared.operator.Value.TheVariants.{Bat, One}
use Rattle.cell_core.specs.declared.table.Db.{Db}
use Rattle.cell_core.specs.Calc.{all_or_none}
use Rattle.cell_core.specs.Kinds.{Fits}
use Rattle.bat_core.specs.declared.shared.Obj.{Obj}
use Rattle.bat_core.specs.Objects.{value_of, values_of}
use Rattle.mal_meaning.specs.declared.plan.Plan.{Plan}
use Rattle.mal_meaning.specs.Meaning.{arg_value, arg_values, bind_value, value_over, instr_value, values_from}
use Rattle.mal_check.specs.Runnable.{fits_column, fits_columns_of}
use Rattle.mal_check.proofs.PointLemmas.{instrs_fit}
use Rattle.mal_meaning.specs.Runs.{FitsHere}
use Rattle.mal_check.proofs.ListTests.{some_is}
use Rattle.std.specs.Cmp.{first_so, second_so}
use Rattle.std.proofs.lemmas.Bool.{and_from}
use Rattle.dataflow.specs.declared.basis.Basis.{Basis}
use Rattle.dataflow.specs.declared.task.Task.{Task}
use Rattle.dataflow.specs.Jobs.{CanRun}
use Rattle.dataflow.specs.Rules.{basis_values, value_at, IsTask}
use Rattle.dataflow.specs.Plans.{has, has_all, Grows, NoneOut, NothingReady, IsWhole, IsHandedOut, IsIdle}
use Rattle.dataflow.proofs.TaskLemmas.{none_is, computed, IsComputed}
use Rattle.mal_exec.specs.Results.{known_of}
use Rattle.flow_tests.specs.Sound.{no_tables, over_nothing, is_there, is_bind, is_column, is_known, are_known, start_value, is_job, OnlyDone, IsRunnable, IsSound}
use Rattle.flow_tests.specs.Ready.{IsReady, NoneReady}
use Rattle.flow_tests.proofs.OrderLemmas.{checked_in_order}

-- ## A value is put

set_here : {X : Type 0} (xs : List X) (k : ℕ) (y : X) → k < length xs → slice_get (set xs k y) k ≡ Some y
set_here [] k y below = absurd (grind arith)
set_here (x ∷ xs) zero y below = refl
set_here (x ∷ xs) (suc k) y below = set_here xs k y (grind arith)

set_else : {X : Type 0} (xs : List X) (k i : ℕ) (y : X) → i ≢ k → slice_get (set xs k y) i ≡ slice_get xs i
set_else [] k i y apart = refl
set_else (x ∷ xs) zero zero y apart = absurd (apart refl)
set_else (x ∷ xs) zero (suc i) y apart = refl
set_else (x ∷ xs) (suc k) zero y apart = refl
set_else (x ∷ xs) (suc k) (suc i) y apart = set_else xs k i y (λ e. apart (ap suc e))

there_of : Option (Option Obj) → Bool
there_of found = is_some (unwrap_or found None)

put_there : (values : List (Option Obj)) (k : ℕ) (obj : Obj) → k < length values → is_there (set values k (Some obj)) k ≡ true
put_there values k obj below = ap (λ found. is_some (unwrap_or found None)) (set_here values k (Some obj) below)

pub put_grows : (values : List (Option Obj)) (k : ℕ) (obj : Obj) → k < length values → Grows (is_there values) (is_there (set values k (Some obj)))
put_grows values k obj below i there = ⊎_elim
    (λ (h : (nat_eq i k ≡ true) × (i ≡ k)). ap (is_there (set values k (Some obj))) h.1 ∙ put_there values k obj below)
    (λ (h : (nat_eq i k ≡ false) × (i ≢ k)). ap (λ found. is_some (unwrap_or found None)) (set_else values k i (Some obj) h.1) ∙ there) (eqb_tells i k)

same_obj : (o p : Obj) → Some (Some o) ≡ Some (Some p) → o ≡ p
same_obj o p e = cc

has_last : (finished : List ℕ) (k i : ℕ) → i ≢ k → has (finished ++ k ∷ []) i ≡ true → has finished i ≡ true
has_last finished k i apart h =
    last (has finished i) (nat_eq k i) (sym (list_any-append (λ j. nat_eq j i) finished (k ∷ [])) ∙ h) (grind (arith, nat_tests))
  where
    last : (a b : Bool) → (a || (b || false)) ≡ true → b ≡ false → a ≡ true
    last true b e f = refl
    last false true e f = absurd (let g : true ≡ false = f in cc)
    last false false e f = e

pub put_sound : (plan : Plan) (values : List (Option Obj)) (handed finished : List ℕ) (k : ℕ) (obj : Obj) → IsSound plan values handed finished
    → has handed k ≡ true → value_at (over_nothing plan) k ≡ Some (value_of obj) → k < length values → IsSound plan (set values k (Some obj)) handed (finished ++ k ∷ [])
put_sound plan values handed finished k obj sound out value below = record {
  runnable = sound.runnable;
  sized = length-set values k (Some obj) ∙ sound.sized;
  known = λ i o is. ⊎_elim
      (λ (h : (nat_eq i k ≡ true) × (i ≡ k)).
      let same : obj ≡ o = same_obj obj o (sym (set_here values k (Some obj) below) ∙ ap (slice_get (set values k (Some obj))) (sym h.1) ∙ is) in
      ap (value_at (over_nothing plan)) h.1 ∙ value ∙ ap (λ p. Some (value_of p)) same)
      (λ (h : (nat_eq i k ≡ false) × (i ≢ k)). sound.known i o (sym (set_else values k i (Some obj) h.1) ∙ is)) (eqb_tells i k);
  binds = λ i instr is bind. put_grows values k obj below i (sound.binds i instr is bind);
  done_there = λ i done. ⊎_elim
      (λ (h : (nat_eq i k ≡ true) × (i ≡ k)). ap (is_there (set values k (Some obj))) h.1 ∙ put_there values k obj below)
      (λ (h : (nat_eq i k ≡ false) × (i ≢ k)). put_grows values k obj below i (sound.done_there i (has_last finished k i h.1 done))) (eqb_tells i k);
  within = λ i done. ⊎_elim
      (λ (h : (nat_eq i k ≡ true) × (i ≡ k)). ap (has handed) h.1 ∙ out)
      (λ (h : (nat_eq i k ≡ false) × (i ≢ k)). sound.within i (has_last finished k i h.1 done)) (eqb_tells i k);
}

has_more : (finished : List ℕ) (k i : ℕ) → has finished i ≡ true → has (finished ++ k ∷ []) i ≡ true
has_more finished k i done = list_any-append (λ j. nat_eq j i) finished (k ∷ []) ∙ ap (λ b. b || has (k ∷ []) i) done

has_new : (finished : List ℕ) (k i : ℕ) → i ≡ k → has (finished ++ k ∷ []) i ≡ true
has_new finished k i same = list_any-append (λ j. nat_eq j i) finished (k ∷ []) ∙ second (has finished i) (nat_eq k i) (grind (arith, nat_tests))
  where
    second : (a b : Bool) → b ≡ true → (a || (b || false)) ≡ true
    second true b e = refl
    second false b e = ap (λ c. c || false) e

pub put_only : (instrs : List Instr) (values : List (Option Obj)) (finished : List ℕ) (k : ℕ) (obj : Obj) → OnlyDone instrs values finished
    → OnlyDone instrs (set values k (Some obj)) (finished ++ k ∷ [])
put_only instrs values finished k obj only i job there = ⊎_elim
    (λ (h : (nat_eq i k ≡ true) × (i ≡ k)). has_new finished k i h.1)
    (λ (h : (nat_eq i k ≡ false) × (i ≢ k)).
    has_more finished k i (only i job (ap (λ found. is_some (unwrap_or found None)) (sym (set_else values k i (Some obj) h.1)) ∙ there))) (eqb_tells i k)

-- ## Arguments

there_is : (values : List (Option Obj)) (n : ℕ) → is_there values n ≡ is_some (arg_value (known_of values) (Var n))
there_is values n = flat (slice_get values n) ∙ ap (λ found. is_some (unwrap_or found None)) (sym (slice_get-map (option_map value_of) values n))
  where
    flat : (found : Option (Option Obj)) → is_some (unwrap_or found None) ≡ is_some (unwrap_or (option_map (option_map value_of) found) None)
    flat None = refl
    flat (Some None) = refl
    flat (Some (Some o)) = refl

all_there : (values : List (Option Obj)) (args : List Arg) → has_all (is_there values) args ≡ is_some (arg_values (known_of values) args)
all_there values [] = refl
all_there values (Const c ∷ args) = all_there values args ∙ kept (arg_values (known_of values) args)
  where
    kept : (found : Option (List Value)) → is_some found ≡ is_some (option_map (λ ys. One c ∷ ys) found)
    kept None = refl
    kept (Some vs) = refl
all_there values (Var n ∷ args) =
    ap (λ b. b && has_all (is_there values) args) (there_is values n) ∙ ap (λ b. is_some (arg_value (known_of values) (Var n)) && b) (all_there values args)
    ∙ both (arg_value (known_of values) (Var n)) (arg_values (known_of values) args)
  where
    both : (first : Option Value) (rest : Option (List Value)) → (is_some first && is_some rest) ≡ is_some (option_and_then (λ y. option_map (λ ys. y ∷ ys) rest) first)
    both None rest = refl
    both (Some v) None = refl
    both (Some v) (Some vs) = refl

take_none : {X : Type 0} (i : ℕ) → take {A = X} i [] ≡ []
take_none zero = refl
take_none (suc i) = refl

get_before : {X : Type 0} (xs : List X) (i n : ℕ) → n < i → slice_get (take i xs) n ≡ slice_get xs n
get_before {X} [] i n below = ap (λ (l : List X). slice_get l n) (take_none i)
get_before (x ∷ xs) zero n below = absurd (grind arith)
get_before (x ∷ xs) (suc i) zero below = refl
get_before (x ∷ xs) (suc i) (suc n) below = get_before xs i n (grind arith)

var_before : (b : Basis) (values : List (Option Obj)) (i n : ℕ) (found : Option (Option Obj)) (v : Value)
    → ((obj : Obj) → slice_get values n ≡ Some (Some obj) → value_at b n ≡ Some (value_of obj))
    → slice_get values n ≡ found → nat_lt n i ≡ true → unwrap_or (option_map (option_map value_of) found) None ≡ Some v
    → arg_value (take i (basis_values b)) (Var n) ≡ Some v
var_before b values i n None v known is below e = absurd (none_is v e)
var_before b values i n (Some None) v known is below e = absurd (none_is v e)
var_before b values i n (Some (Some obj)) v known is below e =
    ap (λ found. unwrap_or found None) (get_before (basis_values b) i n (grind (arith, nat_tests))) ∙ known obj is ∙ e

arg_before : (b : Basis) (values : List (Option Obj)) (i : ℕ) (arg : Arg) (v : Value)
    → ((k : ℕ) (obj : Obj) → slice_get values k ≡ Some (Some obj) → value_at b k ≡ Some (value_of obj))
    → has_all (λ n. nat_lt n i) (arg ∷ []) ≡ true → arg_value (known_of values) arg ≡ Some v → arg_value (take i (basis_values b)) arg ≡ Some v
arg_before b values i (Const c) v known below e = e
arg_before b values i (Var n) v known below e =
    var_before b values i n (slice_get values n) v (known n) refl (first_so (nat_lt n i) true below)
    (ap (λ found. unwrap_or found None) (sym (slice_get-map (option_map value_of) values n)) ∙ e)

joined : (first first' : Option Value) (rest rest' : Option (List Value)) (vs : List Value)
    → ((v : Value) → first ≡ Some v → first' ≡ Some v) → ((ws : List Value) → rest ≡ Some ws → rest' ≡ Some ws)
    → option_and_then (λ y. option_map (λ ys. y ∷ ys) rest) first ≡ Some vs → option_and_then (λ y. option_map (λ ys. y ∷ ys) rest') first' ≡ Some vs
joined None first' rest rest' vs f g e = absurd (none_is vs e)
joined (Some v) first' None rest' vs f g e = absurd (none_is vs e)
joined (Some v) first' (Some ws) rest' vs f g e =
    ap (option_and_then (λ y. option_map (λ ys. y ∷ ys) rest')) (f v refl) ∙ ap (option_map (λ ys. v ∷ ys)) (g ws refl) ∙ e

first_of : (i : ℕ) (arg : Arg) (args : List Arg) → has_all (λ n. nat_lt n i) (arg ∷ args) ≡ true → has_all (λ n. nat_lt n i) (arg ∷ []) ≡ true
first_of i (Const c) args h = refl
first_of i (Var n) args h = and_from (nat_lt n i) true (first_so (nat_lt n i) (has_all (λ n. nat_lt n i) args) h) refl

rest_of : (i : ℕ) (arg : Arg) (args : List Arg) → has_all (λ n. nat_lt n i) (arg ∷ args) ≡ true → has_all (λ n. nat_lt n i) args ≡ true
rest_of i (Const c) args h = h
rest_of i (Var n) args h = second_so (nat_lt n i) (has_all (λ n. nat_lt n i) args) h

args_before : (b : Basis) (values : List (Option Obj)) (i : ℕ) (args : List Arg) (vs : List Value)
    → ((k : ℕ) (obj : Obj) → slice_get values k ≡ Some (Some obj) → value_at b k ≡ Some (value_of obj))
    → has_all (λ n. nat_lt n i) args ≡ true → arg_values (known_of values) args ≡ Some vs → arg_values (take i (basis_values b)) args ≡ Some vs
args_before b values i [] vs known below e = e
args_before b values i (arg ∷ args) vs known below e =
    joined (arg_value (known_of values) arg) (arg_value (take i (basis_values b)) arg) (arg_values (known_of values) args) (arg_values (take i (basis_values b)) args) vs
    (λ v f. arg_before b values i arg v known (first_of i arg args below) f)
    (λ ws f. args_before b values i args ws known (rest_of i arg args below) f) e

-- ## Tasks that are handed out

bind_apart : (o : Op) → not (is_bind o) ≡ true → o ≢ op.Bind
bind_apart o h e = let f : not (is_bind op.Bind) ≡ true = ap (λ p. not (is_bind p)) (sym e) ∙ h in cc

apart_from : (o : Op) → is_bind o ≡ false → o ≢ op.Bind
apart_from o h = bind_apart o (ap not h)

-- each plan fits a database without tables
column_fits : (args : List Arg) → is_column args ≡ true → fits_column no_tables args ≡ true
column_fits (Const (Text table) ∷ Const (Text column) ∷ Const (Text word) ∷ []) h = refl
column_fits args h = absurd (cc)

columns_fit : (o : Op) (args : List Arg) → (not (is_bind o) || is_column args) ≡ true → fits_columns_of no_tables o args ≡ true
columns_fit op.Bind args h = column_fits args h
columns_fit _ args h = refl

all_fit : (instrs : List Instr) → are_known instrs ≡ true → list_all (λ (i : Instr). fits_columns_of no_tables i.op i.args) instrs ≡ true
all_fit [] h = refl
all_fit (x ∷ xs) h =
    and_from (fits_columns_of no_tables x.op x.args) (list_all (λ (i : Instr). fits_columns_of no_tables i.op i.args) xs)
    (columns_fit x.op x.args (first_so (is_known x) (are_known xs) h)) (all_fit xs (second_so (is_known x) (are_known xs) h))

in_order : (plan : Plan) → IsRunnable plan → (i : ℕ) (instr : Instr) → slice_get plan.instrs i ≡ Some instr → has_all (λ n. nat_lt n i) instr.args ≡ true
in_order plan runs i instr is = checked_in_order plan runs.no_fault i instr is

fit_other : (o : Op) (args : List Value) → o ≢ op.Bind → FitsHere no_tables o (Some args) → Fits o args
fit_other op.Bind args apart fits = absurd (apart refl)
fit_other _ args apart fits = fits

-- the values kept are those of all
arg_among : (b : Basis) (values : List (Option Obj)) (arg : Arg) (v : Value)
    → ((k : ℕ) (obj : Obj) → slice_get values k ≡ Some (Some obj) → value_at b k ≡ Some (value_of obj))
    → arg_value (known_of values) arg ≡ Some v → arg_value (basis_values b) arg ≡ Some v
arg_among b values (Const c) v known e = e
arg_among b values (Var n) v known e = found (slice_get values n) refl (ap (λ found. unwrap_or found None) (sym (slice_get-map (option_map value_of) values n)) ∙ e)
  where
    found : (o : Option (Option Obj)) → slice_get values n ≡ o → unwrap_or (option_map (option_map value_of) o) None ≡ Some v → value_at b n ≡ Some v
    found None is h = absurd (none_is v h)
    found (Some None) is h = absurd (none_is v h)
    found (Some (Some obj)) is h = known n obj is ∙ h

args_among : (b : Basis) (values : List (Option Obj)) (args : List Arg) (vs : List Value)
    → ((k : ℕ) (obj : Obj) → slice_get values k ≡ Some (Some obj) → value_at b k ≡ Some (value_of obj))
    → arg_values (known_of values) args ≡ Some vs → arg_values (basis_values b) args ≡ Some vs
args_among b values [] vs known e = e
args_among b values (arg ∷ args) vs known e =
    joined (arg_value (known_of values) arg) (arg_value (basis_values b) arg) (arg_values (known_of values) args) (arg_values (basis_values b) args) vs
    (λ v f. arg_among b values arg v known f) (λ ws f. args_among b values args ws known f) e

fits_at : (plan : Plan) (values : List (Option Obj)) (handed finished : List ℕ) → IsSound plan values handed finished → (i : ℕ) (instr : Instr) (args : List Value)
    → slice_get plan.instrs i ≡ Some instr → instr.op ≢ op.Bind → arg_values (known_of values) instr.args ≡ Some args → Fits instr.op args
fits_at plan values handed finished sound i instr args is apart given =
    let laws = instrs_fit plan no_tables sound.runnable.no_fault (all_fit plan.instrs sound.runnable.known_binds) in
    let here = laws.2 i instr is in
    fit_other instr.op args apart (here.2.fits args (args_among (over_nothing plan) values instr.args args sound.known given))

ready_task : (plan : Plan) (values : List (Option Obj)) (handed finished : List ℕ) (task : Task) → IsSound plan values handed finished
    → IsReady plan.instrs (known_of values) handed task → IsTask (over_nothing plan) task
ready_task plan values handed finished task sound ready =
    let b = over_nothing plan in
    let apart : ready.instr.op ≢ op.Bind = apart_from ready.instr.op ready.is_no_bind in
    let given : arg_values (take task.instr (basis_values b)) ready.instr.args ≡ Some (values_of task.job.args.items) =
    args_before b values task.instr ready.instr.args (values_of task.job.args.items) sound.known (in_order plan sound.runnable task.instr ready.instr ready.is_there) ready.args in
    record {
      instr = ready.instr;
      is_there = ready.is_there;
      is_no_bind = apart;
      operator = ready.operator;
      args = given;
      fits = fit (sym ready.operator) (fits_at plan values handed finished sound task.instr ready.instr (values_of task.job.args.items) ready.is_there apart ready.args);
    }
  where
    fit : {o : Op} → o ≡ task.job.op → Fits o (values_of task.job.args.items) → CanRun task.job
    fit e h = subst (λ o. Fits o (values_of task.job.args.items)) e h

same_args : (instrs : List Instr) (i : ℕ) (x y : Instr) → slice_get instrs i ≡ Some x → slice_get instrs i ≡ Some y → x ≡ y
same_args instrs i x y e f = some_is x y (sym e ∙ f)

not_done : (handed finished : List ℕ) (k : ℕ) → Grows (has finished) (has handed) → has handed k ≡ false → has finished k ≡ false
not_done handed finished k within is_new = none (has finished k) refl
  where
    none : (b : Bool) → has finished k ≡ b → has finished k ≡ false
    none false e = e
    none true e = absurd (let f : true ≡ false = sym (within k e) ∙ is_new in cc)

job_there : (instrs : List Instr) (i : ℕ) (instr : Instr) → slice_get instrs i ≡ Some instr → is_bind instr.op ≡ false → is_job instrs i ≡ true
job_there instrs i instr is no_bind = ap (λ found. option_map_or (λ (y : Instr). not (is_bind y.op)) found false) is ∙ ap not no_bind

not_true : (b : Bool) → not b ≡ true → b ≡ false
not_true true e = cc
not_true false e = refl

job_no_bind : (instrs : List Instr) (i : ℕ) (instr : Instr) → slice_get instrs i ≡ Some instr → is_job instrs i ≡ true → is_bind instr.op ≡ false
job_no_bind instrs i instr is job = not_true (is_bind instr.op) (ap (λ found. option_map_or (λ (y : Instr). not (is_bind y.op)) found false) (sym is) ∙ job)

pub hands_out : (plan : Plan) (values : List (Option Obj)) (handed finished handed' : List ℕ) (task : Task) → IsSound plan values handed finished
    → IsReady plan.instrs (known_of values) handed task → handed' ≡ handed ++ task.instr ∷ []
    → IsHandedOut (over_nothing plan) (is_there values) (is_job plan.instrs) handed handed' finished task
hands_out plan values handed finished handed' task sound ready more = record {
  is_task = ready_task plan values handed finished task sound ready;
  needs = job_there plan.instrs task.instr ready.instr ready.is_there ready.is_no_bind;
  ready = λ instr is.
      ap (λ (y : Instr). has_all (is_there values) y.args) (same_args plan.instrs task.instr instr ready.instr is ready.is_there)
      ∙ all_there values ready.instr.args ∙ ap is_some ready.args;
  is_new = ready.is_new;
  is_due = not_done handed finished task.instr sound.within ready.is_new;
  now_out = more;
}

-- ## When it is whole

pub nothing_ready : (plan : Plan) (values : List (Option Obj)) (handed : List ℕ) → NoneReady plan.instrs (known_of values) handed (length plan.instrs)
    → NothingReady (over_nothing plan) (is_there values) (is_job plan.instrs) handed
nothing_ready plan values handed none i instr is needed is_new =
    all_there values instr.args ∙ ap is_some (none i instr (slice_get_within plan.instrs i instr is) is (job_no_bind plan.instrs i instr is needed) is_new)

-- as many values as instructions
values_long : (db : Db) (values : List (Option Value)) (instrs : List Instr) → length (values_from db values instrs) ≡ length values + length instrs
values_long db values [] = omega arith
values_long db values (x ∷ xs) = values_long db (values ++ instr_value db values x ∷ []) xs ∙ ap (λ n. n + length xs) (length-append values (instr_value db values x ∷ [])) ∙ omega arith

all_have : (values : List (Option Value)) → ((i : ℕ) → i < length values → is_some (unwrap_or (slice_get values i) None) ≡ true) → IsSome (all_or_none values)
all_have [] each = refl
all_have (None ∷ vs) each = absurd (let f : false ≡ true = each 0 (grind arith) in cc)
all_have (Some v ∷ vs) each = kept (all_or_none vs) (all_have vs (λ i below. each (suc i) (grind arith)))
  where
    kept : (found : Option (List Value)) → IsSome found → IsSome (option_map (λ ys. v ∷ ys) found)
    kept None h = h
    kept (Some ws) h = refl

obj_there : (values : List (Option Obj)) (i : ℕ) → is_there values i ≡ true → (obj : Obj) × (slice_get values i ≡ Some (Some obj))
obj_there values i there = found (slice_get values i) refl there
  where
    found : (o : Option (Option Obj)) → slice_get values i ≡ o → is_some (unwrap_or o None) ≡ true → (obj : Obj) × (slice_get values i ≡ Some (Some obj))
    found None e h = absurd (let f : false ≡ true = h in cc)
    found (Some None) e h = absurd (let f : false ≡ true = h in cc)
    found (Some (Some obj)) e h = (obj, e)

before_all : (test : ℕ → Bool) (i : ℕ) (args : List Arg) → has_all (λ n. nat_lt n i) args ≡ true → ((n : ℕ) → n < i → test n ≡ true) → has_all test args ≡ true
before_all test i [] below each = refl
before_all test i (Const c ∷ args) below each = before_all test i args below each
before_all test i (Var n ∷ args) below each =
    let first : nat_lt n i ≡ true = first_so (nat_lt n i) (has_all (λ n. nat_lt n i) args) below in
    and_from (test n) (has_all test args) (each n (grind (arith, nat_tests))) (before_all test i args (second_so (nat_lt n i) (has_all (λ n. nat_lt n i) args) below) each)

none_there : {X : Type 0} (xs : List X) (i : ℕ) → i < length xs → slice_get xs i ≡ None → ⊥
none_there [] i below e = grind arith
none_there (x ∷ xs) zero below e = none_is x (sym e)
none_there (x ∷ xs) (suc i) below e = none_there xs i (grind arith) e

module _ (plan : Plan) (values : List (Option Obj)) (handed finished : List ℕ) (sound : IsSound plan values handed finished)
    (none : NoneReady plan.instrs (known_of values) handed (length plan.instrs)) (none_out : NoneOut handed finished) where
  there_next : (i : ℕ) (instr : Instr) (bind out : Bool) → slice_get plan.instrs i ≡ Some instr → is_bind instr.op ≡ bind → has handed i ≡ out
      → ((n : ℕ) → n < i → is_there values n ≡ true) → is_there values i ≡ true
  there_next i instr true out is bind here earlier = sound.binds i instr is bind
  there_next i instr false true is bind here earlier = sound.done_there i (done (has finished i) refl)
    where
      done : (b : Bool) → has finished i ≡ b → has finished i ≡ true
      done true e = e
      done false e = absurd (let f : (true && not false) ≡ false = ap (λ b. b && not false) (sym here) ∙ ap (λ b. has handed i && not b) (sym e) ∙ none_out i in cc)
  there_next i instr false false is bind here earlier =
      let all : has_all (is_there values) instr.args ≡ true = before_all (is_there values) i instr.args (in_order plan sound.runnable i instr is) earlier in
      let not_all : has_all (is_there values) instr.args ≡ false = nothing_ready plan values handed none i instr is (job_there plan.instrs i instr is bind) here in
      absurd (let f : true ≡ false = sym all ∙ not_all in cc)

  there_at : (count : ℕ) → count < length plan.instrs → (found : Option Instr) → slice_get plan.instrs count ≡ found → ((n : ℕ) → n < count → is_there values n ≡ true) → is_there values count ≡ true
  there_at count under None e earlier = absurd (none_there plan.instrs count under e)
  there_at count under (Some instr) e earlier = there_next count instr (is_bind instr.op) (has handed count) e refl refl earlier

  there_below : (count : ℕ) → count ≤ length plan.instrs → (i : ℕ) → i < count → is_there values i ≡ true
  there_below zero within i below = absurd (grind arith)
  there_below (suc count) within i below = ⊎_elim
      (λ (h : (nat_eq i count ≡ true) × (i ≡ count)). subst (λ n. is_there values n ≡ true) (sym h.1) (there_at count (grind arith) (slice_get plan.instrs count) refl (λ n under. there_below count (grind arith) n under)))
      (λ (h : (nat_eq i count ≡ false) × (i ≢ count)). there_below count (grind arith) i (let apart = h.1 in omega arith)) (eqb_tells i count)

  pub is_whole : IsWhole (over_nothing plan) (is_there values)
  is_whole = record {
    each = λ i below. there_below (length plan.instrs) (grind arith) i below;
    values = all_have (basis_values (over_nothing plan)) (λ i below.
        let under : i < length plan.instrs = let long = values_long (over_nothing plan).database [] plan.instrs in omega arith in
        let obj = obj_there values i (there_below (length plan.instrs) (grind arith) i under) in
        ap is_some (sound.known i obj.0 obj.1));
  }

pub idle : (plan : Plan) (values : List (Option Obj)) (handed finished : List ℕ) → IsSound plan values handed finished
    → NoneReady plan.instrs (known_of values) handed (length plan.instrs) → IsIdle (over_nothing plan) (is_there values) (is_job plan.instrs) handed finished
idle plan values handed finished sound none = record {
  nothing_ready = nothing_ready plan values handed none;
  whole = λ none_out. is_whole plan values handed finished sound none none_out;
}

-- ## The beginning

bind_value_is : (values : List (Option Value)) (args : List Arg) → is_column args ≡ true → option_and_then (bind_value no_tables) (arg_values values args) ≡ Some (Bat [])
bind_value_is values (Const (Text table) ∷ Const (Text column) ∷ Const (Text word) ∷ []) h = refl
bind_value_is values args h = absurd (cc)

op_bind : (values : List (Option Value)) (o : Op) (args : List Arg) → (not (is_bind o) || is_column args) ≡ true → is_bind o ≡ true → option_and_then (value_over no_tables o) (arg_values values args) ≡ Some (Bat [])
op_bind values op.Bind args k b = bind_value_is values args k
op_bind values _ args k b = absurd (let f : false ≡ true = b in cc)

instr_bind : (values : List (Option Value)) (instr : Instr) → is_known instr ≡ true → is_bind instr.op ≡ true → instr_value no_tables values instr ≡ Some (Bat [])
unfolding instr_value
instr_bind values instr known bind = op_bind values instr.op instr.args known bind

known_at : (instrs : List Instr) (i : ℕ) (instr : Instr) → are_known instrs ≡ true → slice_get instrs i ≡ Some instr → is_known instr ≡ true
known_at [] i instr h is = absurd (none_is instr is)
known_at (x ∷ xs) zero instr h is = ap is_known (sym (some_is x instr is)) ∙ first_so (is_known x) (are_known xs) h
known_at (x ∷ xs) (suc i) instr h is = known_at xs i instr (second_so (is_known x) (are_known xs) h) is

value_begun : (plan : Plan) → IsRunnable plan → (i : ℕ) (instr : Instr) → slice_get plan.instrs i ≡ Some instr → is_bind instr.op ≡ true → value_at (over_nothing plan) i ≡ Some (Bat [])
value_begun plan runs i instr is bind =
    let here : slice_get (basis_values (over_nothing plan)) i ≡ Some (instr_value no_tables (take i (basis_values (over_nothing plan))) instr) =
    subst (λ k. IsComputed no_tables (basis_values (over_nothing plan)) k instr) (omega arith) (computed no_tables [] plan.instrs i instr is) in
    ap (λ found. unwrap_or found None) here ∙ instr_bind (take i (basis_values (over_nothing plan))) instr (known_at plan.instrs i instr runs.known_binds is) bind

some_of : (v : Value) (b : Bool) → Some (Some v) ≡ Some (if b then Some (Bat []) else None) → (b ≡ true) × (v ≡ Bat [])
some_of v true e = (refl, some_is v (Bat []) (some_is (Some v) (Some (Bat [])) e))
some_of v false e = absurd (none_is v (sym (some_is (Some v) None e)))

no_start : (found : Option Instr) → option_map_or (λ (instr : Instr). not (is_bind instr.op)) found false ≡ true → is_some (unwrap_or (option_map start_value found) None) ≡ false
no_start None job = refl
no_start (Some instr) job = ap (λ b. is_some (if b then Some (Bat []) else None)) (not_true (is_bind instr.op) job)

pub begins_only : (instrs : List Instr) (values : List (Option Obj)) → known_of values ≡ map start_value instrs → OnlyDone instrs values []
begins_only instrs values begun i job there =
    sym (there_is values i ∙ ap (λ l. is_some (unwrap_or (slice_get l i) None)) begun ∙ ap (λ found. is_some (unwrap_or found None)) (slice_get-map start_value instrs i)
    ∙ no_start (slice_get instrs i) job) ∙ there

module _ (plan : Plan) (values : List (Option Obj)) (runs : IsRunnable plan) (begun : known_of values ≡ map start_value plan.instrs) where
  begun_at : (i : ℕ) → option_map (option_map value_of) (slice_get values i) ≡ option_map start_value (slice_get plan.instrs i)
  begun_at i = sym (slice_get-map (option_map value_of) values i) ∙ ap (λ l. slice_get l i) begun ∙ slice_get-map start_value plan.instrs i

  known_found : (i : ℕ) (obj : Obj) (o : Option Instr) → slice_get plan.instrs i ≡ o → Some (Some (value_of obj)) ≡ option_map start_value o → value_at (over_nothing plan) i ≡ Some (value_of obj)
  known_found i obj None e same = absurd (none_is (Some (value_of obj)) (sym same))
  known_found i obj (Some instr) e same =
      let found = some_of (value_of obj) (is_bind instr.op) same in
      value_begun plan runs i instr e found.0 ∙ ap Some (sym found.1)

  known_begun : (i : ℕ) (obj : Obj) → slice_get values i ≡ Some (Some obj) → value_at (over_nothing plan) i ≡ Some (value_of obj)
  known_begun i obj is = known_found i obj (slice_get plan.instrs i) refl (ap (option_map (option_map value_of)) (sym is) ∙ begun_at i)

  binds_begun : (i : ℕ) (instr : Instr) → slice_get plan.instrs i ≡ Some instr → is_bind instr.op ≡ true → is_there values i ≡ true
  binds_begun i instr is bind =
      there_is values i ∙ ap (λ l. is_some (unwrap_or (slice_get l i) None)) begun
      ∙ ap (λ found. is_some (unwrap_or found None)) (slice_get-map start_value plan.instrs i ∙ ap (option_map start_value) is)
      ∙ ap (λ b. is_some (if b then Some (Bat []) else None)) bind

  pub begins_sound : IsSound plan values [] []
  begins_sound = record {
    runnable = runs;
    sized = sym (length-map values (option_map value_of)) ∙ ap length begun ∙ length-map plan.instrs start_value;
    known = known_begun;
    binds = binds_begun;
    done_there = λ i done. absurd (let f : false ≡ true = done in cc);
    within = λ i done. absurd (let f : false ≡ true = done in cc);
  }
