-- That a plan without a fault can be run.
use Rattle.std.specs.Prelude.{◌≡◌, ℕ, zero, suc, ◌==◌, List, [], ◌∷◌, ◌++◌, map, length, Bool, true, false, cond, Option, Some, None, Result, Ok, Err, slice_get, unwrap_or, ok_or, IsSome, refl}
use Rattle.std.specs.Cmp.{first_so, second_so}
use Rattle.std.proofs.Common.{ap, sym, ◌∙◌, subst, arith}
use Rattle.std.proofs.lemmas.Option.{slice_get_past}
use Rattle.std.specs.List.{list_all}
use Rattle.std.specs.Option.{option_map, option_map_or, option_and_then}
use Rattle.std.proofs.lemmas.Bool.{and_from}
use Rattle.cell_core.specs.declared.cell.Cell.{Cell}
use Rattle.cell_core.specs.declared.cell.Cell.TheVariants.{Nil, Int, Huge, Text, Day, Bit, Oid}
use Rattle.cell_core.specs.declared.cell.Kind.{Kind}
use Rattle.cell_core.specs.declared.cell.Kind.TheVariants as kind
use Rattle.cell_core.specs.declared.operator.Op.{Op}
use Rattle.cell_core.specs.declared.operator.Op.TheVariants as op
use Rattle.cell_core.specs.declared.operator.Arg.{Arg}
use Rattle.cell_core.specs.declared.operator.Arg.TheVariants.{Const, Var}
use Rattle.cell_core.specs.declared.operator.Instr.{Instr}
use Rattle.cell_core.specs.declared.operator.Value.{Value}
use Rattle.cell_core.specs.declared.operator.Value.TheVariants.{Bat, One}
use Rattle.cell_core.specs.declared.table.Db.{Db}
use Rattle.cell_core.specs.Pairs.{Pairs}
use Rattle.cell_core.specs.Kinds.{ValueType, OneOf, BatOf, kind_of, is_of_kind, is_of_type, are_of_types, named_kind, bind_type, result_type}
use Rattle.cell_core.specs.Relations.{bound}
use Rattle.cell_core.specs.Forms.{argument_count}
use Rattle.mal_meaning.specs.declared.plan.Plan.{Plan}
use Rattle.mal_meaning.specs.Meaning.{arg_value, arg_values, bind_value, value_over, instr_value}
use Rattle.mal_meaning.specs.Runs.{FitsHere, RunsFrom, Runs}
use Rattle.mal_check.specs.declared.error.PlanError.{PlanError}
use Rattle.mal_check.specs.declared.error.PlanError.TheVariants.{KindsDiffer, WrongCount}
use Rattle.mal_check.specs.Checked.{arg_type, arg_types, type_over, type_at, instr_type, fault_or_else, types_from, instr_types, fault_with, plan_fault}
use Rattle.mal_check.specs.Runnable.{fits_column, fits_columns_of, FitsDb}
use Rattle.cell_core.proofs.ListLemmas.{both_found}
use Rattle.mal_check.proofs.ListTests.{some_is}
use Rattle.mal_check.proofs.TypedResults.{typed_result}

-- ## Arguments

pub constant_is : (c : Cell) → is_of_kind (kind_of c) c ≡ true
constant_is Nil = refl
constant_is (Int n) = refl
constant_is (Huge n) = refl
constant_is (Text bs) = refl
constant_is (Day n) = refl
constant_is (Bit b) = refl
constant_is (Oid n) = refl

-- a value of a type, where there is one
abbrev pub TypedValue : Option Value → ValueType → Type 0
TypedValue found t = (v : Value) × (found ≡ Some v) × (is_of_type v t ≡ true)

abbrev TypedValues : Option (List Value) → List ValueType → Type 0
TypedValues found types = (vs : List Value) × (found ≡ Some vs) × (are_of_types vs types ≡ true)

value_with : (v : Value) (s t : ValueType) → Some s ≡ Some t → is_of_type v s ≡ true → TypedValue (Some v) t
value_with v s t e h = (v, refl, let P : ValueType → Type 0 = λ y. is_of_type v y ≡ true in subst P (some_is s t e) h)

value_at : (values : List Value) (types : List ValueType) (n : ℕ) (t : ValueType) → are_of_types values types ≡ true → slice_get types n ≡ Some t
    → TypedValue (unwrap_or (slice_get (map Some values) n) None) t
value_at (v ∷ vs) (s ∷ ts) zero t ok e = value_with v s t e (first_so (is_of_type v s) (are_of_types vs ts) ok)
value_at (v ∷ vs) (s ∷ ts) (suc n) t ok e = value_at vs ts n t (second_so (is_of_type v s) (are_of_types vs ts) ok) e
value_at [] [] n t ok e = absurd (let e' : None ≡ Some t = sym (slice_get_past [] n (grind arith)) ∙ e in cc)
value_at [] (s ∷ ts) n t ok e = absurd (cc)
value_at (v ∷ vs) [] n t ok e = absurd (cc)

value_of_arg : (values : List Value) (types : List ValueType) (arg : Arg) (t : ValueType) → are_of_types values types ≡ true → arg_type types arg ≡ Some t
    → TypedValue (arg_value (map Some values) arg) t
value_of_arg values types (Const c) t ok e = value_with (One c) (OneOf (kind_of c)) t e (constant_is c)
value_of_arg values types (Var n) t ok e = value_at values types n t ok e

-- one more argument
values_more : (found : Option Value) (rest : Option (List Value)) (t : ValueType) (ts : List ValueType) → TypedValue found t → TypedValues rest ts
    → TypedValues (option_and_then (λ y. option_map (λ ys. y ∷ ys) rest) found) (t ∷ ts)
values_more found rest t ts first others = (
  first.0 ∷ others.0,
  ap (λ f. option_and_then (λ y. option_map (λ ys. y ∷ ys) rest) f) first.1 ∙ ap (λ r. option_map (λ ys. first.0 ∷ ys) r) others.1,
  and_from (is_of_type first.0 t) (are_of_types others.0 ts) first.2 others.2,
)

values_of_args : (values : List Value) (types : List ValueType) (args : List Arg) (found : List ValueType) → are_of_types values types ≡ true
    → arg_types types args ≡ Some found → TypedValues (arg_values (map Some values) args) found
values_of_args values types [] [] ok e = ([], refl, refl)
values_of_args values types [] (t ∷ ts) ok e = absurd (cc)
values_of_args values types (arg ∷ args) found ok e =
    let parts : (t : ValueType) × (ts : List ValueType) × (arg_type types arg ≡ Some t) × (arg_types types args ≡ Some ts) × (t ∷ ts ≡ found) = both_found (arg_type types arg) (arg_types types args) found e in
    let P : List ValueType → Type 0 = λ ts. TypedValues (arg_values (map Some values) (arg ∷ args)) ts in
    subst P parts.4 (values_more (arg_value (map Some values) arg) (arg_values (map Some values) args) parts.0 parts.1
    (value_of_arg values types arg parts.0 ok parts.2) (values_of_args values types args parts.1 ok parts.3))

-- ## Instructions

type_found : (n : ℕ) (operator : Op) (args : List Arg) (types : List ValueType) (t : ValueType) (same : Bool) (result : Option ValueType)
    → cond same (ok_or result (KindsDiffer n)) (Err (WrongCount n)) ≡ Ok t → result ≡ Some t
type_found n operator args types t true None e = cc
type_found n operator args types t true (Some s) e = cc
type_found n operator args types t false result e = cc

-- the types of the arguments of an instruction without a fault, which fit its operator
pub types_given : (n : ℕ) (operator : Op) (args : List Arg) (given : Option (List ValueType)) (t : ValueType) → type_at n operator args given ≡ Ok t
    → (ts : List ValueType) × (given ≡ Some ts) × (type_over operator args ts ≡ Some t)
types_given n operator args None t e = absurd (cc)
types_given n operator args (Some ts) t e = (ts, refl, type_found n operator args ts t (length args == argument_count operator) (type_over operator args ts) e)

-- ## Binds

column_value : (b : Option Pairs) (h k : Option Kind) (t : ValueType) → option_map_or (λ p. is_of_type (Bat p) (BatOf h k)) b true ≡ true → BatOf h k ≡ t → TypedValue (Some (Bat (unwrap_or b []))) t
column_value None h k t fits e = (Bat [], refl, let P : ValueType → Type 0 = λ y. is_of_type (Bat []) y ≡ true in subst P e refl)
column_value (Some p) h k t fits e = (Bat p, refl, let P : ValueType → Type 0 = λ y. is_of_type (Bat p) y ≡ true in subst P e fits)

column_type : (k : Option Kind) (t : ValueType) → option_map (λ k. BatOf (Some kind.Oid) (Some k)) k ≡ Some t → BatOf (Some kind.Oid) k ≡ t
column_type None t e = cc
column_type (Some k) t e = some_is (BatOf (Some kind.Oid) (Some k)) t e

bind_found : (db : Db) (values : List (Option Value)) (args : List Arg) (t : ValueType) → fits_column db args ≡ true → bind_type args ≡ Some t
    → TypedValue (option_and_then (bind_value db) (arg_values values args)) t
bind_found db values (Const (Text table) ∷ Const (Text column) ∷ Const (Text word) ∷ []) t fits e =
    column_value (bound table column db) (Some kind.Oid) (named_kind word) t fits (column_type (named_kind word) t e)
bind_found db values args t fits e = absurd (cc)

some_of : (found : Option Value) (t : ValueType) → TypedValue found t → IsSome found
some_of None t h = absurd (let e : None ≡ Some h.0 = h.1 in cc)
some_of (Some v) t h = refl

value_typed : (found : Option Value) (t : ValueType) (value : Value) → TypedValue found t → found ≡ Some value → is_of_type value t ≡ true
value_typed found t value h e = let P : Value → Type 0 = λ y. is_of_type y t ≡ true in subst P (some_is h.0 value (sym h.1 ∙ e)) h.2

some_fit : (operator : Op) (ts : List ValueType) (t : ValueType) → result_type operator ts ≡ Some t → IsSome (result_type operator ts)
some_fit operator ts t e = let P : Option ValueType → Type 0 = λ r. IsSome r in subst P (sym e) refl

-- an instruction can be run where its arguments have values of types that fit it
pub fits_here : (db : Db) (operator : Op) (args : List Arg) (vs : List Value) (ts : List ValueType) (t : ValueType) → are_of_types vs ts ≡ true
    → type_over operator args ts ≡ Some t → fits_columns_of db operator args ≡ true
    → ((e : operator ≡ op.Bind) → TypedValue (bind_value db vs) t) → FitsHere db operator (Some vs)
fits_here db op.Bind args vs ts t ok fit has column = some_of (bind_value db vs) t (column refl)
fits_here db operator args vs ts t ok fit has column = record { types = ts; are_typed = ok; fit = some_fit operator ts t fit }

-- and its value is of the type of its result
pub result_is : (db : Db) (operator : Op) (args : List Arg) (vs : List Value) (ts : List ValueType) (t : ValueType) (value : Value) → are_of_types vs ts ≡ true
    → type_over operator args ts ≡ Some t
    → ((e : operator ≡ op.Bind) → TypedValue (bind_value db vs) t) → value_over db operator vs ≡ Some value → is_of_type value t ≡ true
result_is db op.Bind args vs ts t value ok fit column e = value_typed (bind_value db vs) t value (column refl) e
result_is db operator args vs ts t value ok fit column e = typed_result operator vs ts value t ok fit e

-- ## Plans

are_more : (values : List Value) (types : List ValueType) (value : Value) (t : ValueType) → are_of_types values types ≡ true → is_of_type value t ≡ true
    → are_of_types (values ++ value ∷ []) (types ++ t ∷ []) ≡ true
are_more [] [] value t ok h = and_from (is_of_type value t) true h refl
are_more (v ∷ vs) (s ∷ ts) value t ok h = and_from (is_of_type v s) (are_of_types (vs ++ value ∷ []) (ts ++ t ∷ []))
    (first_so (is_of_type v s) (are_of_types vs ts) ok) (are_more vs ts value t (second_so (is_of_type v s) (are_of_types vs ts) ok) h)
are_more values types value t ok h = cc

pub column_of : (db : Db) (values : List (Option Value)) (operator : Op) (args : List Arg) (vs : List Value) (ts : List ValueType) (t : ValueType)
    → arg_values values args ≡ Some vs → type_over operator args ts ≡ Some t → fits_columns_of db operator args ≡ true
    → operator ≡ op.Bind → TypedValue (bind_value db vs) t
column_of db values op.Bind args vs ts t given fit has e =
    let P : Option (List Value) → Type 0 = λ found. TypedValue (option_and_then (bind_value db) found) t in subst P given (bind_found db values args t has fit)
column_of db values operator args vs ts t given fit has e = absurd (cc)

-- an instruction without a fault can be run, and yields a value of its type
abbrev RunsHere : Db → List Value → Instr → ValueType → Type 0
RunsHere db values instr t =
    FitsHere db instr.op (arg_values (map Some values) instr.args)
    × ((value : Value) → instr_value db (map Some values) instr ≡ Some value → is_of_type value t ≡ true)

runs_here : (db : Db) (values : List Value) (types : List ValueType) (instr : Instr) (t : ValueType) → are_of_types values types ≡ true
    → instr_type types instr ≡ Ok t → fits_columns_of db instr.op instr.args ≡ true → RunsHere db values instr t
unfolding instr_type instr_value
runs_here db values types instr t ok e has =
    let given : (ts : List ValueType) × (arg_types types instr.args ≡ Some ts) × (type_over instr.op instr.args ts ≡ Some t) =
    types_given (length types) instr.op instr.args (arg_types types instr.args) t e in
    let vs : TypedValues (arg_values (map Some values) instr.args) given.0 = values_of_args values types instr.args given.0 ok given.1 in
    let column : instr.op ≡ op.Bind → TypedValue (bind_value db vs.0) t = column_of db (map Some values) instr.op instr.args vs.0 given.0 t vs.1 given.2 has in
    let P : Option (List Value) → Type 0 = λ found. FitsHere db instr.op found in (
      subst P (sym vs.1) (fits_here db instr.op instr.args vs.0 given.0 t vs.2 given.2 has column),
      λ value h. result_is db instr.op instr.args vs.0 given.0 t value vs.2 given.2 column (sym (ap (option_and_then (value_over db instr.op)) vs.1) ∙ h),
    )

runs_next : (db : Db) (values : List Value) (types : List ValueType) (instr : Instr) (instrs : List Instr) (all : List ValueType) (result : Result ValueType PlanError)
    → are_of_types values types ≡ true → instr_type types instr ≡ result → fault_or_else (λ found. types_from (types ++ found ∷ []) instrs) result ≡ Ok all
    → fits_columns_of db instr.op instr.args ≡ true
    → ((value : Value) (t : ValueType) → is_of_type value t ≡ true → types_from (types ++ t ∷ []) instrs ≡ Ok all → RunsFrom db (values ++ value ∷ []) instrs)
    → RunsFrom db values (instr ∷ instrs)
runs_next db values types instr instrs all (Err x) ok s e has rest = absurd (cc)
runs_next db values types instr instrs all (Ok t) ok s e has rest =
    let here : RunsHere db values instr t = runs_here db values types instr t ok s has in
    (here.0, λ value h. rest value t (here.1 value h) e)

runs_from : (db : Db) (values : List Value) (types : List ValueType) (instrs : List Instr) (all : List ValueType) → are_of_types values types ≡ true
    → types_from types instrs ≡ Ok all → list_all (λ (i : Instr). fits_columns_of db i.op i.args) instrs ≡ true → RunsFrom db values instrs
runs_from db values types [] all ok e has = tt
runs_from db values types (i ∷ is) all ok e has =
    runs_next db values types i is all (instr_type types i) ok refl e
    (first_so (fits_columns_of db i.op i.args) (list_all (λ (i : Instr). fits_columns_of db i.op i.args) is) has)
    (λ value t h more. runs_from db (values ++ value ∷ []) (types ++ t ∷ []) is all (are_more values types value t ok h) more
    (second_so (fits_columns_of db i.op i.args) (list_all (λ (i : Instr). fits_columns_of db i.op i.args) is) has))

runs_checked : (plan : Plan) (db : Db) (result : Result (List ValueType) PlanError) → instr_types plan.instrs ≡ result → fault_with plan.out result ≡ None → FitsDb plan db → Runs plan db
runs_checked plan db (Err x) s e fits = absurd (cc)
runs_checked plan db (Ok all) s e fits = runs_from db [] [] plan.instrs all refl s fits

-- a plan without a fault can be run over a database that has its columns
pub runs : (plan : Plan) (db : Db) → plan_fault plan ≡ None → FitsDb plan db → Runs plan db
runs plan db e fits = runs_checked plan db (instr_types plan.instrs) refl e fits
