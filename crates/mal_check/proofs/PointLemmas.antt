-- Each instruction of a plan without a fault fits, whether or not the others have values.
use Rattle.std.specs.Prelude.{◌≡◌, ℕ, zero, suc, ◌+◌, ◌<◌, List, [], ◌∷◌, ◌++◌, map, length, Bool, true, Option, Some, None, Result, Ok, Err, slice_get, unwrap_or, refl}
use Rattle.std.proofs.Common.{ap, sym, ◌∙◌, subst, arith, append-nil, append_assoc}
use Rattle.std.proofs.lemmas.Option.{slice_get_past, slice_get_within}
use Rattle.std.specs.Cmp.{first_so, second_so}
use Rattle.std.specs.List.{list_all}
use Rattle.std.specs.Option.{option_map, option_and_then}
use Rattle.std.proofs.lemmas.Bool.{and_from}
use Rattle.cell_core.proofs.ListLemmas.{both_found, slice_get-append_left, slice_get-append_middle}
use Rattle.cell_core.specs.declared.operator.Op.{Op}
use Rattle.cell_core.specs.declared.operator.Op.TheVariants as op
use Rattle.cell_core.specs.declared.operator.Arg.{Arg}
use Rattle.cell_core.specs.declared.operator.Arg.TheVariants.{Const, Var}
use Rattle.cell_core.specs.declared.operator.Instr.{Instr}
use Rattle.cell_core.specs.declared.operator.Value.{Value}
use Rattle.cell_core.specs.declared.operator.Value.TheVariants.{One}
use Rattle.cell_core.specs.declared.table.Db.{Db}
use Rattle.cell_core.specs.Kinds.{ValueType, OneOf, kind_of, is_of_type, are_of_types}
use Rattle.mal_meaning.specs.declared.plan.Plan.{Plan}
use Rattle.mal_meaning.specs.Meaning.{arg_value, arg_values, value_over, instr_value, values_from, plan_values}
use Rattle.mal_meaning.specs.Runs.{FitsHere}
use Rattle.mal_check.specs.declared.error.PlanError.{PlanError}
use Rattle.mal_check.specs.Checked.{arg_type, arg_types, type_over, instr_type, fault_or_else, types_from, instr_types, fault_with, plan_fault}
use Rattle.mal_check.specs.Runnable.{fits_columns_of, FitsDb}
use Rattle.mal_check.specs.Pointwise.{FitsAt}
use Rattle.mal_check.proofs.ListTests.{some_is}
use Rattle.mal_check.proofs.RunLemmas.{TypedValue, constant_is, types_given, fits_here, result_is, column_of}

-- ## Lists

plain : (n : ℕ) → n + 0 ≡ n
plain n = omega arith

get_next : {X : Type 0} (xs : List X) (y : X) (ys : List X) → slice_get ((xs ++ y ∷ []) ++ ys) (length xs + 0) ≡ Some y
get_next xs y ys = ap (slice_get ((xs ++ y ∷ []) ++ ys)) (plain (length xs)) ∙ ap (λ zs. slice_get zs (length xs)) (append_assoc xs (y ∷ []) ys) ∙ slice_get-append_middle xs y ys

one_longer : {X : Type 0} (xs : List X) (y : X) (k : ℕ) → length (xs ++ y ∷ []) + k ≡ length xs + suc k
one_longer [] y k = omega arith
one_longer (x ∷ xs) y k = let rest : length (xs ++ y ∷ []) + k ≡ length xs + suc k = one_longer xs y k in omega arith

-- ## Values of types, of which some may be missing

abbrev IsTyped : Option Value → ValueType → Type 0
IsTyped value t = (v : Value) → value ≡ Some v → is_of_type v t ≡ true

abbrev AreTyped : List (Option Value) → List ValueType → Type 0
AreTyped [] [] = Unit {0}
AreTyped (v ∷ vs) (t ∷ ts) = IsTyped v t × AreTyped vs ts
AreTyped [] (t ∷ ts) = ⊥
AreTyped (v ∷ vs) [] = ⊥

typed_more : (values : List (Option Value)) (types : List ValueType) (value : Option Value) (t : ValueType) → AreTyped values types → IsTyped value t → AreTyped (values ++ value ∷ []) (types ++ t ∷ [])
typed_more [] [] value t are is = (is, tt)
typed_more (v ∷ vs) (s ∷ ts) value t are is = (are.0, typed_more vs ts value t are.1 is)
typed_more [] (s ∷ ts) value t are is = absurd are
typed_more (v ∷ vs) [] value t are is = absurd are

typed_long : (values : List (Option Value)) (types : List ValueType) → AreTyped values types → length values ≡ length types
typed_long [] [] are = refl
typed_long (v ∷ vs) (t ∷ ts) are = ap suc (typed_long vs ts are.1)
typed_long [] (t ∷ ts) are = absurd are
typed_long (v ∷ vs) [] are = absurd are

along : (t s : ValueType) (v : Value) → t ≡ s → is_of_type v t ≡ true → is_of_type v s ≡ true
along t s v e h = let P : ValueType → Type 0 = λ y. is_of_type v y ≡ true in subst P e h

value_of : (x v : Value) (t : ValueType) → Some x ≡ Some v → is_of_type x t ≡ true → is_of_type v t ≡ true
value_of x v t e h = let P : Value → Type 0 = λ y. is_of_type y t ≡ true in subst P (some_is x v e) h

typed_at : (values : List (Option Value)) (types : List ValueType) (n : ℕ) (t : ValueType) → AreTyped values types → slice_get types n ≡ Some t → IsTyped (unwrap_or (slice_get values n) None) t
typed_at (v ∷ vs) (s ∷ ts) zero t are e = λ x f. along s t x (some_is s t e) (are.0 x f)
typed_at (v ∷ vs) (s ∷ ts) (suc n) t are e = typed_at vs ts n t are.1 e
typed_at [] [] n t are e = absurd (let e' : None ≡ Some t = sym (slice_get_past [] n (grind arith)) ∙ e in cc)
typed_at [] (s ∷ ts) n t are e = absurd are
typed_at (v ∷ vs) [] n t are e = absurd are

typed_arg : (values : List (Option Value)) (types : List ValueType) (arg : Arg) (t : ValueType) → AreTyped values types → arg_type types arg ≡ Some t → IsTyped (arg_value values arg) t
typed_arg values types (Const c) t are e = λ x f. along (OneOf (kind_of c)) t x (some_is (OneOf (kind_of c)) t e) (value_of (One c) x (OneOf (kind_of c)) f (constant_is c))
typed_arg values types (Var n) t are e = typed_at values types n t are e

typed_args : (values : List (Option Value)) (types : List ValueType) (args : List Arg) (found : List ValueType) (vs : List Value) → AreTyped values types
    → arg_types types args ≡ Some found → arg_values values args ≡ Some vs → are_of_types vs found ≡ true
typed_args values types [] [] [] are e f = refl
typed_args values types [] (t ∷ ts) vs are e f = cc
typed_args values types [] [] (v ∷ vs) are e f = cc
typed_args values types (arg ∷ args) found vs are e f =
    let t = both_found (arg_type types arg) (arg_types types args) found e in
    let v = both_found (arg_value values arg) (arg_values values args) vs f in
    let both : are_of_types (v.0 ∷ v.1) (t.0 ∷ t.1) ≡ true =
    and_from (is_of_type v.0 t.0) (are_of_types v.1 t.1) (typed_arg values types arg t.0 are t.2 v.0 v.2) (typed_args values types args t.1 v.1 are t.3 v.3) in
    sym (ap (λ vs. are_of_types vs found) v.4) ∙ sym (ap (λ ts. are_of_types (v.0 ∷ v.1) ts) t.4) ∙ both

-- ## Later values change no arguments

arg_kept : (values more : List (Option Value)) (types : List ValueType) (arg : Arg) (t : ValueType) → length values ≡ length types → arg_type types arg ≡ Some t
    → arg_value (values ++ more) arg ≡ arg_value values arg
arg_kept values more types (Const c) t long e = refl
arg_kept values more types (Var n) t long e =
    let low : n < length types = slice_get_within types n t e in
    ap (λ o. unwrap_or o None) (slice_get-append_left values more n (omega arith))

args_kept : (values more : List (Option Value)) (types : List ValueType) (args : List Arg) (found : List ValueType) → length values ≡ length types → arg_types types args ≡ Some found
    → arg_values (values ++ more) args ≡ arg_values values args
args_kept values more types [] found long e = refl
args_kept values more types (arg ∷ args) found long e =
    let t = both_found (arg_type types arg) (arg_types types args) found e in
    ap (λ v. option_and_then (λ y. option_map (λ ys. y ∷ ys) (arg_values (values ++ more) args)) v) (arg_kept values more types arg t.0 long t.2)
    ∙ ap (λ vs. option_and_then (λ y. option_map (λ ys. y ∷ ys) vs) (arg_value values arg)) (args_kept values more types args t.1 long t.3)

values_grow : (db : Db) (values : List (Option Value)) (instrs : List Instr) → (more : List (Option Value)) × (values_from db values instrs ≡ values ++ more)
values_grow db values [] = ([], sym (append-nil values))
values_grow db values (i ∷ is) =
    let rest = values_grow db (values ++ instr_value db values i ∷ []) is in
    (instr_value db values i ∷ rest.0, rest.1 ∙ append_assoc values (instr_value db values i ∷ []) rest.0)

-- ## Types

types_next : (types : List ValueType) (instrs : List Instr) (result : Result ValueType PlanError) (all : List ValueType) → fault_or_else (λ found. types_from (types ++ found ∷ []) instrs) result ≡ Ok all
    → (t : ValueType) × (result ≡ Ok t) × (types_from (types ++ t ∷ []) instrs ≡ Ok all)
types_next types instrs (Err x) all e = absurd (cc)
types_next types instrs (Ok t) all e = (t, refl, e)

ok_is : (a b : List ValueType) (r : Result (List ValueType) PlanError) → r ≡ Ok a → r ≡ Ok b → a ≡ b
ok_is a b r e f = cc

types_grow : (types : List ValueType) (instrs : List Instr) (all : List ValueType) → types_from types instrs ≡ Ok all → (more : List ValueType) × (all ≡ types ++ more)
types_grow types [] all e = ([], sym (ok_is types all (Ok types) refl e) ∙ sym (append-nil types))
types_grow types (i ∷ is) all e =
    let next = types_next types is (instr_type types i) all e in
    let rest = types_grow (types ++ next.0 ∷ []) is all next.2 in
    (next.0 ∷ rest.0, rest.1 ∙ append_assoc types (next.0 ∷ []) rest.0)

-- ## Instructions

-- what is known of an instruction after values of types
record Known (db : Db) (values : List (Option Value)) (types : List ValueType) (instr : Instr) (t : ValueType) : Type 0 where
  kept : (more : List (Option Value)) → arg_values (values ++ more) instr.args ≡ arg_values values instr.args
  fits : (args : List Value) → arg_values values instr.args ≡ Some args → FitsHere db instr.op (Some args)
  typed : IsTyped (instr_value db values instr) t

of_args : (db : Db) (operator : Op) (found : Option (List Value)) (v : Value) → option_and_then (value_over db operator) found ≡ Some v → (args : List Value) × (found ≡ Some args) × (value_over db operator args ≡ Some v)
of_args db operator None v e = absurd (cc)
of_args db operator (Some args) v e = (args, refl, e)

known : (db : Db) (values : List (Option Value)) (types : List ValueType) (instr : Instr) (t : ValueType) → AreTyped values types → instr_type types instr ≡ Ok t → fits_columns_of db instr.op instr.args ≡ true
    → Known db values types instr t
unfolding instr_type instr_value
known db values types instr t are e has =
    let given = types_given (length types) instr.op instr.args (arg_types types instr.args) t e in
    let column : (args : List Value) → arg_values values instr.args ≡ Some args → instr.op ≡ op.Bind → TypedValue (value_over db op.Bind args) t = λ args f. column_of db values instr.op instr.args args given.0 t f given.2 has in
    record {
      kept = λ more. args_kept values more types instr.args given.0 (typed_long values types are) given.1;
      fits = λ args f. fits_here db instr.op instr.args args given.0 t (typed_args values types instr.args given.0 args are given.1 f) given.2 has (column args f);
      typed = λ v f.
          let args = of_args db instr.op (arg_values values instr.args) v f in
          result_is db instr.op instr.args args.0 given.0 t v (typed_args values types instr.args given.0 args.0 are given.1 args.1) given.2 (column args.0 args.1) args.2;
    }

-- the same among the values of all
among : (db : Db) (values more all : List (Option Value)) (types : List ValueType) (instr : Instr) (t : ValueType) → Known db values types instr t
    → all ≡ (values ++ instr_value db values instr ∷ []) ++ more → FitsAt db all (length values + 0) instr t
unfolding instr_value
among db values more all types instr t known is =
    let same : arg_values all instr.args ≡ arg_values values instr.args =
    ap (λ vs. arg_values vs instr.args) (is ∙ append_assoc values (instr_value db values instr ∷ []) more) ∙ known.kept (instr_value db values instr ∷ more) in
    let value : instr_value db all instr ≡ instr_value db values instr = ap (option_and_then (value_over db instr.op)) same in
    record {
      value = ap (λ vs. slice_get vs (length values + 0)) is ∙ get_next values (instr_value db values instr) more ∙ ap Some (sym value);
      fits = λ args e. known.fits args (sym same ∙ e);
      typed = λ v e. known.typed v (sym value ∙ e);
    }

-- an instruction after others has a type, and fits
abbrev Fitting : Db → List ValueType → List (Option Value) → Instr → ℕ → Type 0
Fitting db all values instr n = (t : ValueType) × (slice_get all n ≡ Some t) × FitsAt db values n instr t

fit_first : (db : Db) (values : List (Option Value)) (types : List ValueType) (i : Instr) (is : List Instr) (all : List ValueType) (t : ValueType) → AreTyped values types
    → types_from (types ++ t ∷ []) is ≡ Ok all → Known db values types i t → Fitting db all (values_from db (values ++ instr_value db values i ∷ []) is) i (length values + 0)
fit_first db values types i is all t are more known =
    let grown = types_grow (types ++ t ∷ []) is all more in
    let values_grown = values_grow db (values ++ instr_value db values i ∷ []) is in (
      t,
      ap (λ n. slice_get all (n + 0)) (typed_long values types are) ∙ ap (λ ts. slice_get ts (length types + 0)) grown.1 ∙ get_next types t grown.0,
      among db values values_grown.0 (values_from db (values ++ instr_value db values i ∷ []) is) types i t known values_grown.1,
    )

fit_from : (db : Db) (values : List (Option Value)) (types : List ValueType) (instrs : List Instr) (all : List ValueType) → AreTyped values types → types_from types instrs ≡ Ok all
    → list_all (λ (i : Instr). fits_columns_of db i.op i.args) instrs ≡ true → (k : ℕ) (instr : Instr) → slice_get instrs k ≡ Some instr
    → Fitting db all (values_from db values instrs) instr (length values + k)
fit_from db values types [] all are e has k instr at = absurd (let none : None ≡ Some instr = sym (slice_get_past [] k (grind arith)) ∙ at in cc)
fit_from db values types (i ∷ is) all are e has zero instr at =
    let next = types_next types is (instr_type types i) all e in
    let here = known db values types i next.0 are next.1 (first_so (fits_columns_of db i.op i.args) (list_all (λ (i : Instr). fits_columns_of db i.op i.args) is) has) in
    let P : Instr → Type 0 = λ x. Fitting db all (values_from db values (i ∷ is)) x (length values + 0) in
    subst P (some_is i instr at) (fit_first db values types i is all next.0 are next.2 here)
fit_from db values types (i ∷ is) all are e has (suc k) instr at =
    let next = types_next types is (instr_type types i) all e in
    let here = known db values types i next.0 are next.1 (first_so (fits_columns_of db i.op i.args) (list_all (λ (i : Instr). fits_columns_of db i.op i.args) is) has) in
    let P : ℕ → Type 0 = λ n. Fitting db all (values_from db values (i ∷ is)) instr n in
    subst P (one_longer values (instr_value db values i) k)
    (fit_from db (values ++ instr_value db values i ∷ []) (types ++ next.0 ∷ []) is all (typed_more values types (instr_value db values i) next.0 are here.typed) next.2
    (second_so (fits_columns_of db i.op i.args) (list_all (λ (i : Instr). fits_columns_of db i.op i.args) is) has) k instr at)

-- ## Plans

from_none : (n : ℕ) → 0 + n ≡ n
from_none n = omega arith

types_of_checked : (plan : Plan) (result : Result (List ValueType) PlanError) → fault_with plan.out result ≡ None → (types : List ValueType) × (result ≡ Ok types)
types_of_checked plan (Err x) e = absurd (cc)
types_of_checked plan (Ok types) e = (types, refl)

pub instrs_fit : (plan : Plan) (db : Db) → plan_fault plan ≡ None → FitsDb plan db
    → (types : List ValueType) × (instr_types plan.instrs ≡ Ok types) × ((n : ℕ) (instr : Instr) → slice_get plan.instrs n ≡ Some instr
    → (t : ValueType) × (slice_get types n ≡ Some t) × FitsAt db (plan_values db plan.instrs) n instr t)
instrs_fit plan db none fits =
    let types = types_of_checked plan (instr_types plan.instrs) none in
    (types.0, types.1, λ n instr at. subst (Fitting db types.0 (plan_values db plan.instrs) instr) (from_none n) (fit_from db [] [] plan.instrs types.0 tt types.1 fits n instr at))
