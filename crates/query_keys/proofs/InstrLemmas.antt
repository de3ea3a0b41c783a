-- Each instruction of a plan without a fault runs among the values of those before it.
use Rattle.std.proofs.Common.{◌≡◌, ℕ, zero, suc, ◌+◌, ◌<◌, List, [], ◌∷◌, ◌++◌, map, take, length, Bool, true, false, cond, Option, Some, None, refl, ap, sym, ◌∙◌, subst, arith, append-nil, append_assoc}
use Rattle.std.specs.Prelude.{◌==◌, Result, Ok, Err, slice_get, unwrap_or, ok_or}
use Rattle.std.specs.List.{AllByRecursion}
use Rattle.std.specs.Option.{option_map, option_map_or, option_and_then}
use Rattle.std.proofs.lemmas.Bool.{eqb-true}
use Rattle.std.proofs.lemmas.List.Elements.{All-from_recursion}
use Rattle.std.proofs.lemmas.Option.{same_Some, slice_get_past, slice_get_within}
use Rattle.cell_core.proofs.ListLemmas.{both_found, slice_get-append_middle}
use Rattle.cell_core.specs.declared.cell.Cell.TheVariants.{Text}
use Rattle.cell_core.specs.declared.operator.Op.{Op}
use Rattle.cell_core.specs.declared.operator.Op.TheVariants.{Bind}
use Rattle.cell_core.specs.declared.operator.Arg.{Arg}
use Rattle.cell_core.specs.declared.operator.Arg.TheVariants.{Const, Var}
use Rattle.cell_core.specs.declared.operator.Instr.{Instr}
use Rattle.cell_core.specs.declared.operator.Value.{Value}
use Rattle.cell_core.specs.declared.operator.Value.TheVariants.{One}
use Rattle.cell_core.specs.declared.table.Db.{Db}
use Rattle.cell_core.specs.Forms.{argument_count}
use Rattle.cell_core.specs.Kinds.{ValueType, bind_type}
use Rattle.mal_meaning.specs.declared.plan.Plan.{Plan}
use Rattle.mal_meaning.specs.Meaning.{arg_value, arg_values, value_over, work_over, instr_value, plan_values}
use Rattle.mal_meaning.specs.Runs.{FitsHere}
use Rattle.mal_check.specs.declared.error.PlanError.{PlanError}
use Rattle.mal_check.specs.declared.error.PlanError.TheVariants.{KindsDiffer, WrongCount}
use Rattle.mal_check.specs.Checked.{arg_type, arg_types, type_over, type_at, instr_type, fault_or_else, types_from, instr_types}
use Rattle.mal_check.specs.Pointwise.{FitsAt}
use Rattle.mal_check.proofs.PointLemmas.{instrs_fit}
use Rattle.lineage_key.specs.Keys.{IsNumbered}
use Rattle.query_keys.specs.Laws.{InstrsRun}

-- ## Lists

pub get_none : {X : Type 0} (n : ℕ) (x : X) → slice_get [] n ≡ Some x → ⊥
get_none n x e = let none : None ≡ Some x = sym (slice_get_past [] n (grind arith)) ∙ e in cc

get_taken : {X : Type 0} (n k : ℕ) (xs : List X) → k < n → slice_get (take n xs) k ≡ slice_get xs k
get_taken zero k xs low = absurd (omega (arith, low))
get_taken (suc n) k [] low = refl
get_taken (suc n) zero (x ∷ xs) low = refl
get_taken (suc n) (suc k) (x ∷ xs) low = get_taken n k xs (omega (arith, low))

pub one_longer : {X : Type 0} (xs : List X) (y : X) (k : ℕ) → length (xs ++ y ∷ []) + k ≡ length xs + suc k
one_longer [] y k = omega arith
one_longer (x ∷ xs) y k = let rest : length (xs ++ y ∷ []) + k ≡ length xs + suc k = one_longer xs y k in omega (arith, rest)

-- ## The types of an instruction

-- the types of a plan's instructions up to one of them, and the types of its arguments
pub record HasTypes (all : List ValueType) (n : ℕ) (instr : Instr) : Type 0 where
  pub front : List ValueType
  pub own : ValueType
  pub behind : List ValueType
  pub whole : all ≡ front ++ own ∷ behind
  pub at : length front ≡ n
  pub args : List ValueType
  pub given : arg_types front instr.args ≡ Some args
  pub result : type_over instr.op instr.args args ≡ Some own
  pub count : length instr.args ≡ argument_count instr.op

-- an instruction of a type has as many arguments as its operator takes, and their types determine its own
counted : (n : ℕ) (operator : Op) (args : List Arg) (given : Option (List ValueType)) (t : ValueType) → type_at n operator args given ≡ Ok t
    → (ts : List ValueType) × (given ≡ Some ts) × (type_over operator args ts ≡ Some t) × (length args ≡ argument_count operator)
counted n operator args None t e = absurd (cc)
counted n operator args (Some ts) t e = let both = go (length args == argument_count operator) refl (type_over operator args ts) e in (ts, refl, both.0, both.1)
  where
    go : (same : Bool) → (length args == argument_count operator) ≡ same → (o : Option ValueType) → cond same (ok_or o (KindsDiffer n)) (Err (WrongCount n)) ≡ Ok t
        → (o ≡ Some t) × (length args ≡ argument_count operator)
    go true same None e = absurd (cc)
    go true same (Some s) e = (cc, eqb-true (length args) (argument_count operator) same)
    go false same o e = absurd (cc)

has_types : (all front behind : List ValueType) (own : ValueType) (instr : Instr) → instr_type front instr ≡ Ok own → all ≡ front ++ own ∷ behind → HasTypes all (length front) instr
unfolding instr_type
has_types all front behind own instr e whole =
    let known = counted (length front) instr.op instr.args (arg_types front instr.args) own e in
    record { front = front; own = own; behind = behind; whole = whole; at = refl; args = known.0; given = known.1; result = known.2; count = known.3 }

next_type : (types : List ValueType) (instrs : List Instr) (result : Result ValueType PlanError) (all : List ValueType) → fault_or_else (λ found. types_from (types ++ found ∷ []) instrs) result ≡ Ok all
    → (t : ValueType) × (result ≡ Ok t) × (types_from (types ++ t ∷ []) instrs ≡ Ok all)
next_type types instrs (Err x) all e = absurd (cc)
next_type types instrs (Ok t) all e = (t, refl, e)

ok_is : (a b : List ValueType) (r : Result (List ValueType) PlanError) → r ≡ Ok a → r ≡ Ok b → a ≡ b
ok_is a b r e f = cc

types_grow : (types : List ValueType) (instrs : List Instr) (all : List ValueType) → types_from types instrs ≡ Ok all → (more : List ValueType) × (all ≡ types ++ more)
types_grow types [] all e = ([], sym (ok_is types all (Ok types) refl e) ∙ sym (append-nil types))
types_grow types (i ∷ is) all e =
    let next = next_type types is (instr_type types i) all e in
    let rest = types_grow (types ++ next.0 ∷ []) is all next.2 in
    (next.0 ∷ rest.0, rest.1 ∙ append_assoc types (next.0 ∷ []) rest.0)

typed_from : (types : List ValueType) (instrs : List Instr) (all : List ValueType) → types_from types instrs ≡ Ok all → (k : ℕ) (instr : Instr) → slice_get instrs k ≡ Some instr → HasTypes all (length types + k) instr
typed_from types [] all e k instr at = absurd (get_none k instr at)
typed_from types (i ∷ is) all e zero instr at =
    let next = next_type types is (instr_type types i) all e in
    let grown = types_grow (types ++ next.0 ∷ []) is all next.2 in
    let plain : length types ≡ length types + 0 = omega arith in
    subst (λ n. HasTypes all n instr) plain (subst (HasTypes all (length types)) (same_Some i instr at)
    (has_types all types grown.0 next.0 i next.1 (grown.1 ∙ append_assoc types (next.0 ∷ []) grown.0)))
typed_from types (i ∷ is) all e (suc k) instr at =
    let next = next_type types is (instr_type types i) all e in
    subst (λ n. HasTypes all n instr) (one_longer types next.0 k) (typed_from (types ++ next.0 ∷ []) is all next.2 k instr at)

pub typed_at : (instrs : List Instr) (all : List ValueType) → instr_types instrs ≡ Ok all → (n : ℕ) (instr : Instr) → slice_get instrs n ≡ Some instr → HasTypes all n instr
typed_at instrs all e n instr at = let from : 0 + n ≡ n = omega arith in subst (λ k. HasTypes all k instr) from (typed_from [] instrs all e n instr at)

pub own_there : (all : List ValueType) (n : ℕ) (instr : Instr) → (has : HasTypes all n instr) → slice_get all n ≡ Some has.own
own_there all n instr has = ap (λ ts. slice_get ts n) has.whole ∙ sym (ap (slice_get (has.front ++ has.own ∷ has.behind)) has.at) ∙ slice_get-append_middle has.front has.own has.behind

-- ## Binds

-- a bind names a table, a column and a kind
pub record IsNamed (args : List Arg) : Type 0 where
  pub table : List ℕ
  pub column : List ℕ
  pub word : List ℕ
  pub are : args ≡ Const (Text table) ∷ Const (Text column) ∷ Const (Text word) ∷ []

typed_bind : (args : List Arg) (t : ValueType) → bind_type args ≡ Some t → IsNamed args
typed_bind (Const (Text table) ∷ Const (Text column) ∷ Const (Text word) ∷ []) t e = record { table = table; column = column; word = word; are = refl }
typed_bind args t e = absurd (cc)

pub named_args : (all : List ValueType) (n : ℕ) (instr : Instr) → HasTypes all n instr → instr.op ≡ Bind → IsNamed instr.args
named_args all n instr has is = typed_bind instr.args has.own (ap (λ (o : Op). type_over o instr.args has.args) (sym is) ∙ has.result)

-- ## Its arguments

-- an argument of a type is a constant, or one of those before
numbered_from : (types : List ValueType) (args : List Arg) (found : List ValueType) → arg_types types args ≡ Some found → AllByRecursion (IsNumbered (length types)) args
numbered_from types [] found e = tt
numbered_from types (Const c ∷ args) found e = let t = both_found (arg_type types (Const c)) (arg_types types args) found e in (tt, numbered_from types args t.1 t.3)
numbered_from types (Var v ∷ args) found e = let t = both_found (arg_type types (Var v)) (arg_types types args) found e in (slice_get_within types v t.0 t.2, numbered_from types args t.1 t.3)

pub numbered_args : (all : List ValueType) (n : ℕ) (instr : Instr) → HasTypes all n instr → AllByRecursion (IsNumbered n) instr.args
numbered_args all n instr has = subst (λ k. AllByRecursion (IsNumbered k) instr.args) has.at (numbered_from has.front instr.args has.args has.given)

-- those before have the values that the arguments name
pub taken_args : (n : ℕ) (values : List (Option Value)) (args : List Arg) → AllByRecursion (IsNumbered n) args → arg_values (take n values) args ≡ arg_values values args
taken_args n values [] known = refl
taken_args n values (Const c ∷ args) known = ap (λ (vs : Option (List Value)). option_map (λ ys. One c ∷ ys) vs) (taken_args n values args known.1)
taken_args n values (Var v ∷ args) known =
    ap (λ (o : Option (Option Value)). option_and_then (λ y. option_map (λ ys. y ∷ ys) (arg_values (take n values) args)) (unwrap_or o None)) (get_taken n v values known.0)
    ∙ ap (λ vs. option_and_then (λ y. option_map (λ ys. y ∷ ys) vs) (arg_value values (Var v))) (taken_args n values args known.1)

-- ## Running

pub instrs_run_all : InstrsRun
instrs_run_all plan db n instr none fits here =
    let known = instrs_fit plan db none fits in
    let at = known.2 n instr here in
    let has = typed_at plan.instrs known.0 known.1 n instr here in
    record {
      numbered = All-from_recursion (IsNumbered n) instr.args (numbered_args known.0 n instr has);
      named = λ bind. let names = named_args known.0 n instr has bind in (names.table, names.column, names.word, names.are);
      value = at.2.value;
      fits = at.2.fits;
    }
