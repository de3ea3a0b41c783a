-- Where a run of a plan without a fault ends, it does so at a plus, minus or times whose arguments have values.
use Rattle.std.proofs.Common.{◌≡◌, ℕ, suc, zero, List, [], ◌∷◌, ◌++◌, length, map, Bool, true, false, cond, Option, Some, None, refl, ap, sym, ◌∙◌, subst}
use Rattle.std.specs.Prelude.{◌&&◌, ◌==◌, slice_get, IsSome, is_some}
use Rattle.std.specs.Option.{option_map, option_and_then}
use Rattle.std.specs.Cmp.{first_so, second_so}
use Rattle.std.proofs.lemmas.Option.{same_Some}
use Rattle.std.proofs.lemmas.Bool.{and_from}
use Rattle.cell_core.proofs.ListLemmas.{both_found, both_from}
use Rattle.cell_core.specs.declared.cell.Cell.TheVariants.{Text}
use Rattle.cell_core.specs.declared.cell.Kind.{Kind}
use Rattle.cell_core.specs.declared.cell.Kind.TheVariants as kind
use Rattle.cell_core.specs.declared.operator.Op.{Op}
use Rattle.cell_core.specs.declared.operator.Op.TheVariants as op
use Rattle.cell_core.specs.declared.operator.Arg.{Arg}
use Rattle.cell_core.specs.declared.operator.Arg.TheVariants.{Const, Var}
use Rattle.cell_core.specs.declared.operator.Instr.{Instr}
use Rattle.cell_core.specs.declared.operator.Value.{Value}
use Rattle.cell_core.specs.declared.operator.Value.TheVariants.{Bat, One}
use Rattle.cell_core.specs.declared.table.Db.{Db}
use Rattle.cell_core.specs.Forms.{argument_count, may_overflow}
use Rattle.cell_core.specs.Kinds.{ValueType, OneOf, BatOf, kind_of, named_kind, bind_type, result_type}
use Rattle.mal_meaning.specs.Meaning.{bind_value, value_over}
use Rattle.mal_check.specs.Checked.{type_over}
use Rattle.mal_emit.specs.Machines.{over, typing, counted_type, arg_in, args_in, result, ran}
use Rattle.mal_opt.proofs.Runs.{was_given, first_ran, result_from}
use Rattle.mal_opt.proofs.Shapes.{has_shape, are_shaped, result_shaped, made}

pub shaped_snoc : (vs : List Value) (ts : List ValueType) (v : Value) (t : ValueType) → are_shaped vs ts ≡ true → has_shape v t ≡ true → are_shaped (vs ++ v ∷ []) (ts ++ t ∷ []) ≡ true
shaped_snoc [] [] v t ok h = and_from (has_shape v t) true h refl
shaped_snoc (x ∷ vs) (s ∷ ts) v t ok h = and_from (has_shape x s) (are_shaped (vs ++ v ∷ []) (ts ++ t ∷ [])) (first_so (has_shape x s) (are_shaped vs ts) ok) (shaped_snoc vs ts v t (second_so (has_shape x s) (are_shaped vs ts) ok) h)
shaped_snoc [] (s ∷ ts) v t ok h = cc
shaped_snoc (x ∷ vs) [] v t ok h = cc

-- the type is there, and so is the value
abbrev ShapedAt : Option Value → ValueType → Type 0
ShapedAt o t = (v : Value) × (o ≡ Some v) × (has_shape v t ≡ true)

value_at : (vs : List Value) (ts : List ValueType) (n : ℕ) (t : ValueType) → are_shaped vs ts ≡ true → slice_get ts n ≡ Some t → ShapedAt (slice_get vs n) t
value_at [] [] n t ok e = cc
value_at (v ∷ vs) (s ∷ ts) zero t ok e = (v, refl, subst (λ y. has_shape v y ≡ true) (same_Some s t e) (first_so (has_shape v s) (are_shaped vs ts) ok))
value_at (v ∷ vs) (s ∷ ts) (suc n) t ok e = value_at vs ts n t (second_so (has_shape v s) (are_shaped vs ts) ok) e
value_at [] (s ∷ ts) n t ok e = cc
value_at (v ∷ vs) [] n t ok e = cc

module _ (db : Db) where
  arg_there : (vs : List Value) (ts : List ValueType) (arg : Arg) (t : ValueType) → are_shaped vs ts ≡ true → arg_in typing ts arg ≡ Some t → ShapedAt (arg_in (over db) vs arg) t
  arg_there vs ts (Const c) t ok e = (One c, refl, subst (λ y. has_shape (One c) y ≡ true) (same_Some (OneOf (kind_of c)) t e) refl)
  arg_there vs ts (Var n) t ok e = value_at vs ts n t ok e

  args_there : (vs : List Value) (ts : List ValueType) (args : List Arg) (types : List ValueType) → are_shaped vs ts ≡ true → args_in typing ts args ≡ Some types
      → (are : List Value) × (args_in (over db) vs args ≡ Some are) × (are_shaped are types ≡ true)
  args_there vs ts [] types ok e = ([], refl, subst (λ ys. are_shaped [] ys ≡ true) (same_Some [] types e) refl)
  args_there vs ts (arg ∷ args) types ok e =
      let parts = both_found (arg_in typing ts arg) (args_in typing ts args) types e in
      let first = arg_there vs ts arg parts.0 ok parts.2 in
      let rest = args_there vs ts args parts.1 ok parts.3 in (
        first.0 ∷ rest.0,
        both_from first.0 rest.0 first.1 rest.1,
        subst (λ ys. are_shaped (first.0 ∷ rest.0) ys ≡ true) parts.4 (and_from (has_shape first.0 parts.0) (are_shaped rest.0 parts.1) first.2 rest.2),
      )

  -- ## One instruction

  counted_is : (operator : Op) (args : List Arg) (types : List ValueType) (t : ValueType) → counted_type operator args types ≡ Some t → type_over operator args types ≡ Some t
  counted_is operator args types t e = by_count (length args == argument_count operator) e
    where
      by_count : (b : Bool) → cond b (type_over operator args types) None ≡ Some t → type_over operator args types ≡ Some t
      by_count true f = f
      by_count false f = cc

  bat_bound : (values : List Value) (v : Value) (h k : Option Kind) → bind_value db values ≡ Some v → has_shape v (BatOf h k) ≡ true
  bat_bound (One (Text table) ∷ One (Text column) ∷ One (Text word) ∷ []) v h k e = sym (ap (λ y. has_shape y (BatOf h k)) (same_Some _ v e))
  bat_bound values v h k e = cc

  named_bat : (o : Option Kind) (t : ValueType) (v : Value) → option_map (λ k. BatOf (Some kind.Oid) (Some k)) o ≡ Some t → ((h k : Option Kind) → has_shape v (BatOf h k) ≡ true) → has_shape v t ≡ true
  named_bat None t v e h = cc
  named_bat (Some k) t v e h = sym (ap (has_shape v) (same_Some (BatOf (Some kind.Oid) (Some k)) t e)) ∙ h (Some kind.Oid) (Some k)

  bound_shape : (args : List Arg) (values : List Value) (t : ValueType) (v : Value) → bind_type args ≡ Some t → bind_value db values ≡ Some v → has_shape v t ≡ true
  bound_shape (Const (Text table) ∷ Const (Text column) ∷ Const (Text word) ∷ []) values t v e f = named_bat (named_kind word) t v e (λ h k. bat_bound values v h k f)
  bound_shape args values t v e f = absurd (cc)

  bound_there : (vs : List Value) (args : List Arg) (values : List Value) (t : ValueType) → args_in (over db) vs args ≡ Some values → bind_type args ≡ Some t → IsSome (bind_value db values)
  bound_there vs (Const (Text table) ∷ Const (Text column) ∷ Const (Text word) ∷ []) values t e f = ap (λ ys. is_some (bind_value db ys)) (sym (same_Some _ values e))
  bound_there vs args values t e f = absurd (cc)

  value_shape : (operator : Op) (args : List Arg) (values : List Value) (types : List ValueType) (t : ValueType) (v : Value) → are_shaped values types ≡ true → type_over operator args types ≡ Some t
      → value_over db operator values ≡ Some v → has_shape v t ≡ true
  value_shape op.Bind args values types t v ok e f = bound_shape args values t v e f
  value_shape operator args values types t v ok e f = result_shaped operator values types v t ok e f

  some_type : (o : Option ValueType) (t : ValueType) → o ≡ Some t → IsSome o
  some_type None t e = cc
  some_type (Some s) t e = refl

  value_there : (vs : List Value) (operator : Op) (args : List Arg) (values : List Value) (types : List ValueType) (t : ValueType) → args_in (over db) vs args ≡ Some values → are_shaped values types ≡ true
      → type_over operator args types ≡ Some t → may_overflow operator ≡ false → IsSome (value_over db operator values)
  value_there vs op.Bind args values types t given ok e not = bound_there vs args values t given e
  value_there vs operator args values types t given ok e not = made operator values types ok (some_type (result_type operator types) t e) not

  -- ## A run

  -- the first instruction without a value, and those before it
  pub record Fails (vs : List Value) (is : List Instr) : Type 0 where
    pub before : List Instr
    pub instr : Instr
    pub after : List Instr
    pub is_all : is ≡ before ++ instr ∷ after
    pub found : List Value
    pub done : ran (over db) vs before ≡ Some found
    pub args : List Value
    pub given : args_in (over db) found instr.args ≡ Some args
    pub none : value_over db instr.op args ≡ None
    pub overflows : may_overflow instr.op ≡ true

  fails_later : (vs : List Value) (i : Instr) (is : List Instr) (v : Value) → result (over db) vs i ≡ Some v → Fails (vs ++ v ∷ []) is → Fails vs (i ∷ is)
  fails_later vs i is v e f = record {
    before = i ∷ f.before;
    instr = f.instr;
    after = f.after;
    is_all = ap (λ x. i ∷ x) f.is_all;
    found = f.found;
    done = ap (option_and_then (λ v. ran (over db) (vs ++ v ∷ []) f.before)) e ∙ f.done;
    args = f.args;
    given = f.given;
    none = f.none;
    overflows = f.overflows;
  }

  overflow_alone : (operator : Op) (values : List Value) → (may_overflow operator ≡ false → IsSome (value_over db operator values)) → value_over db operator values ≡ None → may_overflow operator ≡ true
  overflow_alone operator values h none = by_case (may_overflow operator) refl
    where
      clash : (o : Option Value) → o ≡ None → IsSome o → false ≡ true
      clash None e some = some
      clash (Some v) e some = cc

      by_case : (b : Bool) → may_overflow operator ≡ b → b ≡ true
      by_case true e = refl
      by_case false e = clash (value_over db operator values) none (h e)

  fault_step : (vs : List Value) (i : Instr) (is : List Instr) (values : List Value) (o : Option Value) → args_in (over db) vs i.args ≡ Some values → value_over db i.op values ≡ o
      → (may_overflow i.op ≡ false → IsSome (value_over db i.op values)) → ran (over db) vs (i ∷ is) ≡ None
      → ((v : Value) → value_over db i.op values ≡ Some v → ran (over db) (vs ++ v ∷ []) is ≡ None → Fails (vs ++ v ∷ []) is) → Fails vs (i ∷ is)
  fault_step vs i is values None given e some none later = record {
    before = [];
    instr = i;
    after = is;
    is_all = refl;
    found = vs;
    done = refl;
    args = values;
    given = given;
    none = e;
    overflows = overflow_alone i.op values some e;
  }
  fault_step vs i is values (Some v) given e some none later =
      let gives : result (over db) vs i ≡ Some v = result_from (over db) vs i values given ∙ e in
      fails_later vs i is v gives (later v e (sym (ap (option_and_then (λ v. ran (over db) (vs ++ v ∷ []) is)) gives) ∙ none))

  pub first_fault : (vs : List Value) (ts : List ValueType) (is : List Instr) (all : List ValueType) → are_shaped vs ts ≡ true → ran typing ts is ≡ Some all → ran (over db) vs is ≡ None → Fails vs is
  first_fault vs ts [] all ok typed none = absurd (ended none)
    where
      ended : Some vs ≡ None → ⊥
      ended e = cc
  first_fault vs ts (i ∷ is) all ok typed none =
      let first = first_ran typing ts i is all typed in
      let types = was_given (typing.apply i.op i.args) (args_in typing ts i.args) first.0 first.1 in
      let given = args_there vs ts i.args types.0 ok types.1 in
      let t : type_over i.op i.args types.0 ≡ Some first.0 = counted_is i.op i.args types.0 first.0 types.2 in
      fault_step vs i is given.0 (value_over db i.op given.0) given.1 refl (value_there vs i.op i.args given.0 types.0 first.0 given.1 given.2 t) none
      (λ v e ended. first_fault (vs ++ v ∷ []) (ts ++ first.0 ∷ []) is all (shaped_snoc vs ts v first.0 ok (value_shape i.op i.args given.0 types.0 first.0 v given.2 t e)) first.2 ended)
