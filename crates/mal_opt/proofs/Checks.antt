-- What is known of a plan without a fault, and what makes a plan one.
use Rattle.std.proofs.Common.{◌≡◌, ◌+◌, ℕ, suc, zero, List, [], ◌∷◌, ◌++◌, length, map, Bool, true, false, cond, Option, Some, None, refl, ap, sym, ◌∙◌, subst, arith}
use Rattle.std.specs.Prelude.{◌&&◌, ◌||◌, ◌<◌, not, slice_get, is_some, Result, Ok, Err}
use Rattle.std.specs.List.{list_all}
use Rattle.std.specs.Option.{option_map, option_map_or, option_and_then}
use Rattle.std.specs.Result.{result_ok}
use Rattle.std.specs.Cmp.{first_so, second_so}
use Rattle.std.proofs.lemmas.Option.{same_Some, slice_get_within}
use Rattle.cell_core.proofs.ListLemmas.{both_found}
use Rattle.cell_core.specs.declared.operator.Arg.{Arg}
use Rattle.cell_core.specs.declared.operator.Arg.TheVariants.{Const, Var}
use Rattle.cell_core.specs.declared.operator.Instr.{Instr}
use Rattle.cell_core.specs.Kinds.{ValueType}
use Rattle.mal_meaning.specs.declared.plan.Out.{Out}
use Rattle.mal_meaning.specs.declared.plan.Plan.{Plan}
use Rattle.mal_check.specs.declared.error.PlanError.{PlanError}
use Rattle.mal_check.specs.declared.error.PlanError.TheVariants.{UnknownVar, KindsDiffer, WrongCount, NoOutput}
use Rattle.mal_check.specs.Checked.{is_known, is_bit, is_empty, are_below, passes, out_fault, fault_with, types_from, instr_types, plan_fault}
use Rattle.mal_emit.specs.Machines.{Machine, typing, arg_in, args_in, result, ran}
use Rattle.mal_emit.proofs.TypeLemmas.{ran_is_checked}
use Rattle.mal_opt.specs.Live.{is_result, uses}
use Rattle.mal_opt.proofs.Runs.{was_given, first_ran, long_snoc, with_none}
use Rattle.std.proofs.lemmas.Bool.Decides.{Decides-eqb}

-- an output without a fault
pub record IsFine (types : List ValueType) (out : Out) : Type 0 where
  pub some : is_empty out.cols ≡ false
  pub known : list_all (is_known types) out.cols ≡ true
  pub keep_known : passes (is_known types) out.keep ≡ true
  pub below : are_below (length out.cols) out.order ≡ true
  pub bit : passes (is_bit types) out.keep ≡ true

four : {E : Type 0} (w x y z : E) (a b c d e : Bool) → cond a (Some w) (cond (not (b && c)) (Some x) (cond (not d) (Some y) (cond (not e) (Some z) None))) ≡ None
    → (a ≡ false) × (b ≡ true) × (c ≡ true) × (d ≡ true) × (e ≡ true)
four w x y z false true true true true h = (refl, refl, refl, refl, refl)
four w x y z true b c d e h = absurd (cc)
four w x y z false false c d e h = absurd (cc)
four w x y z false true false d e h = absurd (cc)
four w x y z false true true false e h = absurd (cc)
four w x y z false true true true false h = absurd (cc)

pub fine_from : (types : List ValueType) (out : Out) → out_fault types out ≡ None → IsFine types out
fine_from types out h =
    let parts = four NoOutput (UnknownVar (length types)) (WrongCount (length types)) (KindsDiffer (length types))
    (is_empty out.cols) (list_all (is_known types) out.cols) (passes (is_known types) out.keep) (are_below (length out.cols) out.order) (passes (is_bit types) out.keep) h in
    record { some = parts.0; known = parts.1; keep_known = parts.2; below = parts.3; bit = parts.4 }

pub no_fault : (types : List ValueType) (out : Out) → IsFine types out → out_fault types out ≡ None
no_fault types out h =
    ap (λ a. cond a (Some NoOutput) (others (list_all (is_known types) out.cols) (passes (is_known types) out.keep) (are_below (length out.cols) out.order) (passes (is_bit types) out.keep))) h.some
    ∙ ap (λ b. others b (passes (is_known types) out.keep) (are_below (length out.cols) out.order) (passes (is_bit types) out.keep)) h.known
    ∙ ap (λ c. others true c (are_below (length out.cols) out.order) (passes (is_bit types) out.keep)) h.keep_known
    ∙ ap (λ d. others true true d (passes (is_bit types) out.keep)) h.below
    ∙ ap (λ e. others true true true e) h.bit
  where
    others : Bool → Bool → Bool → Bool → Option PlanError
    others b c d e = cond (not (b && c)) (Some (UnknownVar (length types))) (cond (not d) (Some (WrongCount (length types))) (cond (not e) (Some (KindsDiffer (length types))) None))

-- its instructions have types, and its output is fine
pub record IsTyped (plan : Plan) : Type 0 where
  pub types : List ValueType
  pub ran_types : ran typing [] plan.instrs ≡ Some types
  pub fine : IsFine types plan.out

pub typed_from : (plan : Plan) → plan_fault plan ≡ None → IsTyped plan
typed_from plan none = by_result (types_from [] plan.instrs) refl none
  where
    by_result : (r : Result (List ValueType) PlanError) → types_from [] plan.instrs ≡ r → fault_with plan.out r ≡ None → IsTyped plan
    by_result (Err x) e none = absurd (cc)
    by_result (Ok types) e none = record {
      types = types;
      ran_types = ran_is_checked [] plan.instrs ∙ ap result_ok e;
      fine = fine_from types plan.out none;
    }

ok_from : (r : Result (List ValueType) PlanError) (found : List ValueType) → result_ok r ≡ Some found → r ≡ Ok found
ok_from (Ok types) found e = ap Ok (same_Some types found e)
ok_from (Err error) found e = cc

pub checked_from : (plan : Plan) → IsTyped plan → plan_fault plan ≡ None
checked_from plan h =
    ap (fault_with plan.out) (ok_from (types_from [] plan.instrs) h.types (sym (ran_is_checked [] plan.instrs) ∙ h.ran_types)) ∙ no_fault h.types plan.out h.fine

-- ## Arguments name earlier results

var_is : (n m : ℕ) → is_result n (Var m) ≡ true → n ≡ m
var_is n m e = (Decides-eqb n m).0 e

or_split : {P : Type 0} (a b : Bool) → (a || b) ≡ true → (a ≡ true → P) → (b ≡ true → P) → P
or_split true b e f g = f refl
or_split false b e f g = g e

module _ {V : Type 0} (m : Machine V) where
  used_below : (found : List V) (args : List Arg) (are : List V) (n : ℕ) → args_in m found args ≡ Some are → uses n args ≡ true → n < length found
  used_below found [] are n e u = absurd (none u)
    where
      none : false ≡ true → ⊥
      none u = cc
  used_below found (arg ∷ args) are n e u =
      let parts = both_found (arg_in m found arg) (args_in m found args) are e in
      or_split (is_result n arg) (uses n args) u (λ h. here arg parts.0 parts.2 h) (λ h. used_below found args parts.1 n parts.3 h)
    where
      here : (arg : Arg) (v : V) → arg_in m found arg ≡ Some v → is_result n arg ≡ true → n < length found
      here (Const cell) v e h = absurd (clash h)
        where
          clash : false ≡ true → ⊥
          clash h = cc
      here (Var k) v e h = subst (λ j. j < length found) (sym (var_is n k h)) (slice_get_within found k v e)

  pub backward : (found : List V) (is : List Instr) (all : List V) (k : ℕ) (instr : Instr) (n : ℕ) → ran m found is ≡ Some all → slice_get is k ≡ Some instr → uses n instr.args ≡ true → n < length found + k
  backward found [] all k instr n e at u = cc
  backward found (i ∷ is) all zero instr n e at u =
      let first = first_ran m found i is all e in
      let given = was_given (m.apply i.op i.args) (args_in m found i.args) first.0 first.1 in
      let low : n < length found = used_below found i.args given.0 n given.1 (ap (λ (j : Instr). uses n j.args) (same_Some i instr at) ∙ u) in
      subst (λ j. n < j) (sym (with_none (length found))) low
  backward found (i ∷ is) all (suc k) instr n e at u =
      let first = first_ran m found i is all e in
      subst (λ j. n < j) (long_snoc found first.0 k) (backward (found ++ first.0 ∷ []) is all k instr n first.2 at u)
