-- In a plan without a fault each variable names an earlier instruction.
use Rattle.std.proofs.Common.{◌≡◌, ℕ, zero, suc, ◌+◌, ◌<◌, List, [], ◌∷◌, ◌++◌, length, true, Some, None, Result, Ok, Err, refl, ap, subst, ◌∙◌, arith, length-append}
use Rattle.std.specs.Prelude.{nat_lt, slice_get}
use Rattle.std.proofs.lemmas.Option.{slice_get_within}
use Rattle.std.proofs.lemmas.Bool.Decides.{nat_tests}
use Rattle.std.proofs.lemmas.Bool.{and_from}
use Rattle.cell_core.specs.declared.operator.Arg.{Arg}
use Rattle.cell_core.specs.declared.operator.Arg.TheVariants.{Const, Var}
use Rattle.cell_core.specs.declared.operator.Instr.{Instr}
use Rattle.cell_core.specs.Kinds.{ValueType}
use Rattle.mal_meaning.specs.declared.plan.Plan.{Plan}
use Rattle.cell_core.proofs.ListLemmas.{both_found}
use Rattle.mal_check.specs.declared.error.PlanError.{PlanError}
use Rattle.mal_check.specs.Checked.{arg_type, arg_types, instr_type, fault_or_else, types_from, instr_types, fault_with, plan_fault}
use Rattle.mal_check.proofs.ListTests.{some_is}
use Rattle.mal_check.proofs.RunLemmas.{types_given}
use Rattle.dataflow.specs.Plans.{has_all}
use Rattle.dataflow.proofs.TaskLemmas.{none_is}

args_below : (types : List ValueType) (args : List Arg) (ts : List ValueType) → arg_types types args ≡ Some ts → has_all (λ n. nat_lt n (length types)) args ≡ true
args_below types [] ts e = refl
args_below types (Const c ∷ args) ts e = let parts = both_found (arg_type types (Const c)) (arg_types types args) ts e in args_below types args parts.1 parts.3
args_below types (Var n ∷ args) ts e =
    let parts = both_found (arg_type types (Var n)) (arg_types types args) ts e in
    let low : n < length types = slice_get_within types n parts.0 parts.2 in
    and_from (nat_lt n (length types)) (has_all (λ n. nat_lt n (length types)) args) (grind (arith, nat_tests)) (args_below types args parts.1 parts.3)

given_types : (types : List ValueType) (instr : Instr) (t : ValueType) → instr_type types instr ≡ Ok t → (ts : List ValueType) × (arg_types types instr.args ≡ Some ts)
unfolding instr_type
given_types types instr t e = let given = types_given (length types) instr.op instr.args (arg_types types instr.args) t e in (given.0, given.1)

first_type : (types : List ValueType) (instrs : List Instr) (result : Result ValueType PlanError) (all : List ValueType) → fault_or_else (λ found. types_from (types ++ found ∷ []) instrs) result ≡ Ok all
    → (t : ValueType) × (result ≡ Ok t) × (types_from (types ++ t ∷ []) instrs ≡ Ok all)
first_type types instrs (Err x) all e = absurd (cc)
first_type types instrs (Ok t) all e = (t, refl, e)

abbrev IsInOrder : ℕ → Instr → Type 0
IsInOrder k instr = has_all (λ n. nat_lt n k) instr.args ≡ true

order_from : (types : List ValueType) (instrs : List Instr) (all : List ValueType) → types_from types instrs ≡ Ok all → (k : ℕ) (instr : Instr) → slice_get instrs k ≡ Some instr → IsInOrder (length types + k) instr
order_from types [] all e k instr at = absurd (none_is instr at)
order_from types (x ∷ xs) all e zero instr at =
    let first = first_type types xs (instr_type types x) all e in
    let given = given_types types x first.0 first.1 in
    let here : IsInOrder (length types + 0) x = subst (λ n. IsInOrder n x) (omega arith) (args_below types x.args given.0 given.1) in
    subst (IsInOrder (length types + 0)) (some_is x instr at) here
order_from types (x ∷ xs) all e (suc k) instr at =
    let first = first_type types xs (instr_type types x) all e in
    subst (λ n. IsInOrder n instr) (ap (λ n. n + k) (length-append types (first.0 ∷ [])) ∙ omega arith) (order_from (types ++ first.0 ∷ []) xs all first.2 k instr at)

checked_types : (plan : Plan) (result : Result (List ValueType) PlanError) → fault_with plan.out result ≡ None → (types : List ValueType) × (result ≡ Ok types)
checked_types plan (Err x) e = absurd (cc)
checked_types plan (Ok types) e = (types, refl)

-- likewise for each instruction
pub checked_in_order : (plan : Plan) → plan_fault plan ≡ None → (i : ℕ) (instr : Instr) → slice_get plan.instrs i ≡ Some instr → has_all (λ n. nat_lt n i) instr.args ≡ true
checked_in_order plan none i instr at =
    let types = checked_types plan (instr_types plan.instrs) none in
    subst (λ n. IsInOrder n instr) (omega arith) (order_from [] plan.instrs types.0 types.1 i instr at)
