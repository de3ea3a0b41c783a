use Rattle.std.proofs.Common.{◌≡◌, Some, ap, sym, ◌∙◌, subst, arith}
use Rattle.std.specs.Option.{option_map}
use Rattle.std.proofs.lemmas.Option.{same_Some}
use Rattle.std.proofs.lemmas.Result.{IfOk-weaker}
use Rattle.cell_core.specs.declared.operator.Instr.{Instr}
use Rattle.bat_core.specs.Objects.{values_of}
use Rattle.mal_meaning.specs.Meaning.{arg_values, instr_load}
use Rattle.mal_exec.specs.Results.{known_of}
use Rattle.query_run.specs.Queries.{all_values}
use Rattle.query_run.proofs.ResultLemmas.{fits_here, load_here, value_here}
use Rattle.query_run.proofs.WorkLemmas.{load_within}
use Rattle.query_run.proofs.step.RunningQuery.run_at.Goals as goal

pub run_op-requires : goal.run_op-requires
run_op-requires g c =
    let given : arg_values (known_of c.args.self.now.values.items) c.instr-instr.result.now.args ≡ Some (values_of c.as_slice-3.result.now) =
    (λ i. arg_values (known_of (sym c.as_slice.ensures.value i)) (sym c.as_slice-2.ensures i)) ∙ sym c.in_ok-args.ensures ∙ ap (option_map (λ v. values_of v.items)) c.in-Some.is ∙ ap (λ xs. Some (values_of xs)) (sym c.as_slice-3.ensures.value) in
    fits_here c.instrs_run.ensures c.args.self.now c.requires.under c.args.n c.instr-instr.result.now c.instr-instr.ensures (values_of c.as_slice-3.result.now) given

pub returns-clause-value : goal.returns-clause-value
returns-clause-value g c =
    let given : arg_values (known_of c.args.self.now.values.items) c.instr-instr.result.now.args ≡ Some (values_of c.as_slice-3.result.now) =
    (λ i. arg_values (known_of (sym c.as_slice.ensures.value i)) (sym c.as_slice-2.ensures i)) ∙ sym c.in_ok-args.ensures ∙ ap (option_map (λ v. values_of v.items)) c.in-Some.is ∙ ap (λ xs. Some (values_of xs)) (sym c.as_slice-3.ensures.value) in
    let is = value_here c.instrs_run.ensures c.args.self.now c.requires.under c.args.n c.instr-instr.result.now c.instr-instr.ensures (values_of c.as_slice-3.result.now) given in
    IfOk-weaker c.run_op.result _ _ (λ done made. is ∙ ap Some made) c.run_op.ensures.value

pub returns-clause-work : goal.returns-clause-work
returns-clause-work g c =
    let given : arg_values (known_of c.args.self.now.values.items) c.instr-instr.result.now.args ≡ Some (values_of c.as_slice-3.result.now) =
    (λ i. arg_values (known_of (sym c.as_slice.ensures.value i)) (sym c.as_slice-2.ensures i)) ∙ sym c.in_ok-args.ensures ∙ ap (option_map (λ v. values_of v.items)) c.in-Some.is ∙ ap (λ xs. Some (values_of xs)) (sym c.as_slice-3.ensures.value) in
    let load = load_here c.instrs_run.ensures c.args.self.now c.requires.under c.args.n c.instr-instr.result.now c.instr-instr.ensures (values_of c.as_slice-3.result.now) given in
    IfOk-weaker c.run_op.result _ _ (λ done worked instr here. worked ∙ sym load ∙ ap (instr_load c.args.self.now.snap.db (all_values c.args.self.now)) (same_Some c.instr-instr.result.now instr (sym c.instr-instr.ensures ∙ here))) c.run_op.ensures.work

pub returns-clause-overflow : goal.returns-clause-overflow
returns-clause-overflow g c = λ overflows.
    let given : arg_values (known_of c.args.self.now.values.items) c.instr-instr.result.now.args ≡ Some (values_of c.as_slice-3.result.now) =
    (λ i. arg_values (known_of (sym c.as_slice.ensures.value i)) (sym c.as_slice-2.ensures i)) ∙ sym c.in_ok-args.ensures ∙ ap (option_map (λ v. values_of v.items)) c.in-Some.is ∙ ap (λ xs. Some (values_of xs)) (sym c.as_slice-3.ensures.value) in
    value_here c.instrs_run.ensures c.args.self.now c.requires.under c.args.n c.instr-instr.result.now c.instr-instr.ensures (values_of c.as_slice-3.result.now) given ∙ ap Some (c.run_op.ensures.overflow overflows)

pub returns-clause-within : goal.returns-clause-within
returns-clause-within g c = λ overflows.
    let given : arg_values (known_of c.args.self.now.values.items) c.instr-instr.result.now.args ≡ Some (values_of c.as_slice-3.result.now) =
    (λ i. arg_values (known_of (sym c.as_slice.ensures.value i)) (sym c.as_slice-2.ensures i)) ∙ sym c.in_ok-args.ensures ∙ ap (option_map (λ v. values_of v.items)) c.in-Some.is ∙ ap (λ xs. Some (values_of xs)) (sym c.as_slice-3.ensures.value) in
    let load = load_here c.instrs_run.ensures c.args.self.now c.requires.under c.args.n c.instr-instr.result.now c.instr-instr.ensures (values_of c.as_slice-3.result.now) given in
    let most = c.run_op.ensures.within overflows in
    let within = load_within c.instrs_run.ensures c.args.self.now c.args.n c.instr-instr.result.now c.requires.under c.instr-instr.ensures c.requires.open in
    omega (arith, load, most, within)
