use Rattle.std.proofs.Common.{rules, ◌≡◌, ◌<◌, List, Some, length, refl, ap, sym, subst, ◌∙◌}
use Rattle.std.specs.Prelude.{slice_get, false}
use Rattle.std.proofs.lemmas.Option.{same_Some, slice_get_read, slice_get_within}
use Rattle.cell_core.specs.declared.operator.Instr.{Instr}
use Rattle.bat_core.specs.Objects.{values_of}
use Rattle.mal_meaning.specs.Meaning.{arg_values}
use Rattle.mal_exec.specs.Results.{known_of}
use Rattle.thread_sessions.specs.Crews.{is_bind}
use Rattle.thread_sessions.proofs.OutLemmas.{task_is}
use Rattle.thread_sessions.proofs.crew.task_of.Goals as goal

pub returns-clause-task : goal.returns-clause-task
returns-clause-task c =
    let q = c.args.query.now in
    let a = c.requires.args in
    let instr = c.index-as_slice-n.result in
    let lent : c.as_slice.result.now ≡ q.plan.instrs = search rules in
    let low = subst (λ (l : List Instr). c.args.n < length l) (sym lent) (slice_get_within q.plan.instrs c.args.n a.0 a.1) in
    let here : slice_get q.plan.instrs c.args.n ≡ Some instr =
    subst (λ (l : List Instr). slice_get l c.args.n ≡ Some instr) lent (slice_get_read c.as_slice.result.now (length c.as_slice.result.now) c.args.n instr refl low c.index-as_slice-n.is) in
    let same : a.0 ≡ instr = same_Some a.0 instr (sym a.1 ∙ here) in
    let plain : is_bind instr.op ≡ false = ap (λ (i : Instr). is_bind i.op) (sym same) ∙ a.2 in
    let given : arg_values (known_of q.values.items) instr.args ≡ Some (values_of c.in-Some.args.items) = search rules in
    task_is c.instrs_run.ensures q c.args.n instr _ c.requires.under here plain refl refl given
