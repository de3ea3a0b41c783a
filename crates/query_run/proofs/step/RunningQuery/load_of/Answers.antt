use Rattle.std.proofs.Common.{◌≡◌, ◌+◌, List, ap, sym, ◌∙◌, subst, Option}
use Rattle.std.specs.Prelude.{IfSome}
use Rattle.std.proofs.lemmas.Option.{same_Some}
use Rattle.std.proofs.lemmas.Result.{IfOk-weaker}
use Rattle.cell_core.specs.declared.operator.Arg.{Arg}
use Rattle.cell_core.specs.declared.operator.Instr.{Instr}
use Rattle.cell_core.specs.Operators.{pairs_read}
use Rattle.bat_core.specs.declared.shared.Obj.{Obj}
use Rattle.mal_meaning.specs.Meaning.{arg_values}
use Rattle.mal_exec.specs.Results.{known_of}
use Rattle.query_run.specs.Queries.{HasArgs}
use Rattle.query_run.proofs.ReadLemmas.{work_stated}
use Rattle.query_run.proofs.step.RunningQuery.load_of.Goals as goal

pub returns : goal.returns
returns c =
    let q = c.args.self.now in
    IfOk-weaker c.sum.result _ _ (λ load summed instr here.
    let same : c.instr.result.now ≡ instr = same_Some c.instr.result.now instr (sym c.instr.ensures ∙ here) in
    let own : c.requires.at.0 ≡ instr = same_Some c.requires.at.0 instr (sym c.requires.at.1 ∙ here) in
    let has : HasArgs q instr = subst (HasArgs q) own c.requires.at.2 in
    let args : c.as_slice-2.result.now ≡ instr.args = c.as_slice-2.ensures ∙ ap (λ (i : Instr). i.args) same in
    let read = subst (λ (list : List Arg). IfSome (arg_values (known_of q.values.items) list) (λ found. c.in_ok-read.read ≡ pairs_read found)) args
    (subst (λ (vs : List (Option Obj)). IfSome (arg_values (known_of vs) c.as_slice-2.result.now) (λ found. c.in_ok-read.read ≡ pairs_read found)) c.as_slice.ensures.value c.in_ok-read.ensures) in
    work_stated c.instrs_run.ensures q c.args.n instr c.requires.value.0 c.in_ok-read.read load c.requires.under here has c.requires.value.1 read
    (summed ∙ ap (λ n. c.in_ok-read.read + n) (c.from.ensures ∙ c.requires.value.2))) c.sum.ensures
