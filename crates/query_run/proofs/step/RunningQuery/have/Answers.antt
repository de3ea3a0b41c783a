use Rattle.std.proofs.Common.{◌≡◌, ◌+◌, refl, ap, sym, ◌∙◌}
use Rattle.std.specs.Prelude.{is_some}
use Rattle.std.proofs.lemmas.List.Elements.{recursion_from_All}
use Rattle.lineage_key.specs.Keys.{IsNumbered}
use Rattle.query_run.specs.declared.step.RunningQuery.{RunningQuery}
use Rattle.query_run.proofs.ResultLemmas.{args_there}
use Rattle.query_run.proofs.WalkLemmas.{goes_one, instr_at}
use Rattle.query_run.proofs.step.RunningQuery.have.Goals as goal

pub run_at-requires-clause-args : goal.run_at-requires-clause-args
run_at-requires-clause-args g c =
    let q = c.args.self.now in
    let at = instr_at q.plan.instrs c.args.n c.requires.inside in
    let own = c.instrs_run.ensures q.plan q.snap.db c.args.n at.0 c.requires.under.checked c.requires.under.fits at.1 in
    let there = args_there q c.args.n c.requires.before at.0.args (recursion_from_All (IsNumbered c.args.n) at.0.args own.numbered) in
    (at.0, at.1, ap is_some there.1)

pub returns-clause-goes : goal.returns-clause-goes
returns-clause-goes g c =
    let q = c.args.self.now in
    let t = c.take_in.ensures in
    let at = instr_at q.plan.instrs c.args.n c.requires.inside in
    let to : RunningQuery = record { snap = c.take_in.new.self.snap; plan = c.take_in.new.self.plan; marks = c.take_in.new.self.marks; ids = c.take_in.new.self.ids; values = c.take_in.new.self.values; asked = c.take_in.new.self.asked; work = c.in_ok-total.total } in
    let none = sym c.has.ensures ∙ c.if-has.false in
    goes_one q to c.args.n at.0 c.in_ok-done.done.value 0 c.in_ok-total.total c.requires.under at.1 none c.in_ok-done.ensures.value
    (record { snap_is = t.snap_is; plan_is = t.plan_is; marks_are = t.marks_are; asked_are = t.asked_are; values_are = t.values_are; ids_are = t.ids_are; work_is = refl })
    (c.requires.unmarked none) refl (c.in_ok-total.ensures ∙ ap (λ k. q.work + k) (c.in_ok-done.ensures.work at.0 at.1))
