use Rattle.std.proofs.Common.{◌≡◌, ◌∙◌, ◌<◌, List, Bool, Some, length, ap, arith}
use Rattle.std.specs.Prelude.{slice_get}
use Rattle.std.proofs.lemmas.Option.{slice_get_within}
use Rattle.std.proofs.lemmas.Result.{IfOk-weaker}
use Rattle.mal_meaning.specs.declared.plan.Plan.{Plan}
use Rattle.query_run.specs.declared.step.Step.TheVariants as step
use Rattle.query_run.specs.Queries.{IsUnderWay}
use Rattle.query_run.specs.Ready.{HandsOut}
use Rattle.query_run.proofs.ReadyLemmas.{has_mark}
use Rattle.query_run.proofs.WalkLemmas.{as_many_marks}
use Rattle.thread_sessions.specs.Crews.{basis_of}
use Rattle.thread_sessions.proofs.CrewLemmas.{crewed_moves, crewed_sound, gone_from}
use Rattle.thread_sessions.proofs.OutLemmas.{asked_args, asked_is, asked_keeps, asked_none, out_asked, ready_new}
use Rattle.thread_sessions.proofs.crew.Tools.go_on.Goals as goal

pub index-requires : goal.index-requires
index-requires g c =
    let q = c.args.query in
    let under : IsUnderWay q = crewed_sound g.K.HasOptions.options c.args.self.now.hall.now c.args.runner.now c.args.self.now.began.value (step.Open q) c.requires.crewed in
    let same = ap (λ (bs : List Bool). length bs) under.marks in
    let many = as_many_marks q.plan in
    let inside = slice_get_within q.plan.instrs c.args.n c.requires.ready.instr c.requires.ready.here in
    omega (arith, same, many, inside)

pub look-requires-clause-marked : goal.look-requires-clause-marked
look-requires-clause-marked g c =
    let q = c.args.query in
    let under : IsUnderWay q = crewed_sound g.K.HasOptions.options c.args.self.now.hall.now c.args.runner.now c.args.self.now.began.value (step.Open q) c.requires.crewed in
    let inside = slice_get_within q.plan.instrs c.args.n c.requires.ready.instr c.requires.ready.here in
    has_mark q c.args.n c.index.result.now under inside c.index.ensures ∙ ap Some c.if-index.true

pub hand_out-requires-clause-inside : goal.hand_out-requires-clause-inside
hand_out-requires-clause-inside g c = slice_get_within c.args.query.plan.instrs c.args.n c.requires.ready.instr c.requires.ready.here

pub compute-requires-clause-crewed : goal.compute-requires-clause-crewed
compute-requires-clause-crewed g c =
    let q = c.args.query in
    let under : IsUnderWay q = crewed_sound g.K.HasOptions.options c.args.self.now.hall.now c.args.runner.now c.args.self.now.began.value (step.Open q) c.requires.crewed in
    let inside = slice_get_within q.plan.instrs c.args.n c.requires.ready.instr c.requires.ready.here in
    crewed_moves g.K.HasOptions.options c.args.self.now.hall.now c.args.runner.now c.args.self.now.began.value (step.Open q) (step.Open c.hand_out.new.self) c.requires.crewed
    (HandsOut c.args.n (has_mark q c.args.n c.index.result.now under inside c.index.ensures ∙ ap Some c.if-index.false) c.hand_out.ensures)

pub compute-requires-clause-out : goal.compute-requires-clause-out
compute-requires-clause-out g c = out_asked (basis_of c.args.self.now.began.value.stage) c.args.query c.hand_out.new.self c.args.n c.args.handed.now.items c.args.finished.now c.hand_out.ensures c.requires.out

pub compute-requires-clause-asked : goal.compute-requires-clause-asked
compute-requires-clause-asked g c =
    let q = c.args.query in
    let under : IsUnderWay q = crewed_sound g.K.HasOptions.options c.args.self.now.hall.now c.args.runner.now c.args.self.now.began.value (step.Open q) c.requires.crewed in
    asked_is q c.hand_out.new.self c.args.n c.requires.ready.instr under c.requires.ready.here c.hand_out.ensures

pub compute-requires-clause-open : goal.compute-requires-clause-open
compute-requires-clause-open g c = asked_none c.args.query c.hand_out.new.self c.args.n c.args.n c.hand_out.ensures c.requires.ready.open_

pub compute-requires-clause-args : goal.compute-requires-clause-args
compute-requires-clause-args g c =
    let r = c.requires.ready in
    let h = c.hand_out.ensures in
    (r.instr, ap (λ (p : Plan). slice_get p.instrs c.args.n) h.plan_is ∙ r.here, asked_args c.args.query c.hand_out.new.self c.args.n r.instr h r.args)

pub compute-requires-clause-new : goal.compute-requires-clause-new
compute-requires-clause-new g c = ready_new (basis_of c.args.self.now.began.value.stage) c.args.query c.args.n c.args.handed.now.items c.args.finished.now c.requires.ready c.requires.out

pub returns : goal.returns
returns g c =
    IfOk-weaker c.compute.result _ _ (λ gone is. gone_from g.K.HasOptions.options c.args.self.now.hall.now c.compute.new.runner c.args.self.now.began.value c.args.query c.hand_out.new.self c.args.handed.now.items c.compute.new.handed.items c.args.finished.now gone (asked_keeps c.args.query c.hand_out.new.self c.args.n c.hand_out.ensures) is) c.compute.ensures
