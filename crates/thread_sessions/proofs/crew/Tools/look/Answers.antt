use Rattle.std.proofs.Common.{◌≡◌, false, true, refl, sym, subst}
use Rattle.std.proofs.lemmas.Result.{IfOk-weaker}
use Rattle.bat_core.specs.declared.shared.Obj.TheVariants as obj
use Rattle.dataflow.specs.Plans.{has}
use Rattle.query_run.specs.declared.step.Step.{Step}
use Rattle.query_run.specs.declared.step.Step.TheVariants as step
use Rattle.query_run.specs.Queries.{IsUnderWay, was_asked}
use Rattle.query_run.specs.Ready.{Moves}
use Rattle.thread_sessions.specs.Crews.{HasNow, IsCrewed, IsOut, basis_of}
use Rattle.thread_sessions.proofs.CrewLemmas.{crewed_moves, crewed_sound, gone_from, looked_then}
use Rattle.thread_sessions.proofs.OutLemmas.{asked_is, asked_keeps, now_keeps, out_asked, out_gained, ready_new}
use Rattle.thread_sessions.proofs.crew.Tools.look.Goals as goal

pub do_event-requires-clause-crewed : goal.do_event-requires-clause-crewed
do_event-requires-clause-crewed g c =
    let a = c.in_ok-asking.ensures in
    crewed_moves g.K.HasOptions.options c.args.self.now.hall.now c.args.runner.now c.args.self.now.began.value (step.Open c.args.query) c.in_ok-asking.asking c.requires.crewed (subst (Moves (step.Open c.args.query)) (sym a.1) (refl, a.2, c.requires.ready.unasked))

pub returns-in-Open : goal.returns-in-Open
returns-in-Open g c =
    let q = c.args.query in
    let to = c.in-Open.query in
    let a = c.in_ok-asking.ensures in
    let r = c.requires.ready in
    let looked = looked_then q c.args.n a.0 c.in_ok-asking.asking c.in_ok-query.field-0 (step.Open to) a.1 c.in-Open.is c.in_ok-query.ensures.follows in
    let now : HasNow q c.args.n to = (obj.Bat looked.1.1, looked.1.0, q.work, looked.1.2) in
    let under : IsUnderWay q = crewed_sound g.K.HasOptions.options c.args.self.now.hall.now c.args.runner.now c.args.self.now.began.value (step.Open q) c.requires.crewed in
    let new = ready_new (basis_of c.args.self.now.began.value.stage) q c.args.n c.args.handed.now.items c.args.finished.now r c.requires.out in (
      subst (λ (s : Step). IsCrewed g.K.HasOptions.options c.args.self.now.hall.now c.do_event.new.runner c.args.self.now.began.value s) c.in-Open.is c.in_ok-query.ensures.crewed,
      out_gained (basis_of c.args.self.now.began.value.stage) q to c.args.n r.instr c.args.handed.now.items c.args.finished.now under r.here now (λ m no. absurd no) new c.requires.out,
      now_keeps q to c.args.n r.instr under r.here now,
      refl,
    )

pub found-requires-clause-crewed : goal.found-requires-clause-crewed
found-requires-clause-crewed g c = subst (λ (s : Step). IsCrewed g.K.HasOptions.options c.args.self.now.hall.now c.do_event.new.runner c.args.self.now.began.value s) c.in-Found.is c.in_ok-query.ensures.crewed

pub found-requires-clause-out : goal.found-requires-clause-out
found-requires-clause-out g c =
    let q = c.args.query in
    let to = c.in-Found.query in
    let a = c.in_ok-asking.ensures in
    let looked = looked_then q c.args.n a.0 c.in_ok-asking.asking c.in_ok-query.field-0 (step.Found to c.in-Found.n c.in-Found.found c.in-Found.parts) a.1 c.in-Found.is c.in_ok-query.ensures.follows in
    subst (λ k. IsOut (basis_of c.args.self.now.began.value.stage) to c.args.handed.now.items c.args.finished.now (λ m. m ≡ k)) (sym looked.1.0) (out_asked (basis_of c.args.self.now.began.value.stage) q to c.args.n c.args.handed.now.items c.args.finished.now looked.1.1 c.requires.out)

pub found-requires-clause-asked : goal.found-requires-clause-asked
found-requires-clause-asked g c =
    let q = c.args.query in
    let to = c.in-Found.query in
    let a = c.in_ok-asking.ensures in
    let r = c.requires.ready in
    let looked = looked_then q c.args.n a.0 c.in_ok-asking.asking c.in_ok-query.field-0 (step.Found to c.in-Found.n c.in-Found.found c.in-Found.parts) a.1 c.in-Found.is c.in_ok-query.ensures.follows in
    let under : IsUnderWay q = crewed_sound g.K.HasOptions.options c.args.self.now.hall.now c.args.runner.now c.args.self.now.began.value (step.Open q) c.requires.crewed in
    subst (λ k. was_asked to k ≡ true) (sym looked.1.0) (asked_is q to c.args.n r.instr under r.here looked.1.1)

pub found-requires-clause-new : goal.found-requires-clause-new
found-requires-clause-new g c =
    let q = c.args.query in
    let to = c.in-Found.query in
    let a = c.in_ok-asking.ensures in
    let looked = looked_then q c.args.n a.0 c.in_ok-asking.asking c.in_ok-query.field-0 (step.Found to c.in-Found.n c.in-Found.found c.in-Found.parts) a.1 c.in-Found.is c.in_ok-query.ensures.follows in
    subst (λ k. has c.args.handed.now.items k ≡ false) (sym looked.1.0) (ready_new (basis_of c.args.self.now.began.value.stage) q c.args.n c.args.handed.now.items c.args.finished.now c.requires.ready c.requires.out)

pub returns-in-Found : goal.returns-in-Found
returns-in-Found g c =
    let q = c.args.query in
    let to = c.in-Found.query in
    let a = c.in_ok-asking.ensures in
    let looked = looked_then q c.args.n a.0 c.in_ok-asking.asking c.in_ok-query.field-0 (step.Found to c.in-Found.n c.in-Found.found c.in-Found.parts) a.1 c.in-Found.is c.in_ok-query.ensures.follows in
    IfOk-weaker c.found.result _ _ (λ gone is. gone_from g.K.HasOptions.options c.args.self.now.hall.now c.found.new.runner c.args.self.now.began.value q to c.args.handed.now.items c.found.new.handed.items c.args.finished.now gone (asked_keeps q to c.args.n looked.1.1) is) c.found.ensures
