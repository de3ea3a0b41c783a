use Rattle.std.proofs.Common.{refl}
use Rattle.query_run.specs.declared.step.Step.TheVariants as step
use Rattle.query_run.specs.Steps.{IsSoundStep}
use Rattle.thread_sessions.specs.Crews.{basis_of}
use Rattle.thread_sessions.proofs.CrewLemmas.{crewed_moves, crewed_sound}
use Rattle.thread_sessions.proofs.OutLemmas.{now_keeps, out_gained}
use Rattle.thread_sessions.proofs.crew.Tools.found.Goals as goal

pub compute-requires-clause-crewed : goal.compute-requires-clause-crewed
compute-requires-clause-crewed g c =
    crewed_moves g.K.HasOptions.options c.args.self.now.hall.now c.args.runner.now c.args.self.now.began.value (step.Found c.args.query c.args.n c.args.found c.args.parts) (step.Open c.args.query) c.requires.crewed (c.in-Miss.is, refl)

pub returns-in_ok-query-in_default : goal.returns-in_ok-query-in_default
returns-in_ok-query-in_default g c =
    let q = c.args.query in
    let to = c.in_ok-query-in_default.query in
    let from = step.Found q c.args.n c.args.found c.args.parts in
    let sound : IsSoundStep from = crewed_sound g.K.HasOptions.options c.args.self.now.hall.now c.args.runner.now c.args.self.now.began.value from c.requires.crewed in
    let at = sound.1 in
    let now = c.in_ok-query-in_default.ensures.gained in (
      c.in_ok-query-in_default.ensures.crewed,
      out_gained (basis_of c.args.self.now.began.value.stage) q to c.args.n at.0 c.args.handed.now.items c.args.finished.now sound.0 at.1.here now (λ m is. is) c.requires.new c.requires.out,
      now_keeps q to c.args.n at.0 sound.0 at.1.here now,
      refl,
    )
