use Rattle.std.proofs.Common.{◌≡◌}
use Rattle.dataflow.specs.Plans.{Grows}
use Rattle.query_run.specs.declared.step.Step.TheVariants as step
use Rattle.query_run.specs.Queries.{has_result}
use Rattle.thread_sessions.specs.Crews.{DoesEvents, IsCrewed, IsOut, basis_of, valued_in}
use Rattle.thread_sessions.proofs.crew.Crew.next_task.Given as goal

-- the query may go on, no result is lost, and nothing more is handed out
abbrev pub invariant-ready : goal.invariant-ready
invariant-ready g l = record {
  does : DoesEvents g.F.Fn g.K.HasOptions.options l.self.tools.hall.now l.self.tools.event;
  crewed : IsCrewed g.K.HasOptions.options l.self.tools.hall.now l.self.runner l.self.tools.began.value (step.Open l.query);
  out : IsOut (basis_of l.self.tools.began.value.stage) l.query l.self.handed.items l.self.finished.items (λ m. ⊥);
  grows : Grows (valued_in l.fn.self.runner.session.stage) (has_result l.query);
  handed : l.self.handed.items ≡ l.fn.self.handed.items;
  finished : l.self.finished.items ≡ l.fn.self.finished.items;
  tools : l.self.tools ≡ l.fn.self.tools;
}
