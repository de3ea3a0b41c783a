use Rattle.std.proofs.Common.{sym, subst}
use Rattle.run_log.specs.declared.event.Event.{Event}
use Rattle.thread_sessions.specs.declared.runner.Runner.{Runner}
use Rattle.thread_sessions.specs.Runners.{IsWith}
use Rattle.thread_sessions.proofs.runner.run_counted.Goals as goal
use Rattle.thread_sessions.proofs.runner.run_counted.Goals.{then-workers-gt1+in_ok-runner, else-workers-gt1}

pub take_turn-requires-clause-stands : goal.take_turn-requires-clause-stands
take_turn-requires-clause-stands g c =
    elim c.if-workers-gt1.branch [
      | then-workers-gt1+in_ok-runner w ↦ subst (λ (r : Runner _ Event). IsWith g.K.HasOptions.options r.pass r.session) (sym w.runner-is) w.in_ok-runner.ensures.runner.stands
      | else-workers-gt1 w ↦ subst (λ (r : Runner _ Event). IsWith g.K.HasOptions.options r.pass r.session) (sym w.runner-is) c.turns.invariant.stands
    ]
