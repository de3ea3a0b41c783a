use Rattle.std.proofs.Common.{◌≡◌, true}
use Rattle.session_run.specs.Stages.{MayBegin}
use Rattle.turn_hall.specs.Passes.{IsPassOf}
use Rattle.thread_sessions.specs.Runners.{IsWith}
use Rattle.thread_sessions.proofs.runner.run_counted.Given as goal

-- the session agrees with all that its pass has seen, and no query is under way in its plan where it is run by workers
abbrev pub invariant-turns : goal.invariant-turns
invariant-turns g l = record {
  ours : IsPassOf l.hall l.runner.pass;
  number : l.runner.session.number ≡ l.fn.runner.session.number;
  pieces : l.runner.session.pieces ≡ l.fn.runner.session.pieces;
  wide : l.runner.session.wide ≡ l.fn.runner.session.wide;
  begins : l.runner.session.wide ≡ true → MayBegin l.runner.session.stage;
  stands : IsWith g.K.HasOptions.options l.runner.pass l.runner.session;
}
