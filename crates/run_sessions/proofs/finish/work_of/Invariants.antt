use Rattle.std.proofs.Common.{◌≡◌, take}
use Rattle.std.specs.Prelude.{sum_by}
use Rattle.session_run.specs.declared.session.Session.{Session}
use Rattle.run_sessions.proofs.finish.work_of.Given as goal

-- the work of the sessions so far
abbrev pub invariant-sessions : goal.invariant-sessions
invariant-sessions l = l.work ≡ sum_by (λ (x : Session). x.work) (take l.session-index l.sessions)
