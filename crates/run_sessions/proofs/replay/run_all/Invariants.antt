use Rattle.run_sessions.specs.Tables.{CountsTurns}
use Rattle.run_sessions.proofs.RunLemmas.{HaveRun}
use Rattle.run_sessions.proofs.replay.run_all.Given as goal

-- the sessions so far have run to their ends
abbrev pub invariant-sessions : goal.invariant-sessions
invariant-sessions g l = record {
  run : HaveRun l.fn.book l.book l.fn.sessions.items l.sessions.items l.place;
  counts : CountsTurns l.fn.book l.book l.fn.sessions.items l.sessions.items l.fn.steps l.steps;
}
