use Rattle.std.proofs.Common.{◌≡◌, ◌≢◌, ℕ}
use Rattle.std.specs.Prelude.{slice_get}
use Rattle.run_sessions.specs.Tables.{CountsTurns, HasRun}
use Rattle.run_sessions.proofs.replay.run_on.Given as goal

-- the session took some turns, and no other did
abbrev pub invariant-events : goal.invariant-events
invariant-events g l = record {
  run : HasRun l.fn.book l.book l.fn.sessions.items l.sessions.items l.place;
  counts : CountsTurns l.fn.book l.book l.fn.sessions.items l.sessions.items l.fn.steps l.steps;
  others : (other : ℕ) → other ≢ l.place → slice_get l.sessions.items other ≡ slice_get l.fn.sessions.items other;
}
