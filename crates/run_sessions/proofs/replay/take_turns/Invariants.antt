use Rattle.std.proofs.Common.{take}
use Rattle.run_sessions.specs.Tables.{CountsTurns, HavePlayed}
use Rattle.run_sessions.proofs.replay.take_turns.Given as goal

-- the turns so far are taken
abbrev pub invariant-turns : goal.invariant-turns
invariant-turns g l = record {
  played : HavePlayed l.fn.book l.book l.fn.sessions.items l.sessions.items (take l.i l.turns);
  counts : CountsTurns l.fn.book l.book l.fn.sessions.items l.sessions.items l.fn.steps l.steps;
}
