use denote.Shadow.{shadow}
use denote.Text.{Utf8}
use Rattle.std.proofs.Common.{◌≡◌, ◌+◌, length}
use Rattle.turn_lines.specs.Schedule.{lines_of, schedule_from, schedule_of}
use Rattle.turn_lines.proofs.TurnLemmas.{behind}
use Rattle.turn_lines.proofs.turns.turns_of.Given as goal

-- the turns so far, and the lines that are left
abbrev pub invariant-lines : goal.invariant-lines
invariant-lines l = record {
  read : schedule_of l.fn.sessions l.fn.text ≡ behind l.turns.items (schedule_from l.fn.sessions (length l.turns.items + 1) (lines_of l.rest));
  text : shadow (Utf8 l.rest);
}

abbrev pub decreases-lines : goal.decreases-lines
decreases-lines l = length l.rest
