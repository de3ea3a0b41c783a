-- The pass is free between two turns, and has its number.
use Rattle.std.proofs.Common.{◌≡◌}
use Rattle.turn_hall.specs.Passes.{IsPassOf, pass_number, IsFree}
use Rattle.turn_hall.proofs.tests.write_notes.Given as goal

abbrev pub invariant-writes : goal.invariant-writes
invariant-writes g l = IsPassOf l.hall l.pass × IsFree l.pass × (pass_number l.pass ≡ l.number)
