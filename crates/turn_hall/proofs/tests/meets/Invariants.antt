-- The pass is free between two turns.
use Rattle.std.proofs.Common.{◌≡◌}
use Rattle.turn_hall.specs.Passes.{IsPassOf, pass_number, IsFree}
use Rattle.turn_hall.proofs.tests.meets.Given as goal

abbrev pub invariant-looks : goal.invariant-looks
invariant-looks g l = IsPassOf l.hall l.pass × IsFree l.pass × (pass_number l.pass ≡ pass_number l.fn.pass)
