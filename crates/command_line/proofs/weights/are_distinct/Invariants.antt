use Rattle.std.proofs.Common.{◌≡◌, length}
use Rattle.command_line.specs.Weights as told
use Rattle.command_line.proofs.weights.are_distinct.Given as goal

-- it rests with those that are left
abbrev pub invariant-given : goal.invariant-given
invariant-given l = told.are_distinct l.rest ≡ told.are_distinct l.given

abbrev pub decreases-given : goal.decreases-given
decreases-given l = length l.rest
