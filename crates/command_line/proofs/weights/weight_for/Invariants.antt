use Rattle.std.proofs.Common.{◌≡◌, length}
use Rattle.command_line.specs.Weights as told
use Rattle.command_line.proofs.weights.weight_for.Given as goal

-- none is given for the operator so far
abbrev pub invariant-given : goal.invariant-given
invariant-given l = told.weight_for l.rest l.operator ≡ told.weight_for l.given l.operator

abbrev pub decreases-given : goal.decreases-given
decreases-given l = length l.rest
