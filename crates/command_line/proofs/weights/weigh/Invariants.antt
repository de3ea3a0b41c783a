use Rattle.std.proofs.Common.{◌≡◌, map, take}
use Rattle.command_line.specs.Weights.{weight_for}
use Rattle.command_line.proofs.weights.weigh.Given as goal

-- the weights so far
abbrev pub invariant-operators : goal.invariant-operators
invariant-operators l = l.weights.items ≡ map (weight_for l.given) (take l.operator-index l.operators)
