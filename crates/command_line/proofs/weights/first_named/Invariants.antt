use Rattle.std.proofs.Common.{◌≡◌, length}
use Rattle.std.specs.List.{find}
use Rattle.command_line.specs.Weights.{is_named}
use Rattle.command_line.proofs.weights.first_named.Given as goal

-- none has the name so far
abbrev pub invariant-operators : goal.invariant-operators
invariant-operators l = find (is_named l.name) l.rest ≡ find (is_named l.name) l.operators

abbrev pub decreases-operators : goal.decreases-operators
decreases-operators l = length l.rest
