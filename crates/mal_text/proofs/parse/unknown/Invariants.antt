use Rattle.std.proofs.Common.{◌≡◌, length}
use Rattle.mal_text.specs.Plans.{unknown_op}
use Rattle.mal_text.proofs.parse.unknown.Given as goal

abbrev pub invariant-lines : goal.invariant-lines
invariant-lines l = unknown_op l.rest ≡ unknown_op l.lines

abbrev pub decreases-lines : goal.decreases-lines
decreases-lines l = length l.rest
