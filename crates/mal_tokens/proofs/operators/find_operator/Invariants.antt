use Rattle.std.proofs.Common.{◌≡◌, length}
use Rattle.std.specs.List.{find}
use Rattle.mal_tokens.specs.Operators as words
use Rattle.mal_tokens.proofs.operators.find_operator.Given as goal

abbrev pub invariant-operators : goal.invariant-operators
invariant-operators l = find (words.is_called l.home l.function) l.rest ≡ find (words.is_called l.home l.function) l.operators

abbrev pub decreases-operators : goal.decreases-operators
decreases-operators l = length l.rest
