use Rattle.std.proofs.Common.{◌≡◌, ◌++◌, length}
use Rattle.std.specs.Prelude.{flat_map}
use Rattle.mal_tokens.specs.Tokens.{spelled}
use Rattle.mal_print.proofs.print.write_spelled.Given as goal

abbrev pub invariant-bytes : goal.invariant-bytes
invariant-bytes l = l.out.items ++ flat_map spelled l.rest ≡ l.initial.out.items ++ flat_map spelled l.text

abbrev pub decreases-bytes : goal.decreases-bytes
decreases-bytes l = length l.rest
