use Rattle.std.proofs.Common.{◌≡◌, length}
use Rattle.sql_tree.specs.declared.inside.Inside.TheVariants.{Outside}
use Rattle.sql_tree.specs.Pieces as told
use Rattle.sql_tokens.proofs.pieces.says_something.Given as goal

abbrev pub invariant-bytes : goal.invariant-bytes
invariant-bytes l = told.says_something l.place l.rest ≡ told.says_something Outside l.fn.run

abbrev pub decreases-bytes : goal.decreases-bytes
decreases-bytes l = length l.rest
