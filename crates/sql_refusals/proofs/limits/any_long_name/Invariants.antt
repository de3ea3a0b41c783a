use Rattle.std.proofs.Common.{◌≡◌, length}
use Rattle.std.specs.List.{list_any}
use Rattle.sql_grammar.specs.Reads.{tokens_in}
use Rattle.sql_grammar.specs.Refused.{is_long_name}
use Rattle.sql_refusals.proofs.limits.any_long_name.Given as goal

-- the test of what is left has the result of the test of all
abbrev pub invariant-tokens : goal.invariant-tokens
invariant-tokens l = list_any is_long_name (tokens_in l.rest) ≡ list_any is_long_name (tokens_in l.tokens)

abbrev pub decreases-tokens : goal.decreases-tokens
decreases-tokens l = length l.rest
