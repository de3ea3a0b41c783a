use Rattle.std.proofs.Common.{◌≡◌, ℕ, ◌<◌}
use Rattle.std.specs.Prelude.{None}
use Rattle.sql_grammar.specs.Reads.{tokens_in}
use Rattle.sql_grammar.specs.Refused.{rule_at}
use Rattle.sql_refusals.proofs.rules.first_rule.Given as goal

-- no rule applies to a token so far
abbrev pub invariant-tokens : goal.invariant-tokens
invariant-tokens l = (k : ℕ) → k < l.i → rule_at (tokens_in l.tokens) k ≡ None
