use Rattle.std.proofs.Common.{◌≡◌, ◌+◌, ◌≤◌, zero, length}
use Rattle.sql_grammar.specs.Reads.{tokens_in}
use Rattle.audit_exprs.specs.Ahead as ahead
use Rattle.audit_exprs.proofs.ahead.has_test.Given as goal

abbrev pub invariant-tokens : goal.invariant-tokens
invariant-tokens l = record {
  same : ahead.has_test zero (tokens_in l.fn.tokens) ≡ ahead.has_test l.inside (tokens_in l.rest);
  few : l.inside + length l.rest ≤ length l.fn.tokens;
}

abbrev pub decreases-tokens : goal.decreases-tokens
decreases-tokens l = length l.rest
