use Rattle.std.proofs.Common.{◌≡◌, ℕ, ◌<◌, [], drop}
use Rattle.std.specs.Prelude.{None}
use Rattle.audit_read.specs.Gate.{AreLevels, deep_from}
use Rattle.sql_grammar.specs.Reads.{tokens_in}
use Rattle.sql_grammar.specs.Refused.{is_too_deep, rule_at}
use Rattle.audit_read.proofs.gate.pass_gate.Given as goal

abbrev pub invariant-tokens : goal.invariant-tokens
invariant-tokens l = record {
  rules : (k : ℕ) → k < l.at → rule_at (tokens_in l.tokens) k ≡ None;
  counted : AreLevels l.levels;
  from : deep_from l.levels (tokens_in (drop l.at l.tokens)) ≡ is_too_deep [] 0 (tokens_in l.tokens);
}
