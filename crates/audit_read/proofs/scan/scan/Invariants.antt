use Rattle.std.proofs.Common.{◌≤◌, ◌-◌, length, drop}
use Rattle.read_laws.specs.TokenReader.{tokens_after}
use Rattle.read_laws.proofs.TokenLemmas.{Continues}
use Rattle.audit_read.proofs.scan.scan.Given as goal

abbrev pub invariant-parts : goal.invariant-parts
invariant-parts l = record {
  told : Continues (length l.fn.text) (tokens_after (length l.fn.text) 0 l.fn.text) l.tokens (drop l.at l.fn.text);
  within : l.at ≤ length l.fn.text;
}

abbrev pub decreases-parts : goal.decreases-parts
decreases-parts l = length l.fn.text - l.at
