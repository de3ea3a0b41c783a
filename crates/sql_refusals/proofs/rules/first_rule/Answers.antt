use Rattle.std.proofs.Common.{◌∙◌, sym, arith, below_more}
use Rattle.read_laws.proofs.RuleLemmas.{no_rule_past}
use Rattle.sql_refusals.proofs.rules.first_rule.Goals as goal

pub tokens-preserved : goal.tokens-preserved
tokens-preserved c = below_more _ _ c.tokens.invariant (sym c.in_ok-name.ensures ∙ c.in-None.is)

pub returns : goal.returns
returns c = λ k. no_rule_past c.args.tokens.now c.tokens.i c.tokens.invariant (omega arith) k
