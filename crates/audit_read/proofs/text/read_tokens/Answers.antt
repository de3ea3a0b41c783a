use Rattle.std.proofs.Common.{ℕ, List, Err, sym, subst}
use Rattle.read_laws.proofs.TextsRead.{by_rule, by_levels}
use Rattle.read_laws.specs.AnsweredTokens.{AreAnswered}
use Rattle.sql_definitions.specs.declared.refusal.Refusal.TheVariants.{Limit}
use Rattle.sql_grammar.specs.Reads.{tokens_in}
use Rattle.audit_read.specs.Gate.{IsGate}
use Rattle.audit_read.specs.declared.gate.Gate.{Gate}
use Rattle.audit_read.proofs.text.read_tokens.Goals as goal

pub read_plain-requires : goal.read_plain-requires
read_plain-requires c = subst (λ (gate : Gate). IsGate (tokens_in c.args.tokens.now) gate) c.in-Plain.is c.in_ok-pass_gate.ensures

pub returns-in-Rule : goal.returns-in-Rule
returns-in-Rule c =
    by_rule c.args.tokens.now c.in-Rule.name (subst (λ (gate : Gate). IsGate (tokens_in c.args.tokens.now) gate) c.in-Rule.is c.in_ok-pass_gate.ensures)

pub returns-in_ok-word_of-in-Deep : goal.returns-in_ok-word_of-in-Deep
returns-in_ok-word_of-in-Deep c =
    let deep = subst (λ (gate : Gate). IsGate (tokens_in c.args.tokens.now) gate) c.in-Deep.is c.in_ok-pass_gate.ensures in
    subst (λ (name : List ℕ). AreAnswered c.args.tokens.now (Err (Limit name))) (sym c.in_ok-word_of-in-Deep.ensures) (by_levels c.args.tokens.now deep.0 deep.1)
