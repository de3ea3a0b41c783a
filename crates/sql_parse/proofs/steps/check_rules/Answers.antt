use Rattle.std.proofs.Common.{◌≡◌, List, ℕ, Option, Err, subst}
use Rattle.sql_grammar.specs.Reads.{tokens_in}
use Rattle.sql_grammar.specs.Refused.{IsFirstRule}
use Rattle.read_laws.proofs.TextsRead.{by_rule}
use Rattle.sql_parse.proofs.steps.check_rules.Goals as goal
use Rattle.read_laws.specs.AnsweredTokens.{AreAnswered}
use Rattle.sql_definitions.specs.declared.refusal.Refusal.{Refusal}
use Rattle.sql_definitions.specs.declared.refusal.Refusal.TheVariants.{Unsupported}

pub returns-in-Some-clause-refused : goal.returns-in-Some-clause-refused
returns-in-Some-clause-refused c = λ refusal is.
    let same : Unsupported c.in-Some.rule ≡ refusal = cc in
    subst (λ (r : Refusal). AreAnswered c.args.tokens.now (Err r)) same
    (by_rule c.args.tokens.now c.in-Some.rule (subst (λ (rule : Option (List ℕ)). IsFirstRule (tokens_in c.args.tokens.now) rule) c.in-Some.is c.in_ok-first_rule.ensures))
