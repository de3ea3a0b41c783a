use Rattle.std.proofs.Common.{◌≡◌, Err, ap, sym, subst, ◌∙◌}
use Rattle.read_laws.proofs.TextsRead.{by_levels}
use Rattle.sql_parse.proofs.steps.check_levels.Goals as goal
use Rattle.read_laws.specs.AnsweredTokens.{AreAnswered}
use Rattle.sql_definitions.specs.declared.refusal.Refusal.{Refusal}
use Rattle.sql_definitions.specs.declared.refusal.Refusal.TheVariants.{Limit}

pub returns-then-branch-clause-refused : goal.returns-then-branch-clause-refused
returns-then-branch-clause-refused c = λ refusal is.
    let same : Limit c.in_ok-name.name ≡ refusal = cc in
    subst (λ (r : Refusal). AreAnswered c.args.tokens.now (Err r)) (ap Limit (sym c.in_ok-name.ensures) ∙ same) (by_levels c.args.tokens.now c.requires (sym c.in_ok-is_too_deep.ensures ∙ c.if-branch.true))
