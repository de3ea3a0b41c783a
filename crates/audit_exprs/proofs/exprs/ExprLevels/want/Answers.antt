use Rattle.std.proofs.Common.{None, [], ◌∷◌, ◌++◌, refl, ap, ◌∙◌}
use Rattle.std.proofs.lemmas.Result.{err_from_is_err_and}
use Rattle.sql_grammar.specs.Reads.{tokens_in}
use Rattle.read_laws.specs.Bounded.{bounded}
use Rattle.text_bytes.proofs.FoundLemmas.{same_err}
use Rattle.audit_exprs.specs.ExprLevels.{expr_rules, atom, expr_waits, exprs_wait}
use Rattle.audit_exprs.proofs.BetweenLemmas.{prefix_goes, open_goes, alone_goes, alone_stops, last_waits}
use Rattle.audit_exprs.proofs.ExprRules.{opens, are_read, level_waits}
use Rattle.audit_exprs.proofs.exprs.ExprLevels.want.Goals as goal

pub returns-in_ok-push-in-Some-Parenthesis-clause-found : goal.returns-in_ok-push-in-Some-Parenthesis-clause-found
returns-in_ok-push-in-Some-Parenthesis-clause-found c =
    open_goes (expr_rules bounded) opens (atom bounded) (are_read bounded) _ _ _ _ (tokens_in c.args.tokens.now.rest.now) _ (cc) c.advance-in-Some-Parenthesis.ensures
    (level_waits c.replace-outside.new.dest None None 0 (cc) (cc) (cc))
    (last_waits expr_waits c.push.new.self.items c.args.self.now.outer.items c.args.self.now.level (c.in_ok-push-in-Some-Parenthesis.ensures.items ∙ ap (λ l. c.args.self.now.outer.items ++ l ∷ []) c.replace-outside.ensures.value))

pub returns-in-Some-Prefix-clause-found : goal.returns-in-Some-Prefix-clause-found
returns-in-Some-Prefix-clause-found c =
    prefix_goes (expr_rules bounded) opens (atom bounded) (are_read bounded) _ _ _ _ (tokens_in c.args.tokens.now.rest.now) _ (cc) c.advance.ensures refl refl

pub returns-in_ok-atom-in-None-clause-found : goal.returns-in_ok-atom-in-None-clause-found
returns-in_ok-atom-in-None-clause-found c =
    alone_goes (expr_rules bounded) opens (atom bounded) (are_read bounded) _ _ (tokens_in c.args.tokens.now.rest.now) _ _ (cc) c.in_ok-atom-in-None.ensures.0

pub returns-in_err-atom-in-None-clause-none : goal.returns-in_err-atom-in-None-clause-none
returns-in_err-atom-in-None-clause-none c =
    let p = err_from_is_err_and c.from_residual-in_err-atom-in-None.result c.from_residual-in_err-atom-in-None.ensures.1 in
    rw (p.1, p.2) (λ h. alone_stops (expr_rules bounded) opens (atom bounded) (are_read bounded) (expr_waits c.args.self.now.level) (exprs_wait c.args.self.now.outer.items) (tokens_in c.args.tokens.now.rest.now) (cc) (c.in_err-atom-in-None.ensures.1 (same_err _ _ h)))
