use Rattle.std.proofs.Common.{None, [], ◌∷◌, ◌++◌, refl, ap, ◌∙◌}
use Rattle.std.proofs.lemmas.Result.{err_from_is_err_and}
use Rattle.sql_grammar.specs.Reads.{tokens_in}
use Rattle.read_laws.specs.Bounded.{bounded}
use Rattle.read_laws.specs.CondReader.{operand, any_test}
use Rattle.text_bytes.proofs.FoundLemmas.{same_err}
use Rattle.audit_exprs.specs.CondLevels.{cond_rules, cond_waits, conds_wait}
use Rattle.audit_exprs.proofs.BetweenLemmas.{prefix_goes, open_goes, alone_goes, alone_stops, last_waits}
use Rattle.audit_exprs.proofs.CondRules.{opens, are_read, level_waits}
use Rattle.audit_exprs.proofs.conds.CondLevels.want.Goals as goal

pub returns-in_ok-push-in-Some-Parenthesis-clause-found : goal.returns-in_ok-push-in-Some-Parenthesis-clause-found
returns-in_ok-push-in-Some-Parenthesis-clause-found c =
    open_goes (cond_rules bounded (operand bounded c.args.aggregates)) opens (any_test bounded (operand bounded c.args.aggregates)) (are_read bounded c.args.aggregates) _ _ _ _ (tokens_in c.args.tokens.now.rest.now) _ (cc) c.advance-in-Some-Parenthesis.ensures
    (level_waits c.replace-outside.new.dest None None 0 (cc) (cc) (cc))
    (last_waits cond_waits c.push.new.self.items c.args.self.now.outer.items c.args.self.now.level (c.in_ok-push-in-Some-Parenthesis.ensures.items ∙ ap (λ l. c.args.self.now.outer.items ++ l ∷ []) c.replace-outside.ensures.value))

pub returns-in-Some-Prefix-clause-found : goal.returns-in-Some-Prefix-clause-found
returns-in-Some-Prefix-clause-found c =
    prefix_goes (cond_rules bounded (operand bounded c.args.aggregates)) opens (any_test bounded (operand bounded c.args.aggregates)) (are_read bounded c.args.aggregates) _ _ _ _ (tokens_in c.args.tokens.now.rest.now) _ (cc) c.advance.ensures refl refl

pub returns-in_ok-test-in-None-clause-found : goal.returns-in_ok-test-in-None-clause-found
returns-in_ok-test-in-None-clause-found c =
    alone_goes (cond_rules bounded (operand bounded c.args.aggregates)) opens (any_test bounded (operand bounded c.args.aggregates)) (are_read bounded c.args.aggregates) _ _ (tokens_in c.args.tokens.now.rest.now) _ _ (cc) c.in_ok-test-in-None.ensures.0

pub returns-in_err-test-in-None-clause-none : goal.returns-in_err-test-in-None-clause-none
returns-in_err-test-in-None-clause-none c =
    let p = err_from_is_err_and c.from_residual-in_err-test-in-None.result c.from_residual-in_err-test-in-None.ensures.1 in
    rw (p.1, p.2) (λ h. alone_stops (cond_rules bounded (operand bounded c.args.aggregates)) opens (any_test bounded (operand bounded c.args.aggregates)) (are_read bounded c.args.aggregates) (cond_waits c.args.self.now.level) (conds_wait c.args.self.now.outer.items) (tokens_in c.args.tokens.now.rest.now) (cc) (c.in_err-test-in-None.ensures.1 (same_err _ _ h)))
