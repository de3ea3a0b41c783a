-- Each pass of the two loops takes a step of its chain.
use Rattle.std.proofs.Common.{◌≡◌, None, ap, sym, ◌∙◌, arith, rules, ◌-◌}
use Rattle.std.proofs.lemmas.Grind.{common_steps}
use Rattle.std.proofs.lemmas.Result.{err_from_is_err_and}
use Rattle.sql_grammar.specs.Reads.{tokens_in}
use Rattle.sql_tree.specs.Tree.{expr_tree}
use Rattle.read_laws.specs.Chain.{first_token}
use Rattle.read_laws.specs.Bounded.{bounded, bounded_operator}
use Rattle.read_laws.specs.ExprReader as reader
use Rattle.read_laws.proofs.ChainLemmas.{chain_ends, turn_goes_on, turn_breaks, last_turn}
use Rattle.sql_reader.proofs.expressions.+expr.Goals as goal
use Rattle.text_bytes.proofs.FoundLemmas.{same_err}

pub expr_after-returns-in_default-clause-found : goal.expr_after-returns-in_default-clause-found
expr_after-returns-in_default-clause-found t c =
    let none : reader.sign_in (first_token (tokens_in c.terms.tokens.rest.now)) ≡ None = first_of (search rules, cc, grind (arith, common_steps)) in
    c.terms.invariant ∙ chain_ends reader.sign_in bounded_operator (reader.term bounded (reader.factor bounded c.args.depth)) (c.len-turn-end.result - c.terms.turn) (expr_tree c.terms.left) (tokens_in c.terms.tokens.rest.now) none

pub expr_after-returns-in_err-right-clause-none : goal.expr_after-returns-in_err-right-clause-none
expr_after-returns-in_err-right-clause-none t c =
    let p = err_from_is_err_and c.from_residual-in_err-right.result c.from_residual-in_err-right.ensures.1 in
    rw (p.1, p.2) (λ h. c.terms.invariant ∙ turn_breaks reader.sign_in bounded_operator (reader.term bounded (reader.factor bounded c.args.depth)) c.len-turn-end.result c.terms.turn (expr_tree c.terms.left) (tokens_in c.terms.tokens.rest.now) c.in-Some.op c.terms-test.true (sym (c.in-Some.ensures ∙ ap reader.sign_in c.peek.ensures))
    (ap (reader.term bounded (reader.factor bounded c.args.depth)) (sym c.advance.ensures) ∙ c.in_err-right.ensures.none (same_err _ _ h)))

pub expr_after-terms-preserved : goal.expr_after-terms-preserved
expr_after-terms-preserved t c =
    c.terms.invariant ∙ turn_goes_on reader.sign_in bounded_operator (reader.term bounded (reader.factor bounded c.args.depth)) c.len-turn-end.result c.terms.turn (expr_tree c.terms.left) (tokens_in c.terms.tokens.rest.now) c.in-Some.op (expr_tree c.in_ok-right.right) (tokens_in c.term.new.tokens.rest.now) (expr_tree c.in_ok-left-2.left) c.terms-test.true (sym (c.in-Some.ensures ∙ ap reader.sign_in c.peek.ensures))
    (ap (reader.term bounded (reader.factor bounded c.args.depth)) (sym c.advance.ensures) ∙ c.in_ok-right.ensures.found) c.in_ok-left-2.ensures

pub expr_after-returns-clause-found : goal.expr_after-returns-clause-found
expr_after-returns-clause-found t c =
    c.terms.invariant ∙ last_turn reader.sign_in bounded_operator (reader.term bounded (reader.factor bounded c.args.depth)) c.len-turn-end.result c.terms.turn (expr_tree c.terms.left) (tokens_in c.terms.tokens.rest.now) c.terms-test.false

pub term_after-returns-in_default-clause-found : goal.term_after-returns-in_default-clause-found
term_after-returns-in_default-clause-found t c =
    let none : reader.star_in (first_token (tokens_in c.factors.tokens.rest.now)) ≡ None = first_of (search rules, cc, grind (arith, common_steps)) in
    c.factors.invariant ∙ chain_ends reader.star_in bounded_operator (reader.factor bounded c.args.depth) (c.len-turn-end.result - c.factors.turn) (expr_tree c.factors.left) (tokens_in c.factors.tokens.rest.now) none

pub term_after-returns-in_err-right-clause-none : goal.term_after-returns-in_err-right-clause-none
term_after-returns-in_err-right-clause-none t c =
    let p = err_from_is_err_and c.from_residual.result c.from_residual.ensures.1 in
    rw (p.1, p.2) (λ h. c.factors.invariant ∙ turn_breaks reader.star_in bounded_operator (reader.factor bounded c.args.depth) c.len-turn-end.result c.factors.turn (expr_tree c.factors.left) (tokens_in c.factors.tokens.rest.now) c.in-Some.op c.factors-test.true (sym (c.in-Some.ensures ∙ ap reader.star_in c.peek.ensures))
    (ap (reader.factor bounded c.args.depth) (sym c.advance.ensures) ∙ c.in_err-right.ensures.none (same_err _ _ h)))

pub term_after-factors-preserved : goal.term_after-factors-preserved
term_after-factors-preserved t c =
    c.factors.invariant ∙ turn_goes_on reader.star_in bounded_operator (reader.factor bounded c.args.depth) c.len-turn-end.result c.factors.turn (expr_tree c.factors.left) (tokens_in c.factors.tokens.rest.now) c.in-Some.op (expr_tree c.in_ok-right.right) (tokens_in c.factor.new.tokens.rest.now) (expr_tree c.in_ok-left.left) c.factors-test.true (sym (c.in-Some.ensures ∙ ap reader.star_in c.peek.ensures))
    (ap (reader.factor bounded c.args.depth) (sym c.advance.ensures) ∙ c.in_ok-right.ensures.found) c.in_ok-left.ensures

pub term_after-returns-clause-found : goal.term_after-returns-clause-found
term_after-returns-clause-found t c =
    c.factors.invariant ∙ last_turn reader.star_in bounded_operator (reader.factor bounded c.args.depth) c.len-turn-end.result c.factors.turn (expr_tree c.factors.left) (tokens_in c.factors.tokens.rest.now) c.factors-test.false
