-- Each pass of the loop takes a step of its chain.
use Rattle.std.proofs.Common.{◌≡◌, None, ap, sym, ◌∙◌, arith, rules, ◌-◌}
use Rattle.std.proofs.lemmas.Grind.{common_steps}
use Rattle.std.proofs.lemmas.Result.{err_from_is_err_and}
use Rattle.sql_grammar.specs.Reads.{tokens_in}
use Rattle.sql_tree.specs.Tree.{cond_tree, expr_tree}
use Rattle.read_laws.specs.Bounded.{bounded}
use Rattle.read_laws.specs.Chain.{first_token}
use Rattle.read_laws.specs.CondReader.{operand, or_member}
use Rattle.read_laws.specs.Parts.{comma_in}
use Rattle.read_laws.proofs.ChainLemmas.{chain_ends, last_turn}
use Rattle.text_bytes.proofs.FoundLemmas.{same_err}
use Rattle.audit_exprs.specs.CondLevels.{member_after}
use Rattle.audit_exprs.proofs.PassLemmas.{pass_goes, pass_breaks}
use Rattle.audit_exprs.proofs.comparing.members.Goals as goal

pub returns-in_default-clause-found : goal.returns-in_default-clause-found
returns-in_default-clause-found c =
    let none : comma_in (first_token (tokens_in c.members.tokens.rest.now)) ≡ None = first_of (search rules, cc, grind (arith, common_steps)) in
    c.members.invariant ∙ chain_ends comma_in (or_member bounded (expr_tree c.args.of.now)) (operand bounded c.args.aggregates) (c.len-turn-end.result - c.members.turn) (cond_tree c.members.so_far) (tokens_in c.members.tokens.rest.now) none

pub returns-in_err-so_far-2-clause-none : goal.returns-in_err-so_far-2-clause-none
returns-in_err-so_far-2-clause-none c =
    let p = err_from_is_err_and c.from_residual-in_err-so_far-2.result c.from_residual-in_err-so_far-2.ensures.1 in
    rw (p.1, p.2) (λ h. c.members.invariant ∙ pass_breaks comma_in (or_member bounded (expr_tree c.args.of.now)) (operand bounded c.args.aggregates) c.len-turn-end.result c.members.turn (cond_tree c.members.so_far) (tokens_in c.members.tokens.rest.now) c.in-Some.field-0 c.members-test.true (sym (c.in-Some.ensures ∙ ap comma_in c.peek.ensures))
    (ap (member_after (operand bounded c.args.aggregates) (expr_tree c.args.of.now) (cond_tree c.members.so_far)) (sym c.advance.ensures) ∙ c.in_err-so_far-2.ensures.1 (same_err _ _ h)))

pub members-preserved : goal.members-preserved
members-preserved c =
    c.members.invariant ∙ pass_goes comma_in (or_member bounded (expr_tree c.args.of.now)) (operand bounded c.args.aggregates) c.len-turn-end.result c.members.turn (cond_tree c.members.so_far) (tokens_in c.members.tokens.rest.now) c.in-Some.field-0 c.members-test.true (sym (c.in-Some.ensures ∙ ap comma_in c.peek.ensures)) (cond_tree c.in_ok-so_far-2.so_far) (tokens_in c.member_after.new.tokens.rest.now)
    (ap (member_after (operand bounded c.args.aggregates) (expr_tree c.args.of.now) (cond_tree c.members.so_far)) (sym c.advance.ensures) ∙ c.in_ok-so_far-2.ensures.0)

pub returns-clause-found : goal.returns-clause-found
returns-clause-found c =
    c.members.invariant ∙ last_turn comma_in (or_member bounded (expr_tree c.args.of.now)) (operand bounded c.args.aggregates) c.len-turn-end.result c.members.turn (cond_tree c.members.so_far) (tokens_in c.members.tokens.rest.now) c.members-test.false
