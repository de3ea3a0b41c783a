-- Each pass of the loop takes a step of its chain.
use Rattle.std.proofs.Common.{◌≡◌, None, Some, IfOk, subst, ap, sym, ◌∙◌, arith, rules, ◌-◌}
use Rattle.std.proofs.lemmas.Grind.{common_steps}
use Rattle.std.proofs.lemmas.Result.{err_from_is_err_and}
use Rattle.sql_grammar.specs.Reads.{tokens_in}
use Rattle.sql_tree.specs.Tree.{cond_tree, expr_tree}
use Rattle.sql_tree.specs.Tree.CondTree.{Compare, Either}
use Rattle.sql_tree.specs.declared.tree.CmpOp.TheVariants as compare
use Rattle.read_laws.specs.Chain.{first_token}
use Rattle.read_laws.specs.CondReader as reader
use Rattle.read_laws.specs.Bounded.{bounded, bounded_join}
use Rattle.read_laws.specs.Parts.{comma_in}
use Rattle.read_laws.proofs.ChainLemmas.{chain_ends, turn_goes_on, turn_breaks, last_turn}
use Rattle.sql_reader.proofs.predicates.members.Goals as goal
use Rattle.text_bytes.proofs.FoundLemmas.{same_err}

pub returns-in_default-clause-found : goal.returns-in_default-clause-found
returns-in_default-clause-found c =
    let none : comma_in (first_token (tokens_in c.members.tokens.rest.now)) ≡ None = first_of (search rules, cc, grind (arith, common_steps)) in
    c.members.invariant ∙ chain_ends comma_in (reader.or_member bounded (expr_tree c.args.of.now)) (reader.operand bounded c.args.aggregates) (c.len-turn-end.result - c.members.turn) (cond_tree c.members.left) (tokens_in c.members.tokens.rest.now) none

pub returns-in_err-so_far-clause-none : goal.returns-in_err-so_far-clause-none
returns-in_err-so_far-clause-none c =
    let p = err_from_is_err_and c.from_residual-in_err-so_far.result c.from_residual-in_err-so_far.ensures.1 in
    rw (p.1, p.2) (λ h. c.members.invariant ∙ turn_breaks comma_in (reader.or_member bounded (expr_tree c.args.of.now)) (reader.operand bounded c.args.aggregates) c.len-turn-end.result c.members.turn (cond_tree c.members.left) (tokens_in c.members.tokens.rest.now) c.in-Some.field-0 c.members-test.true (sym (c.in-Some.ensures ∙ ap comma_in c.peek.ensures))
    (ap (reader.operand bounded c.args.aggregates) (sym c.advance.ensures) ∙ c.operand-in-members.ensures.none (c.in_err-so_far.ensures.none ∙ same_err _ _ h)))

pub members-preserved : goal.members-preserved
members-preserved c =
    c.members.invariant ∙ turn_goes_on comma_in (reader.or_member bounded (expr_tree c.args.of.now)) (reader.operand bounded c.args.aggregates) c.len-turn-end.result c.members.turn (cond_tree c.members.left) (tokens_in c.members.tokens.rest.now) c.in-Some.field-0 (expr_tree c.in_ok-so_far.member) (tokens_in c.operand-in-members.new.tokens.rest.now) (cond_tree c.in_ok-left-2.left) c.members-test.true (sym (c.in-Some.ensures ∙ ap comma_in c.peek.ensures))
    (ap (reader.operand bounded c.args.aggregates) (sym c.advance.ensures) ∙ subst (λ r. IfOk r (λ read. reader.operand bounded c.args.aggregates (tokens_in c.advance.new.self.rest.now) ≡ Some (expr_tree read, tokens_in c.operand-in-members.new.tokens.rest.now))) c.in_ok-so_far.ensures.both.1 c.operand-in-members.ensures.found) (c.in_ok-left-2.ensures ∙ ap (λ l. bounded_join Either (cond_tree l) (Compare compare.Eq (expr_tree c.args.of.now) (expr_tree c.in_ok-so_far.member))) c.in_ok-so_far.ensures.both.0)

pub returns-clause-found : goal.returns-clause-found
returns-clause-found c =
    c.members.invariant ∙ last_turn comma_in (reader.or_member bounded (expr_tree c.args.of.now)) (reader.operand bounded c.args.aggregates) c.len-turn-end.result c.members.turn (cond_tree c.members.left) (tokens_in c.members.tokens.rest.now) c.members-test.false
