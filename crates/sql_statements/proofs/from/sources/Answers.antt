-- Each pass of the loop takes a step of the joins.
use Rattle.std.proofs.Common.{◌≡◌, None, ap, sym, ◌∙◌, arith, rules, ◌-◌}
use Rattle.std.specs.Option.{option_map}
use Rattle.std.proofs.lemmas.Grind.{common_steps}
use Rattle.std.proofs.lemmas.Result.{err_from_is_err_and}
use Rattle.sql_grammar.specs.Reads.{tokens_in}
use Rattle.read_laws.specs.Chain.{first_token}
use Rattle.read_laws.specs.Bounded.{bounded}
use Rattle.text_bytes.proofs.FoundLemmas.{same_err}
use Rattle.sql_tree.specs.Tree.{cond_tree}
use Rattle.read_laws.specs.StmtReader as reader
use Rattle.read_laws.proofs.JoinLemmas.{joins_end, turn_goes_on, turn_breaks, last_turn, same_pair}
use Rattle.sql_statements.proofs.from.sources.Goals as goal

pub returns-in_default-clause-found : goal.returns-in_default-clause-found
returns-in_default-clause-found c =
    let none : reader.joint_in (first_token (tokens_in c.joins.tokens.rest.now)) ≡ None = first_of (search rules, cc, grind (arith, common_steps)) in
    c.joins.invariant ∙ joins_end bounded (c.len-turn-end.result - c.joins.turn) (c.joins.froms, option_map cond_tree c.joins.cond) (tokens_in c.joins.tokens.rest.now) none

pub returns-in_err-source-clause-none : goal.returns-in_err-source-clause-none
returns-in_err-source-clause-none c =
    let p = err_from_is_err_and c.from_residual-in_err-source.result c.from_residual-in_err-source.ensures.1 in
    rw (p.1, p.2) (λ h. c.joins.invariant ∙ turn_breaks bounded c.len-turn-end.result c.joins.turn (c.joins.froms, option_map cond_tree c.joins.cond) (tokens_in c.joins.tokens.rest.now) c.in-Some.joint c.joins-test.true (sym (c.in-Some.ensures ∙ ap reader.joint_in c.peek.ensures))
    (ap (reader.joined bounded c.in-Some.joint) (sym c.advance.ensures) ∙ c.in_err-source.ensures.none (same_err _ _ h)))

pub joins-preserved : goal.joins-preserved
joins-preserved c =
    c.joins.invariant ∙ turn_goes_on bounded c.len-turn-end.result c.joins.turn (c.joins.froms, option_map cond_tree c.joins.cond) (tokens_in c.joins.tokens.rest.now) c.in-Some.joint (c.in_ok-source.source, option_map cond_tree c.in_ok-source.on) (tokens_in c.joined.new.tokens.rest.now) (c.push-in-joins.new.self, option_map cond_tree c.in_ok-cond.cond) c.joins-test.true (sym (c.in-Some.ensures ∙ ap reader.joint_in c.peek.ensures))
    (ap (reader.joined bounded c.in-Some.joint) (sym c.advance.ensures) ∙ c.in_ok-source.ensures.found)
    (same_pair _ _ _ _ c.in_ok-push-2.ensures.ok c.in_ok-cond.ensures)

pub returns-clause-found : goal.returns-clause-found
returns-clause-found c =
    c.joins.invariant ∙ last_turn bounded c.len-turn-end.result c.joins.turn (c.joins.froms, option_map cond_tree c.joins.cond) (tokens_in c.joins.tokens.rest.now) c.joins-test.false
