-- Each pass of the loop takes a step of the joins.
use Rattle.std.proofs.Common.{◌≡◌, None, ap, sym, ◌∙◌, arith, rules, ◌-◌}
use Rattle.std.proofs.lemmas.Grind.{common_steps}
use Rattle.std.proofs.lemmas.Result.{err_from_is_err_and}
use Rattle.sql_grammar.specs.Reads.{tokens_in}
use Rattle.read_laws.specs.Bounded.{bounded}
use Rattle.read_laws.specs.Chain.{first_token}
use Rattle.read_laws.specs.StmtReader.{joint_in, joined}
use Rattle.read_laws.proofs.JoinLemmas.{joins_end, turn_goes_on, turn_breaks, last_turn, same_pair}
use Rattle.text_bytes.proofs.FoundLemmas.{same_err}
use Rattle.audit_statements.specs.Forms.{source_tree, sources_tree}
use Rattle.audit_statements.proofs.query.sources.Goals as goal

pub returns-in_default-clause-found : goal.returns-in_default-clause-found
returns-in_default-clause-found c =
    let none : joint_in (first_token (tokens_in c.joins.tokens.rest.now)) ≡ None = first_of (search rules, cc, grind (arith, common_steps)) in
    c.joins.invariant ∙ joins_end bounded (c.len-turn-end.result - c.joins.turn) (sources_tree (c.joins.froms, c.joins.cond)) (tokens_in c.joins.tokens.rest.now) none

pub returns-in_err-source-clause-none : goal.returns-in_err-source-clause-none
returns-in_err-source-clause-none c =
    let p = err_from_is_err_and c.from_residual-in_err-source.result c.from_residual-in_err-source.ensures.1 in
    rw (p.1, p.2) (λ h. c.joins.invariant ∙ turn_breaks bounded c.len-turn-end.result c.joins.turn (sources_tree (c.joins.froms, c.joins.cond)) (tokens_in c.joins.tokens.rest.now) c.in-Some.joint c.joins-test.true (sym (c.in-Some.ensures ∙ ap joint_in c.peek.ensures))
    (ap (joined bounded c.in-Some.joint) (sym c.advance.ensures) ∙ c.in_err-source.ensures.1 (same_err _ _ h)))

pub joins-preserved : goal.joins-preserved
joins-preserved c =
    c.joins.invariant ∙ turn_goes_on bounded c.len-turn-end.result c.joins.turn (sources_tree (c.joins.froms, c.joins.cond)) (tokens_in c.joins.tokens.rest.now) c.in-Some.joint (source_tree (c.in_ok-source.source, c.in_ok-source.on)) (tokens_in c.joined.new.tokens.rest.now) (sources_tree (c.push-in-joins.new.self, c.in_ok-cond.cond)) c.joins-test.true (sym (c.in-Some.ensures ∙ ap joint_in c.peek.ensures))
    (ap (joined bounded c.in-Some.joint) (sym c.advance.ensures) ∙ c.in_ok-source.ensures.0)
    (same_pair _ _ _ _ c.in_ok-push-2.ensures.ok c.in_ok-cond.ensures)

pub returns-clause-found : goal.returns-clause-found
returns-clause-found c =
    c.joins.invariant ∙ last_turn bounded c.len-turn-end.result c.joins.turn (sources_tree (c.joins.froms, c.joins.cond)) (tokens_in c.joins.tokens.rest.now) c.joins-test.false
