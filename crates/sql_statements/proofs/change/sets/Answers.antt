-- Each pass of the loop takes a step of its chain.
use Rattle.std.proofs.Common.{◌≡◌, None, map, ap, sym, ◌∙◌, arith, rules, ◌-◌}
use Rattle.std.proofs.lemmas.Grind.{common_steps}
use Rattle.std.proofs.lemmas.Result.{err_from_is_err_and}
use Rattle.sql_grammar.specs.Reads.{tokens_in}
use Rattle.read_laws.specs.Chain.{first_token}
use Rattle.read_laws.specs.Bounded.{bounded}
use Rattle.read_laws.specs.Parts.{comma_in}
use Rattle.read_laws.proofs.ChainLemmas.{chain_ends, turn_goes_on, turn_breaks, last_turn}
use Rattle.sql_tree.specs.Tree.{set_tree}
use Rattle.read_laws.specs.StmtReader as reader
use Rattle.read_laws.proofs.ListLemmas.{map_one}
use Rattle.sql_statements.proofs.change.sets.Goals as goal
use Rattle.text_bytes.proofs.FoundLemmas.{same_err}

pub returns-in_default-clause-found : goal.returns-in_default-clause-found
returns-in_default-clause-found c =
    let none : comma_in (first_token (tokens_in c.sets.tokens.rest.now)) ≡ None = first_of (search rules, cc, grind (arith, common_steps)) in
    c.sets.invariant ∙ chain_ends comma_in reader.one_more (reader.set bounded) (c.len-turn-end.result - c.sets.turn) (map set_tree c.sets.sets) (tokens_in c.sets.tokens.rest.now) none

pub returns-in_err-next-clause-none : goal.returns-in_err-next-clause-none
returns-in_err-next-clause-none c =
    let p = err_from_is_err_and c.from_residual-in_err-next.result c.from_residual-in_err-next.ensures.1 in
    rw (p.1, p.2) (λ h. c.sets.invariant ∙ turn_breaks comma_in reader.one_more (reader.set bounded) c.len-turn-end.result c.sets.turn (map set_tree c.sets.sets) (tokens_in c.sets.tokens.rest.now) c.in-Some.field-0 c.sets-test.true (sym (c.in-Some.ensures ∙ ap comma_in c.peek.ensures))
    (ap ((reader.set bounded)) (sym c.advance.ensures) ∙ c.in_err-next.ensures.none (same_err _ _ h)))

pub sets-preserved : goal.sets-preserved
sets-preserved c =
    c.sets.invariant ∙ turn_goes_on comma_in reader.one_more (reader.set bounded) c.len-turn-end.result c.sets.turn (map set_tree c.sets.sets) (tokens_in c.sets.tokens.rest.now) c.in-Some.field-0 (set_tree c.in_ok-next.next) (tokens_in c.set-in-sets.new.tokens.rest.now) (map set_tree c.push-in-sets.new.self) c.sets-test.true (sym (c.in-Some.ensures ∙ ap comma_in c.peek.ensures))
    (ap ((reader.set bounded)) (sym c.advance.ensures) ∙ c.in_ok-next.ensures.found) (ap (map set_tree) c.in_ok-push-2.ensures.ok ∙ map_one set_tree c.sets.sets c.in_ok-next.next)

pub returns-clause-found : goal.returns-clause-found
returns-clause-found c =
    c.sets.invariant ∙ last_turn comma_in reader.one_more (reader.set bounded) c.len-turn-end.result c.sets.turn (map set_tree c.sets.sets) (tokens_in c.sets.tokens.rest.now) c.sets-test.false
