-- Each pass of the loop takes a step of its chain.
use Rattle.std.proofs.Common.{◌≡◌, None, map, ap, sym, ◌∙◌, arith, rules, ◌-◌}
use Rattle.std.proofs.lemmas.Grind.{common_steps}
use Rattle.std.proofs.lemmas.Result.{err_from_is_err_and}
use Rattle.sql_grammar.specs.Reads.{tokens_in}
use Rattle.read_laws.specs.Chain.{first_token}
use Rattle.read_laws.specs.Bounded.{bounded}
use Rattle.read_laws.specs.Parts.{comma_in}
use Rattle.read_laws.proofs.ChainLemmas.{chain_ends, turn_goes_on, turn_breaks, last_turn}
use Rattle.sql_tree.specs.Tree.{item_tree}
use Rattle.read_laws.specs.StmtReader as reader
use Rattle.read_laws.proofs.ListLemmas.{map_one}
use Rattle.sql_statements.proofs.query.some_items.Goals as goal
use Rattle.text_bytes.proofs.FoundLemmas.{same_err}

pub returns-in_default-clause-found : goal.returns-in_default-clause-found
returns-in_default-clause-found c =
    let none : comma_in (first_token (tokens_in c.items.tokens.rest.now)) ≡ None = first_of (search rules, cc, grind (arith, common_steps)) in
    c.items.invariant ∙ chain_ends comma_in reader.one_more (reader.item bounded) (c.len-turn-end.result - c.items.turn) (map item_tree c.items.items) (tokens_in c.items.tokens.rest.now) none

pub returns-in_err-next-clause-none : goal.returns-in_err-next-clause-none
returns-in_err-next-clause-none c =
    let p = err_from_is_err_and c.from_residual-in_err-next.result c.from_residual-in_err-next.ensures.1 in
    rw (p.1, p.2) (λ h. c.items.invariant ∙ turn_breaks comma_in reader.one_more (reader.item bounded) c.len-turn-end.result c.items.turn (map item_tree c.items.items) (tokens_in c.items.tokens.rest.now) c.in-Some.field-0 c.items-test.true (sym (c.in-Some.ensures ∙ ap comma_in c.peek.ensures))
    (ap ((reader.item bounded)) (sym c.advance.ensures) ∙ c.in_err-next.ensures.none (same_err _ _ h)))

pub items-preserved : goal.items-preserved
items-preserved c =
    c.items.invariant ∙ turn_goes_on comma_in reader.one_more (reader.item bounded) c.len-turn-end.result c.items.turn (map item_tree c.items.items) (tokens_in c.items.tokens.rest.now) c.in-Some.field-0 (item_tree c.in_ok-next.next) (tokens_in c.item-in-items.new.tokens.rest.now) (map item_tree c.push-in-items.new.self) c.items-test.true (sym (c.in-Some.ensures ∙ ap comma_in c.peek.ensures))
    (ap ((reader.item bounded)) (sym c.advance.ensures) ∙ c.in_ok-next.ensures.found) (ap (map item_tree) c.in_ok-push-2.ensures.ok ∙ map_one item_tree c.items.items c.in_ok-next.next)

pub returns-clause-found : goal.returns-clause-found
returns-clause-found c =
    c.items.invariant ∙ last_turn comma_in reader.one_more (reader.item bounded) c.len-turn-end.result c.items.turn (map item_tree c.items.items) (tokens_in c.items.tokens.rest.now) c.items-test.false
