-- Each pass of the loop takes a step of its chain.
use Rattle.std.proofs.Common.{◌≡◌, None, ap, sym, ◌∙◌, arith, rules, ◌-◌}
use Rattle.std.proofs.lemmas.Grind.{common_steps}
use Rattle.std.proofs.lemmas.Result.{err_from_is_err_and}
use Rattle.sql_grammar.specs.Reads.{tokens_in}
use Rattle.read_laws.specs.Chain.{first_token}
use Rattle.read_laws.specs.Parts.{comma_in}
use Rattle.read_laws.proofs.ChainLemmas.{chain_ends, turn_goes_on, turn_breaks, last_turn}
use Rattle.read_laws.specs.StmtReader as reader
use Rattle.sql_statements.proofs.part.listed.Goals as goal
use Rattle.text_bytes.proofs.FoundLemmas.{same_err}

pub returns-in_default-clause-found : goal.returns-in_default-clause-found
returns-in_default-clause-found g c =
    let none : comma_in (first_token (tokens_in c.parts.tokens.rest.now)) ≡ None = first_of (search rules, cc, grind (arith, common_steps)) in
    c.parts.invariant ∙ chain_ends comma_in reader.one_more g.P.ListItem.reader (c.len-turn-end.result - c.parts.turn) c.parts.parts (tokens_in c.parts.tokens.rest.now) none

pub returns-in_err-next-clause-none : goal.returns-in_err-next-clause-none
returns-in_err-next-clause-none g c =
    let p = err_from_is_err_and c.from_residual-in_err-next.result c.from_residual-in_err-next.ensures.1 in
    rw (p.1, p.2) (λ h. c.parts.invariant ∙ turn_breaks comma_in reader.one_more g.P.ListItem.reader c.len-turn-end.result c.parts.turn c.parts.parts (tokens_in c.parts.tokens.rest.now) c.in-Some.field-0 c.parts-test.true (sym (c.in-Some.ensures ∙ ap comma_in c.peek.ensures))
    (ap (g.P.ListItem.reader) (sym c.advance.ensures) ∙ c.in_err-next.ensures.none (same_err _ _ h)))

pub parts-preserved : goal.parts-preserved
parts-preserved g c =
    c.parts.invariant ∙ turn_goes_on comma_in reader.one_more g.P.ListItem.reader c.len-turn-end.result c.parts.turn c.parts.parts (tokens_in c.parts.tokens.rest.now) c.in-Some.field-0 c.in_ok-next.next (tokens_in c.read-in-parts.new.tokens.rest.now) c.push-in-parts.new.self c.parts-test.true (sym (c.in-Some.ensures ∙ ap comma_in c.peek.ensures))
    (ap (g.P.ListItem.reader) (sym c.advance.ensures) ∙ c.in_ok-next.ensures.found) c.in_ok-push-2.ensures.ok

pub returns-clause-found : goal.returns-clause-found
returns-clause-found g c =
    c.parts.invariant ∙ last_turn comma_in reader.one_more g.P.ListItem.reader c.len-turn-end.result c.parts.turn c.parts.parts (tokens_in c.parts.tokens.rest.now) c.parts-test.false
