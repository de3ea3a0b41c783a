-- Each pass of the loop takes a step of the parts.
use Rattle.std.proofs.Common.{◌≡◌, true, false, ◌∙◌, ◌-◌, arith, rules}
use Rattle.std.proofs.lemmas.Grind.{common_steps}
use Rattle.std.proofs.lemmas.Result.{err_from_is_err_and}
use Rattle.text_bytes.proofs.FoundLemmas.{same_err}
use Rattle.mal_text.proofs.ReaderLemmas.{repeated_ends, turn_goes_on, turn_breaks, last_turn}
use Rattle.mal_text.proofs.terms.repeated.Goals as goal

pub returns-then-not-goes-clause-found : goal.returns-then-not-goes-clause-found
returns-then-not-goes-clause-found g c =
    let stop : g.P.Repeatable.goes c.parts.tokens.rest.now ≡ false = first_of (search rules, cc, grind (arith, common_steps)) in
    c.parts.invariant ∙ repeated_ends g.P.Repeatable.goes g.P.Repeatable.reader (c.len-turn-end.result - c.parts.turn) c.parts.parts c.parts.tokens.rest.now stop

pub returns-in_err-next-clause-none : goal.returns-in_err-next-clause-none
returns-in_err-next-clause-none g c =
    let on : g.P.Repeatable.goes c.parts.tokens.rest.now ≡ true = first_of (search rules, cc, grind (arith, common_steps)) in
    let p = err_from_is_err_and c.from_residual.result c.from_residual.ensures.1 in
    rw (p.1, p.2) (λ h. c.parts.invariant ∙ turn_breaks g.P.Repeatable.goes g.P.Repeatable.reader c.len-turn-end.result c.parts.turn c.parts.parts c.parts.tokens.rest.now c.parts-test.true on (c.in_err-next.ensures.none (same_err _ _ h)))

pub parts-preserved : goal.parts-preserved
parts-preserved g c =
    let on : g.P.Repeatable.goes c.parts.tokens.rest.now ≡ true = first_of (search rules, cc, grind (arith, common_steps)) in
    c.parts.invariant ∙ turn_goes_on g.P.Repeatable.goes g.P.Repeatable.reader c.len-turn-end.result c.parts.turn c.parts.parts c.push.new.self c.parts.tokens.rest.now c.in_ok-next.next c.read.new.tokens.rest.now c.parts-test.true on c.in_ok-next.ensures.found c.in_ok-push.ensures.ok

pub returns-clause-found : goal.returns-clause-found
returns-clause-found g c = c.parts.invariant ∙ last_turn g.P.Repeatable.goes g.P.Repeatable.reader c.len-turn-end.result c.parts.turn c.parts.parts c.parts.tokens.rest.now c.parts-test.false
