-- Each pass of the loop takes a step of its chain.
use Rattle.std.proofs.Common.{◌≡◌, [], ◌∷◌, ◌++◌, length, None, ap, sym, ◌∙◌, arith, rules, ◌-◌}
use Rattle.std.proofs.lemmas.Grind.{common_steps}
use Rattle.std.proofs.lemmas.Result.{err_from_is_err_and}
use Rattle.sql_grammar.specs.Reads.{tokens_in}
use Rattle.read_laws.specs.Chain.{first_token, chain}
use Rattle.read_laws.specs.Parts.{comma_in}
use Rattle.read_laws.proofs.ChainLemmas.{chain_ends, turn_goes_on, turn_breaks, last_turn}
use Rattle.read_laws.specs.StmtReader.{listed, one_more}
use Rattle.text_bytes.specs.Found.{then_read}
use Rattle.text_bytes.proofs.FoundLemmas.{same_err}
use Rattle.audit_statements.proofs.list.listed.Goals as goal

pub parts-init : goal.parts-init
unfolding listed
parts-init g c =
    let trees = g.P.ListPart.trees in
    let tree = g.P.ListPart.tree c.in_ok-first.first in
    let ts = tokens_in c.take.new.tokens.rest.now in
    let one : trees c.push.new.self ≡ tree ∷ [] =
    ap trees c.in_ok-push.ensures.ok ∙ g.met.P.ListPart.more c.new-parts.result c.in_ok-first.first ∙ ap (λ xs. trees xs ++ tree ∷ []) c.new-parts.ensures ∙ ap (λ xs. xs ++ tree ∷ []) g.met.P.ListPart.none in
    let all : length ts ≡ c.len-turn-end.result - 0 = omega (arith, c.len-turn-end.ensures) in
    ap (λ f. then_read f (λ first. chain comma_in one_more g.P.ListPart.reader (length first.1) (first.0 ∷ []) first.1)) c.in_ok-first.ensures.0
    ∙ ap (λ n. chain comma_in one_more g.P.ListPart.reader n (tree ∷ []) ts) all
    ∙ ap (λ xs. chain comma_in one_more g.P.ListPart.reader (c.len-turn-end.result - 0) xs ts) (sym one)

pub returns-in_default-clause-found : goal.returns-in_default-clause-found
returns-in_default-clause-found g c =
    let none : comma_in (first_token (tokens_in c.parts.tokens.rest.now)) ≡ None = first_of (search rules, cc, grind (arith, common_steps)) in
    c.parts.invariant ∙ chain_ends comma_in one_more g.P.ListPart.reader (c.len-turn-end.result - c.parts.turn) (g.P.ListPart.trees c.parts.parts) (tokens_in c.parts.tokens.rest.now) none

pub returns-in_err-next-clause-none : goal.returns-in_err-next-clause-none
returns-in_err-next-clause-none g c =
    let p = err_from_is_err_and c.from_residual-in_err-next.result c.from_residual-in_err-next.ensures.1 in
    rw (p.1, p.2) (λ h. c.parts.invariant ∙ turn_breaks comma_in one_more g.P.ListPart.reader c.len-turn-end.result c.parts.turn (g.P.ListPart.trees c.parts.parts) (tokens_in c.parts.tokens.rest.now) c.in-Some.field-0 c.parts-test.true (sym (c.in-Some.ensures ∙ ap comma_in c.peek.ensures))
    (ap g.P.ListPart.reader (sym c.advance.ensures) ∙ c.in_err-next.ensures.1 (same_err _ _ h)))

pub parts-preserved : goal.parts-preserved
parts-preserved g c =
    c.parts.invariant ∙ turn_goes_on comma_in one_more g.P.ListPart.reader c.len-turn-end.result c.parts.turn (g.P.ListPart.trees c.parts.parts) (tokens_in c.parts.tokens.rest.now) c.in-Some.field-0 (g.P.ListPart.tree c.in_ok-next.next) (tokens_in c.take-in-parts.new.tokens.rest.now) (g.P.ListPart.trees c.push-in-parts.new.self) c.parts-test.true (sym (c.in-Some.ensures ∙ ap comma_in c.peek.ensures))
    (ap g.P.ListPart.reader (sym c.advance.ensures) ∙ c.in_ok-next.ensures.0) (ap g.P.ListPart.trees c.in_ok-push-2.ensures.ok ∙ g.met.P.ListPart.more c.parts.parts c.in_ok-next.next)

pub returns-clause-found : goal.returns-clause-found
returns-clause-found g c =
    c.parts.invariant ∙ last_turn comma_in one_more g.P.ListPart.reader c.len-turn-end.result c.parts.turn (g.P.ListPart.trees c.parts.parts) (tokens_in c.parts.tokens.rest.now) c.parts-test.false
