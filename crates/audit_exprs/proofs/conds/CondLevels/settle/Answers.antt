use Rattle.std.proofs.Common.{◌≡◌, Some, None, ap, sym, refl, ◌∙◌, arith, rules}
use Rattle.std.proofs.lemmas.Grind.{common_steps}
use Rattle.std.proofs.lemmas.List.{append-nil}
use Rattle.std.proofs.lemmas.Result.{err_from_is_err_and}
use Rattle.sql_grammar.specs.Reads.{tokens_in}
use Rattle.sql_tree.specs.Tree.{cond_tree}
use Rattle.read_laws.specs.Bounded.{bounded}
use Rattle.read_laws.specs.Chain.{first_token}
use Rattle.read_laws.specs.CondReader.{and_in, or_in, operand, any_test}
use Rattle.text_bytes.proofs.FoundLemmas.{same_err}
use Rattle.audit_exprs.specs.CondLevels.{cond_rules, joined, cond_waits, conds_wait}
use Rattle.audit_exprs.proofs.BetweenLemmas.{near_goes, far_goes, close_goes, close_stops, done_goes, last_waits, none_wait}
use Rattle.audit_exprs.proofs.CondRules.{opens, are_read, level_waits}
use Rattle.audit_exprs.proofs.conds.CondLevels.settle.Goals as goal

pub returns-in-Some-clause-found : goal.returns-in-Some-clause-found
returns-in-Some-clause-found c =
    let ts = tokens_in c.args.tokens.now.rest.now in
    let and : and_in (first_token ts) ≡ Some c.in-Some.field-0 = sym (c.in-Some.ensures ∙ ap and_in c.peek.ensures) in
    near_goes (cond_rules bounded (operand bounded c.args.aggregates)) opens (any_test bounded (operand bounded c.args.aggregates)) (are_read bounded c.args.aggregates) (cond_waits c.args.self.now.level) (conds_wait c.args.self.now.outer.items) (cond_tree c.args.unit) ts (cond_tree c.in_ok-conjunction.conjunction) c.in_ok-conjunction.ensures.conjunction _ _ _ c.in-Some.field-0
    and c.advance.ensures
    (level_waits (record { disjunction = c.take_unit.new.self.disjunction; conjunction = Some c.in_ok-conjunction.conjunction; nots = c.take_unit.new.self.nots }) _ _ _ c.take_unit.ensures.disjunction refl c.take_unit.ensures.nots) refl

pub returns-in-Some-or_of-clause-found : goal.returns-in-Some-or_of-clause-found
returns-in-Some-or_of-clause-found c =
    let no_and : and_in (first_token (tokens_in c.args.tokens.now.rest.now)) ≡ None = first_of (search rules, cc, grind (arith, common_steps)) in
    far_goes (cond_rules bounded (operand bounded c.args.aggregates)) opens (any_test bounded (operand bounded c.args.aggregates)) (are_read bounded c.args.aggregates) (cond_waits c.args.self.now.level) (conds_wait c.args.self.now.outer.items) (cond_tree c.args.unit) (tokens_in c.args.tokens.now.rest.now) (cond_tree c.in_ok-conjunction.conjunction) c.in_ok-conjunction.ensures.conjunction (cond_tree c.in_ok-cond.cond)
    (c.in_ok-cond.ensures.disjunction ∙ ap (λ d. joined bounded.either d (cond_tree c.in_ok-conjunction.conjunction)) c.take_unit.ensures.disjunction) no_and _ _ _ c.in-Some-or_of.field-0
    (sym (c.in-Some-or_of.ensures ∙ ap or_in c.peek-2.ensures)) c.advance-in-Some-or_of.ensures
    (level_waits (record { disjunction = Some c.in_ok-cond.cond; conjunction = c.take_conjunction.new.self.conjunction; nots = c.take_conjunction.new.self.nots }) _ _ _ refl (c.take_conjunction.ensures.conjunction ∙ c.take_unit.ensures.none) (c.take_conjunction.ensures.nots ∙ c.take_unit.ensures.nots)) refl

pub returns-in_err-close-in-Some-pop-clause-none : goal.returns-in_err-close-in-Some-pop-clause-none
returns-in_err-close-in-Some-pop-clause-none c =
    let no_and : and_in (first_token (tokens_in c.args.tokens.now.rest.now)) ≡ None = first_of (search rules, cc, grind (arith, common_steps)) in
    let no_or : or_in (first_token (tokens_in c.args.tokens.now.rest.now)) ≡ None = first_of (search rules, cc, grind (arith, common_steps)) in
    let p = err_from_is_err_and c.from_residual-in_err-close-in-Some-pop.result c.from_residual-in_err-close-in-Some-pop.ensures.1 in
    rw (p.1, p.2) (λ h. close_stops (cond_rules bounded (operand bounded c.args.aggregates)) opens (any_test bounded (operand bounded c.args.aggregates)) (are_read bounded c.args.aggregates) (cond_waits c.args.self.now.level) (conds_wait c.args.self.now.outer.items) (cond_tree c.args.unit) (tokens_in c.args.tokens.now.rest.now) (cond_tree c.in_ok-conjunction.conjunction) c.in_ok-conjunction.ensures.conjunction (cond_tree c.in_ok-cond.cond)
    (c.in_ok-cond.ensures.disjunction ∙ ap (λ d. joined bounded.either d (cond_tree c.in_ok-conjunction.conjunction)) c.take_unit.ensures.disjunction) no_and no_or _ _ (c.in_err-close-in-Some-pop.ensures.none (same_err _ _ h)) (last_waits cond_waits c.args.self.now.outer.items c.pop.new.self.items c.in-Some-pop.outside c.in-Some-pop.ensures.items))

pub returns-in_ok-close-in-Some-pop-clause-found : goal.returns-in_ok-close-in-Some-pop-clause-found
returns-in_ok-close-in-Some-pop-clause-found c =
    let no_and : and_in (first_token (tokens_in c.args.tokens.now.rest.now)) ≡ None = first_of (search rules, cc, grind (arith, common_steps)) in
    let no_or : or_in (first_token (tokens_in c.args.tokens.now.rest.now)) ≡ None = first_of (search rules, cc, grind (arith, common_steps)) in
    close_goes (cond_rules bounded (operand bounded c.args.aggregates)) opens (any_test bounded (operand bounded c.args.aggregates)) (are_read bounded c.args.aggregates) (cond_waits c.args.self.now.level) (conds_wait c.args.self.now.outer.items) (cond_tree c.args.unit) (tokens_in c.args.tokens.now.rest.now) (cond_tree c.in_ok-conjunction.conjunction) c.in_ok-conjunction.ensures.conjunction (cond_tree c.in_ok-cond.cond)
    (c.in_ok-cond.ensures.disjunction ∙ ap (λ d. joined bounded.either d (cond_tree c.in_ok-conjunction.conjunction)) c.take_unit.ensures.disjunction) no_and no_or _ _ _ c.in_ok-close-in-Some-pop.ensures.found c.close.ensures.rest (last_waits cond_waits c.args.self.now.outer.items c.pop.new.self.items c.in-Some-pop.outside c.in-Some-pop.ensures.items)

pub returns-in-None-clause-found : goal.returns-in-None-clause-found
returns-in-None-clause-found c =
    let no_and : and_in (first_token (tokens_in c.args.tokens.now.rest.now)) ≡ None = first_of (search rules, cc, grind (arith, common_steps)) in
    let no_or : or_in (first_token (tokens_in c.args.tokens.now.rest.now)) ≡ None = first_of (search rules, cc, grind (arith, common_steps)) in
    let none = none_wait cond_waits c.args.self.now.outer.items (omega (arith, c.in-None.ensures.cases.0, c.args.self.now.outer.ok.0)) in
    let same = sym (append-nil c.pop.new.self.items) ∙ sym c.in-None.ensures.items in
    done_goes (cond_rules bounded (operand bounded c.args.aggregates)) opens (any_test bounded (operand bounded c.args.aggregates)) (are_read bounded c.args.aggregates) (cond_waits c.args.self.now.level) (conds_wait c.args.self.now.outer.items) (cond_tree c.args.unit) (tokens_in c.args.tokens.now.rest.now) (cond_tree c.in_ok-conjunction.conjunction) c.in_ok-conjunction.ensures.conjunction (cond_tree c.in_ok-cond.cond)
    (c.in_ok-cond.ensures.disjunction ∙ ap (λ d. joined bounded.either d (cond_tree c.in_ok-conjunction.conjunction)) c.take_unit.ensures.disjunction) no_and no_or (cond_waits c.take_conjunction.new.self) (conds_wait c.pop.new.self.items)
    none (ap conds_wait same ∙ none) (c.take_conjunction.ensures.nots ∙ c.take_unit.ensures.nots)
