use Rattle.std.proofs.Common.{◌≡◌, Some, None, ap, sym, refl, ◌∙◌, arith, rules}
use Rattle.std.proofs.lemmas.Grind.{common_steps}
use Rattle.std.proofs.lemmas.List.{append-nil}
use Rattle.std.proofs.lemmas.Result.{err_from_is_err_and}
use Rattle.sql_grammar.specs.Reads.{tokens_in}
use Rattle.sql_tree.specs.Tree.{expr_tree}
use Rattle.read_laws.specs.Bounded.{bounded}
use Rattle.read_laws.specs.Chain.{first_token}
use Rattle.read_laws.specs.ExprReader.{star_in, sign_in}
use Rattle.read_laws.proofs.TokenTests.{star_found}
use Rattle.text_bytes.proofs.FoundLemmas.{same_err}
use Rattle.audit_exprs.specs.ExprLevels.{expr_rules, atom, added, expr_waits, exprs_wait}
use Rattle.audit_exprs.proofs.BetweenLemmas.{near_goes, far_goes, close_goes, close_stops, done_goes, last_waits, none_wait}
use Rattle.audit_exprs.proofs.ExprRules.{opens, are_read, level_waits}
use Rattle.audit_exprs.proofs.exprs.ExprLevels.settle.Goals as goal

pub returns-in-Some-clause-found : goal.returns-in-Some-clause-found
returns-in-Some-clause-found c =
    let ts = tokens_in c.args.tokens.now.rest.now in
    let star : star_in (first_token ts) ≡ Some c.in-Some.field-0 = sym (c.in-Some.ensures ∙ ap star_in c.peek.ensures) in
    near_goes (expr_rules bounded) opens (atom bounded) (are_read bounded) (expr_waits c.args.self.now.level) (exprs_wait c.args.self.now.outer.items) (expr_tree c.args.factor) ts (expr_tree c.in_ok-product.product) c.in_ok-product.ensures.product _ _ _ c.in-Some.field-0
    star c.advance.ensures
    (level_waits (record { sum = c.take_factor.new.self.sum; product = Some c.in_ok-product.product; minuses = c.take_factor.new.self.minuses }) _ _ _ c.take_factor.ensures.sum refl c.take_factor.ensures.minuses
    ∙ ap (λ o. record { prefixes = 0; near = bounded.operator o (expr_tree c.in_ok-product.product); far = added bounded c.args.self.now.level.sum }) (star_found ts c.in-Some.field-0 star).1) refl

pub returns-in-Some-sign-clause-found : goal.returns-in-Some-sign-clause-found
returns-in-Some-sign-clause-found c =
    let no_star : star_in (first_token (tokens_in c.args.tokens.now.rest.now)) ≡ None = first_of (search rules, cc, grind (arith, common_steps)) in
    far_goes (expr_rules bounded) opens (atom bounded) (are_read bounded) (expr_waits c.args.self.now.level) (exprs_wait c.args.self.now.outer.items) (expr_tree c.args.factor) (tokens_in c.args.tokens.now.rest.now) (expr_tree c.in_ok-product.product) c.in_ok-product.ensures.product (expr_tree c.in_ok-sum.sum)
    (c.in_ok-sum.ensures.sum ∙ ap (λ d. added bounded d (expr_tree c.in_ok-product.product)) c.take_factor.ensures.sum) no_star _ _ _ c.in-Some-sign.op
    (sym (c.in-Some-sign.ensures ∙ ap sign_in c.peek-2.ensures)) c.advance-in-Some-sign.ensures
    (level_waits (record { sum = Some (c.in-Some-sign.op, c.in_ok-sum.sum); product = c.take_term.new.self.product; minuses = c.take_term.new.self.minuses }) _ _ _ refl (c.take_term.ensures.product ∙ c.take_factor.ensures.none) (c.take_term.ensures.minuses ∙ c.take_factor.ensures.minuses)) refl

pub returns-in_err-close-in-Some-pop-clause-none : goal.returns-in_err-close-in-Some-pop-clause-none
returns-in_err-close-in-Some-pop-clause-none c =
    let no_star : star_in (first_token (tokens_in c.args.tokens.now.rest.now)) ≡ None = first_of (search rules, cc, grind (arith, common_steps)) in
    let no_sign : sign_in (first_token (tokens_in c.args.tokens.now.rest.now)) ≡ None = first_of (search rules, cc, grind (arith, common_steps)) in
    let p = err_from_is_err_and c.from_residual-in_err-close-in-Some-pop.result c.from_residual-in_err-close-in-Some-pop.ensures.1 in
    rw (p.1, p.2) (λ h. close_stops (expr_rules bounded) opens (atom bounded) (are_read bounded) (expr_waits c.args.self.now.level) (exprs_wait c.args.self.now.outer.items) (expr_tree c.args.factor) (tokens_in c.args.tokens.now.rest.now) (expr_tree c.in_ok-product.product) c.in_ok-product.ensures.product (expr_tree c.in_ok-sum.sum)
    (c.in_ok-sum.ensures.sum ∙ ap (λ d. added bounded d (expr_tree c.in_ok-product.product)) c.take_factor.ensures.sum) no_star no_sign _ _ (c.in_err-close-in-Some-pop.ensures.none (same_err _ _ h)) (last_waits expr_waits c.args.self.now.outer.items c.pop.new.self.items c.in-Some-pop.outside c.in-Some-pop.ensures.items))

pub returns-in_ok-close-in-Some-pop-clause-found : goal.returns-in_ok-close-in-Some-pop-clause-found
returns-in_ok-close-in-Some-pop-clause-found c =
    let no_star : star_in (first_token (tokens_in c.args.tokens.now.rest.now)) ≡ None = first_of (search rules, cc, grind (arith, common_steps)) in
    let no_sign : sign_in (first_token (tokens_in c.args.tokens.now.rest.now)) ≡ None = first_of (search rules, cc, grind (arith, common_steps)) in
    close_goes (expr_rules bounded) opens (atom bounded) (are_read bounded) (expr_waits c.args.self.now.level) (exprs_wait c.args.self.now.outer.items) (expr_tree c.args.factor) (tokens_in c.args.tokens.now.rest.now) (expr_tree c.in_ok-product.product) c.in_ok-product.ensures.product (expr_tree c.in_ok-sum.sum)
    (c.in_ok-sum.ensures.sum ∙ ap (λ d. added bounded d (expr_tree c.in_ok-product.product)) c.take_factor.ensures.sum) no_star no_sign _ _ _ c.in_ok-close-in-Some-pop.ensures.found c.close.ensures.rest (last_waits expr_waits c.args.self.now.outer.items c.pop.new.self.items c.in-Some-pop.outside c.in-Some-pop.ensures.items)

pub returns-in-None-clause-found : goal.returns-in-None-clause-found
returns-in-None-clause-found c =
    let no_star : star_in (first_token (tokens_in c.args.tokens.now.rest.now)) ≡ None = first_of (search rules, cc, grind (arith, common_steps)) in
    let no_sign : sign_in (first_token (tokens_in c.args.tokens.now.rest.now)) ≡ None = first_of (search rules, cc, grind (arith, common_steps)) in
    let none = none_wait expr_waits c.args.self.now.outer.items (omega (arith, c.in-None.ensures.cases.0, c.args.self.now.outer.ok.0)) in
    let same = sym (append-nil c.pop.new.self.items) ∙ sym c.in-None.ensures.items in
    done_goes (expr_rules bounded) opens (atom bounded) (are_read bounded) (expr_waits c.args.self.now.level) (exprs_wait c.args.self.now.outer.items) (expr_tree c.args.factor) (tokens_in c.args.tokens.now.rest.now) (expr_tree c.in_ok-product.product) c.in_ok-product.ensures.product (expr_tree c.in_ok-sum.sum)
    (c.in_ok-sum.ensures.sum ∙ ap (λ d. added bounded d (expr_tree c.in_ok-product.product)) c.take_factor.ensures.sum) no_star no_sign (expr_waits c.take_term.new.self) (exprs_wait c.pop.new.self.items)
    none (ap exprs_wait same ∙ none) (c.take_term.ensures.minuses ∙ c.take_factor.ensures.minuses)
