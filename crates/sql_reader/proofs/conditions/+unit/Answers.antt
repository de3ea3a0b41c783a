-- Each pass of the two loops takes a step of its chain.
use Rattle.std.proofs.Common.{◌≡◌, ◌≢◌, true, false, Some, None, IfOk, subst, ap, sym, ◌∙◌, arith, rules, ◌-◌}
use Rattle.std.proofs.lemmas.Grind.{common_steps}
use Rattle.std.proofs.lemmas.Result.{err_from_is_err_and}
use Rattle.sql_grammar.specs.Reads.{tokens_in}
use Rattle.sql_tree.specs.Tree.{expr_tree, cond_tree}
use Rattle.sql_tree.specs.Tree.CondTree.{Both, Either}
use Rattle.sql_tree.specs.declared.token.Symbol.TheVariants as symbol
use Rattle.read_laws.specs.Parts.{is_symbol}
use Rattle.sql_reader.proofs.InsideLaws.{cond_in_parentheses, cond_from_operand, from_none, from_test, from_closed, from_open, operand_none, operand_goes_on_from, as_operand, as_condition, found_inside}
use Rattle.read_laws.specs.Chain.{first_token}
use Rattle.read_laws.specs.CondReader as reader
use Rattle.read_laws.specs.Bounded.{bounded, bounded_join}
use Rattle.read_laws.proofs.ChainLemmas.{chain_ends, turn_goes_on, turn_breaks, last_turn}
use Rattle.sql_reader.proofs.conditions.+unit.Goals as goal
use Rattle.text_bytes.proofs.FoundLemmas.{same_err}

pub cond_after-returns-in_default-clause-found : goal.cond_after-returns-in_default-clause-found
cond_after-returns-in_default-clause-found t c =
    let none : reader.or_in (first_token (tokens_in c.conjs.tokens.rest.now)) ≡ None = first_of (search rules, cc, grind (arith, common_steps)) in
    c.conjs.invariant ∙ chain_ends reader.or_in (reader.either_of bounded) (reader.conjunction bounded (reader.unit bounded (reader.operand bounded c.args.aggregates) c.args.depth)) (c.len-turn-end.result - c.conjs.turn) (cond_tree c.conjs.left) (tokens_in c.conjs.tokens.rest.now) none

pub cond_after-returns-in_err-so_far-clause-none : goal.cond_after-returns-in_err-so_far-clause-none
cond_after-returns-in_err-so_far-clause-none t c =
    let p = err_from_is_err_and c.from_residual-in_err-so_far.result c.from_residual-in_err-so_far.ensures.1 in
    rw (p.1, p.2) (λ h. c.conjs.invariant ∙ turn_breaks reader.or_in (reader.either_of bounded) (reader.conjunction bounded (reader.unit bounded (reader.operand bounded c.args.aggregates) c.args.depth)) c.len-turn-end.result c.conjs.turn (cond_tree c.conjs.left) (tokens_in c.conjs.tokens.rest.now) c.in-Some.field-0 c.conjs-test.true (sym (c.in-Some.ensures ∙ ap reader.or_in c.peek.ensures))
    (ap (reader.conjunction bounded (reader.unit bounded (reader.operand bounded c.args.aggregates) c.args.depth)) (sym c.advance.ensures) ∙ c.conj.ensures.none (c.in_err-so_far.ensures.none ∙ same_err _ _ h)))

pub cond_after-conjs-preserved : goal.cond_after-conjs-preserved
cond_after-conjs-preserved t c =
    c.conjs.invariant ∙ turn_goes_on reader.or_in (reader.either_of bounded) (reader.conjunction bounded (reader.unit bounded (reader.operand bounded c.args.aggregates) c.args.depth)) c.len-turn-end.result c.conjs.turn (cond_tree c.conjs.left) (tokens_in c.conjs.tokens.rest.now) c.in-Some.field-0 (cond_tree c.in_ok-so_far.right) (tokens_in c.conj.new.tokens.rest.now) (cond_tree c.in_ok-left-2.left) c.conjs-test.true (sym (c.in-Some.ensures ∙ ap reader.or_in c.peek.ensures))
    (ap (reader.conjunction bounded (reader.unit bounded (reader.operand bounded c.args.aggregates) c.args.depth)) (sym c.advance.ensures) ∙ subst (λ r. IfOk r (λ read. reader.conjunction bounded (reader.unit bounded (reader.operand bounded c.args.aggregates) c.args.depth) (tokens_in c.advance.new.self.rest.now) ≡ Some (cond_tree read, tokens_in c.conj.new.tokens.rest.now))) c.in_ok-so_far.ensures.both.1 c.conj.ensures.found) (c.in_ok-left-2.ensures ∙ ap (λ l. bounded_join Either (cond_tree l) (cond_tree c.in_ok-so_far.right)) c.in_ok-so_far.ensures.both.0)

pub cond_after-returns-clause-found : goal.cond_after-returns-clause-found
cond_after-returns-clause-found t c =
    c.conjs.invariant ∙ last_turn reader.or_in (reader.either_of bounded) (reader.conjunction bounded (reader.unit bounded (reader.operand bounded c.args.aggregates) c.args.depth)) c.len-turn-end.result c.conjs.turn (cond_tree c.conjs.left) (tokens_in c.conjs.tokens.rest.now) c.conjs-test.false

pub conj_after-returns-in_default-clause-found : goal.conj_after-returns-in_default-clause-found
conj_after-returns-in_default-clause-found t c =
    let none : reader.and_in (first_token (tokens_in c.units.tokens.rest.now)) ≡ None = first_of (search rules, cc, grind (arith, common_steps)) in
    c.units.invariant ∙ chain_ends reader.and_in (reader.both_of bounded) (reader.unit bounded (reader.operand bounded c.args.aggregates) c.args.depth) (c.len-turn-end.result - c.units.turn) (cond_tree c.units.left) (tokens_in c.units.tokens.rest.now) none

pub conj_after-returns-in_err-so_far-clause-none : goal.conj_after-returns-in_err-so_far-clause-none
conj_after-returns-in_err-so_far-clause-none t c =
    let p = err_from_is_err_and c.from_residual.result c.from_residual.ensures.1 in
    rw (p.1, p.2) (λ h. c.units.invariant ∙ turn_breaks reader.and_in (reader.both_of bounded) (reader.unit bounded (reader.operand bounded c.args.aggregates) c.args.depth) c.len-turn-end.result c.units.turn (cond_tree c.units.left) (tokens_in c.units.tokens.rest.now) c.in-Some.field-0 c.units-test.true (sym (c.in-Some.ensures ∙ ap reader.and_in c.peek.ensures))
    (ap (reader.unit bounded (reader.operand bounded c.args.aggregates) c.args.depth) (sym c.advance.ensures) ∙ c.unit.ensures.none (c.in_err-so_far.ensures.none ∙ same_err _ _ h)))

pub conj_after-units-preserved : goal.conj_after-units-preserved
conj_after-units-preserved t c =
    c.units.invariant ∙ turn_goes_on reader.and_in (reader.both_of bounded) (reader.unit bounded (reader.operand bounded c.args.aggregates) c.args.depth) c.len-turn-end.result c.units.turn (cond_tree c.units.left) (tokens_in c.units.tokens.rest.now) c.in-Some.field-0 (cond_tree c.in_ok-so_far.right) (tokens_in c.unit.new.tokens.rest.now) (cond_tree c.in_ok-left.left) c.units-test.true (sym (c.in-Some.ensures ∙ ap reader.and_in c.peek.ensures))
    (ap (reader.unit bounded (reader.operand bounded c.args.aggregates) c.args.depth) (sym c.advance.ensures) ∙ subst (λ r. IfOk r (λ read. reader.unit bounded (reader.operand bounded c.args.aggregates) c.args.depth (tokens_in c.advance.new.self.rest.now) ≡ Some (cond_tree read, tokens_in c.unit.new.tokens.rest.now))) c.in_ok-so_far.ensures.both.1 c.unit.ensures.found) (c.in_ok-left.ensures ∙ ap (λ l. bounded_join Both (cond_tree l) (cond_tree c.in_ok-so_far.right)) c.in_ok-so_far.ensures.both.0)

pub conj_after-returns-clause-found : goal.conj_after-returns-clause-found
conj_after-returns-clause-found t c =
    c.units.invariant ∙ last_turn reader.and_in (reader.both_of bounded) (reader.unit bounded (reader.operand bounded c.args.aggregates) c.args.depth) c.len-turn-end.result c.units.turn (cond_tree c.units.left) (tokens_in c.units.tokens.rest.now) c.units-test.false

-- reading goes on from what inner parentheses enclose
pub enclosed-returns-in_err-first-clause-no_operand : goal.enclosed-returns-in_err-first-clause-no_operand
enclosed-returns-in_err-first-clause-no_operand t c =
    let open_ : is_symbol symbol.Open (first_token (tokens_in c.args.tokens.now.rest.now)) ≡ true = first_of (search rules, cc, grind (arith, common_steps)) in
    let p = err_from_is_err_and c.from_residual.result c.from_residual.ensures.1 in
    rw (p.1, p.2) (λ h. operand_none (tokens_in c.args.tokens.now.rest.now) _ open_ c.advance.ensures (c.in_err-first.ensures.no_operand (same_err _ _ h)))

pub enclosed-returns-in_err-first-clause-no_condition : goal.enclosed-returns-in_err-first-clause-no_condition
enclosed-returns-in_err-first-clause-no_condition t c =
    let open_ : is_symbol symbol.Open (first_token (tokens_in c.args.tokens.now.rest.now)) ≡ true = first_of (search rules, cc, grind (arith, common_steps)) in
    let some : c.args.depth ≢ 0 = c.if-depth-eq0.false in
    let p = err_from_is_err_and c.from_residual.result c.from_residual.ensures.1 in
    rw (p.1, p.2) (λ h. cond_in_parentheses c.args.aggregates c.args.depth (tokens_in c.args.tokens.now.rest.now) _ None some open_ c.advance.ensures (c.in_err-first.ensures.no_operand (same_err _ _ h)) (c.in_err-first.ensures.no_condition (same_err _ _ h)))

pub enclosed-returns-in_err-condition-in-Condition-clause-no_operand : goal.enclosed-returns-in_err-condition-in-Condition-clause-no_operand
enclosed-returns-in_err-condition-in-Condition-clause-no_operand t c =
    let open_ : is_symbol symbol.Open (first_token (tokens_in c.args.tokens.now.rest.now)) ≡ true = first_of (search rules, cc, grind (arith, common_steps)) in
    let found = as_condition _ _ _ _ _ c.in-Condition.is c.in_ok-first.ensures.found in
    λ h. operand_none (tokens_in c.args.tokens.now.rest.now) _ open_ c.advance.ensures found.0

pub enclosed-returns-in_err-condition-in-Condition-clause-no_condition : goal.enclosed-returns-in_err-condition-in-Condition-clause-no_condition
enclosed-returns-in_err-condition-in-Condition-clause-no_condition t c =
    let open_ : is_symbol symbol.Open (first_token (tokens_in c.args.tokens.now.rest.now)) ≡ true = first_of (search rules, cc, grind (arith, common_steps)) in
    let some : c.args.depth ≢ 0 = c.if-depth-eq0.false in
    let found = as_condition _ _ _ _ _ c.in-Condition.is c.in_ok-first.ensures.found in
    let p = err_from_is_err_and c.from_residual-in_err-condition-in-Condition.result c.from_residual-in_err-condition-in-Condition.ensures.1 in
    rw (p.1, p.2) (λ h. cond_in_parentheses c.args.aggregates c.args.depth (tokens_in c.args.tokens.now.rest.now) _ (Some (cond_tree c.in-Condition.first, _)) some open_ c.advance.ensures found.0 found.1 ∙ c.in_err-condition-in-Condition.ensures.none (same_err _ _ h))

pub enclosed-returns-in-Operand-clause-found : goal.enclosed-returns-in-Operand-clause-found
enclosed-returns-in-Operand-clause-found t c =
    let open_ : is_symbol symbol.Open (first_token (tokens_in c.args.tokens.now.rest.now)) ≡ true = first_of (search rules, cc, grind (arith, common_steps)) in
    let some : c.args.depth ≢ 0 = c.if-depth-eq0.false in
    let found = as_operand _ _ _ _ _ c.in-Operand.is c.in_ok-first.ensures.found in
    found_inside _ _ _ _ c.inside_from.result _ (operand_goes_on_from (tokens_in c.args.tokens.now.rest.now) _ _ _ c.len-levels.result open_ c.advance.ensures c.len-levels.ensures found) (cond_from_operand c.args.aggregates c.args.depth (tokens_in c.args.tokens.now.rest.now) _ _ _ c.len-levels.result some open_ c.advance.ensures c.len-levels.ensures found) c.inside_from.ensures.found

pub enclosed-returns-in-Operand-clause-no_operand : goal.enclosed-returns-in-Operand-clause-no_operand
enclosed-returns-in-Operand-clause-no_operand t c =
    let open_ : is_symbol symbol.Open (first_token (tokens_in c.args.tokens.now.rest.now)) ≡ true = first_of (search rules, cc, grind (arith, common_steps)) in
    let found = as_operand _ _ _ _ _ c.in-Operand.is c.in_ok-first.ensures.found in
    λ h. operand_goes_on_from (tokens_in c.args.tokens.now.rest.now) _ _ _ c.len-levels.result open_ c.advance.ensures c.len-levels.ensures found ∙ c.inside_from.ensures.no_operand h

pub enclosed-returns-in-Operand-clause-no_condition : goal.enclosed-returns-in-Operand-clause-no_condition
enclosed-returns-in-Operand-clause-no_condition t c =
    let open_ : is_symbol symbol.Open (first_token (tokens_in c.args.tokens.now.rest.now)) ≡ true = first_of (search rules, cc, grind (arith, common_steps)) in
    let some : c.args.depth ≢ 0 = c.if-depth-eq0.false in
    let found = as_operand _ _ _ _ _ c.in-Operand.is c.in_ok-first.ensures.found in
    λ h. cond_from_operand c.args.aggregates c.args.depth (tokens_in c.args.tokens.now.rest.now) _ _ _ c.len-levels.result some open_ c.advance.ensures c.len-levels.ensures found ∙ c.inside_from.ensures.no_condition h

pub enclosed-returns-in_ok-condition-in-Condition-clause-found : goal.enclosed-returns-in_ok-condition-in-Condition-clause-found
enclosed-returns-in_ok-condition-in-Condition-clause-found t c =
    let open_ : is_symbol symbol.Open (first_token (tokens_in c.args.tokens.now.rest.now)) ≡ true = first_of (search rules, cc, grind (arith, common_steps)) in
    let some : c.args.depth ≢ 0 = c.if-depth-eq0.false in
    let found = as_condition _ _ _ _ _ c.in-Condition.is c.in_ok-first.ensures.found in (
      operand_none (tokens_in c.args.tokens.now.rest.now) _ open_ c.advance.ensures found.0,
      cond_in_parentheses c.args.aggregates c.args.depth (tokens_in c.args.tokens.now.rest.now) _ (Some (cond_tree c.in-Condition.first, _)) some open_ c.advance.ensures found.0 found.1 ∙ c.in_ok-condition-in-Condition.ensures.found,
    )

pub inside_from-returns-in_err-operand-clause-no_condition : goal.inside_from-returns-in_err-operand-clause-no_condition
inside_from-returns-in_err-operand-clause-no_condition t c =
    let p = err_from_is_err_and c.from_residual.result c.from_residual.ensures.1 in
    rw (p.1, p.2) (λ h. from_none c.args.aggregates (reader.unit bounded (reader.operand bounded c.args.aggregates) c.args.depth) c.args.levels (expr_tree c.args.first) (tokens_in c.args.tokens.now.rest.now) (c.in_err-operand.ensures.none (same_err _ _ h)))

pub inside_from-returns-then-is_symbol-clause-found : goal.inside_from-returns-then-is_symbol-clause-found
inside_from-returns-then-is_symbol-clause-found t c =
    let close : is_symbol symbol.Close (first_token (tokens_in c.expr_after.new.tokens.rest.now)) ≡ true = first_of (search rules, cc, grind (arith, common_steps)) in
    from_closed c.args.levels (expr_tree c.args.first) (tokens_in c.args.tokens.now.rest.now) (expr_tree c.in_ok-operand.operand) (tokens_in c.expr_after.new.tokens.rest.now) _ c.in_ok-operand.ensures.found close c.advance.ensures

pub inside_from-returns-in_err-unit-clause-no_operand : goal.inside_from-returns-in_err-unit-clause-no_operand
inside_from-returns-in_err-unit-clause-no_operand t c =
    let open_ : is_symbol symbol.Close (first_token (tokens_in c.expr_after.new.tokens.rest.now)) ≡ false = first_of (search rules, cc, grind (arith, common_steps)) in
    λ h. from_open c.args.levels (expr_tree c.args.first) (tokens_in c.args.tokens.now.rest.now) (expr_tree c.in_ok-operand.operand) (tokens_in c.expr_after.new.tokens.rest.now) c.in_ok-operand.ensures.found open_

pub inside_from-returns-in_err-unit-clause-no_condition : goal.inside_from-returns-in_err-unit-clause-no_condition
inside_from-returns-in_err-unit-clause-no_condition t c =
    let p = err_from_is_err_and c.from_residual-in_err-unit.result c.from_residual-in_err-unit.ensures.1 in
    rw (p.1, p.2) (λ h. from_test c.args.aggregates (reader.unit bounded (reader.operand bounded c.args.aggregates) c.args.depth) c.args.levels (expr_tree c.args.first) (tokens_in c.args.tokens.now.rest.now) (expr_tree c.in_ok-operand.operand) (tokens_in c.expr_after.new.tokens.rest.now) None c.in_ok-operand.ensures.found (c.in_err-unit.ensures.none (same_err _ _ h)))

pub inside_from-returns-in_err-condition-clause-no_operand : goal.inside_from-returns-in_err-condition-clause-no_operand
inside_from-returns-in_err-condition-clause-no_operand t c =
    let open_ : is_symbol symbol.Close (first_token (tokens_in c.expr_after.new.tokens.rest.now)) ≡ false = first_of (search rules, cc, grind (arith, common_steps)) in
    λ h. from_open c.args.levels (expr_tree c.args.first) (tokens_in c.args.tokens.now.rest.now) (expr_tree c.in_ok-operand.operand) (tokens_in c.expr_after.new.tokens.rest.now) c.in_ok-operand.ensures.found open_

pub inside_from-returns-in_err-condition-clause-no_condition : goal.inside_from-returns-in_err-condition-clause-no_condition
inside_from-returns-in_err-condition-clause-no_condition t c =
    let p = err_from_is_err_and c.from_residual-in_err-condition.result c.from_residual-in_err-condition.ensures.1 in
    rw (p.1, p.2) (λ h. from_test c.args.aggregates (reader.unit bounded (reader.operand bounded c.args.aggregates) c.args.depth) c.args.levels (expr_tree c.args.first) (tokens_in c.args.tokens.now.rest.now) (expr_tree c.in_ok-operand.operand) (tokens_in c.expr_after.new.tokens.rest.now) (Some (cond_tree c.in_ok-unit.unit, _)) c.in_ok-operand.ensures.found c.in_ok-unit.ensures.found ∙ c.in_err-condition.ensures.none (same_err _ _ h))

pub inside_from-returns-clause-found : goal.inside_from-returns-clause-found
inside_from-returns-clause-found t c =
    let open_ : is_symbol symbol.Close (first_token (tokens_in c.expr_after.new.tokens.rest.now)) ≡ false = first_of (search rules, cc, grind (arith, common_steps)) in (
      from_open c.args.levels (expr_tree c.args.first) (tokens_in c.args.tokens.now.rest.now) (expr_tree c.in_ok-operand.operand) (tokens_in c.expr_after.new.tokens.rest.now) c.in_ok-operand.ensures.found open_,
      from_test c.args.aggregates (reader.unit bounded (reader.operand bounded c.args.aggregates) c.args.depth) c.args.levels (expr_tree c.args.first) (tokens_in c.args.tokens.now.rest.now) (expr_tree c.in_ok-operand.operand) (tokens_in c.expr_after.new.tokens.rest.now) (Some (cond_tree c.in_ok-unit.unit, _)) c.in_ok-operand.ensures.found c.in_ok-unit.ensures.found ∙ c.in_ok-condition.ensures.found,
    )
