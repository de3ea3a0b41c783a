use Rattle.std.proofs.Common.{rules, ◌≡◌, ◌<◌, length, ap, sym, ◌∙◌}
use Rattle.std.specs.Prelude.{Err}
use Rattle.query_run.proofs.CountLemmas.{walk_overflows}
use Rattle.query_run.proofs.WalkLemmas.{asks_here, comes_so, not_asked, overflow_ends}
use Rattle.query_run.proofs.step.RunningQuery.walk.Goals as goal

pub to_ask-requires-clause-at : goal.to_ask-requires-clause-at
to_ask-requires-clause-at g c =
    let inside : c.instrs.n < length c.instrs.self.plan.instrs = search rules in
    asks_here c.instrs_run.ensures c.instrs.self c.instrs.n c.instrs.invariant.goes.under c.instrs.invariant.before inside (sym c.must_ask.ensures ∙ c.if-must_ask.true)

pub have-requires-clause-unmarked : goal.have-requires-clause-unmarked
have-requires-clause-unmarked g c = λ none.
    let inside : c.instrs.n < length c.instrs.self.plan.instrs = search rules in
    not_asked c.instrs.self c.instrs.n inside (sym c.must_ask.ensures ∙ c.if-must_ask.false) none

pub returns-in-Err-Overflow-clause-step : goal.returns-in-Err-Overflow-clause-step
returns-in-Err-Overflow-clause-step g c =
    let overflows = ap Err c.in-Err-Overflow.field-0-is in
    let none = c.in-Err-Overflow.ensures.overflow overflows in
    overflow_ends c.args.self c.instrs.self c.instrs.invariant.goes c.instrs.n c.overflow.result c.instrs.invariant.before none.0 none.1 c.overflow.ensures

pub returns-in-Err-Overflow-clause-counted : goal.returns-in-Err-Overflow-clause-counted
returns-in-Err-Overflow-clause-counted g c =
    let overflows = ap Err c.in-Err-Overflow.field-0-is in
    walk_overflows c.args.self c.instrs.self c.instrs.n c.overflow.result c.args.steps.now c.instrs.steps c.have.new.steps c.instrs.invariant.goes (c.in-Err-Overflow.ensures.overflow overflows).1 c.overflow.ensures
    c.instrs.invariant.counted (c.in-Err-Overflow.ensures.later overflows) (c.in-Err-Overflow.ensures.within overflows)

pub returns-clause-step : goal.returns-clause-step
returns-clause-step g c = comes_so c.args.self c.instrs.self c.instrs.invariant.goes c.finish.result c.finish.ensures.step
