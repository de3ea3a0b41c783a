use Rattle.std.proofs.Common.{rules, ◌≡◌, ◌<◌, length, subst, arith}
use Rattle.query_run.proofs.ReadyLemmas.{NoneBefore, first_is, none_next, none_ready}
use Rattle.query_run.proofs.step.RunningQuery.first_ready.Goals as goal

pub returns-then-is_ready-clause-some : goal.returns-then-is_ready-clause-some
returns-then-is_ready-clause-some c =
    let inside : c.instrs.n < length c.args.self.now.plan.instrs = search rules in
    first_is c.args.self.now c.instrs.n c.is_ready.result inside c.is_ready.ensures c.if-is_ready.true

pub instrs-preserved : goal.instrs-preserved
instrs-preserved c = none_next c.args.self.now c.instrs.n c.is_ready.result c.is_ready.ensures c.if-is_ready.false c.instrs.invariant

pub returns-clause-none : goal.returns-clause-none
returns-clause-none c =
    let all : c.instrs.n ≡ length c.args.self.now.plan.instrs = omega arith in
    none_ready c.args.self.now (subst (NoneBefore c.args.self.now) all c.instrs.invariant)
