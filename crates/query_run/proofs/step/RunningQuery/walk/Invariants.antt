use Rattle.std.proofs.Common.{◌≡◌, ◌+◌, ◌-◌, length}
use Rattle.query_run.specs.Queries.{GoesOn, HasBefore}
use Rattle.query_run.proofs.step.RunningQuery.walk.Given as goal

-- it goes on from where it began, all results before the next instruction are there, and the counter has risen by the work that was done since
abbrev pub invariant-instrs : goal.invariant-instrs
invariant-instrs g l = record {
  goes : GoesOn l.fn.self l.self;
  before : HasBefore l.self l.n;
  counted : l.steps + l.fn.self.work ≡ l.fn.steps + l.self.work;
}

abbrev pub decreases-instrs : goal.decreases-instrs
decreases-instrs g l = length l.fn.self.plan.instrs - l.n
