use Rattle.dataflow.specs.Hands.{IsHandsOf}
use Rattle.dataflow.specs.Workers.{GiveBackTo}
use Rattle.dataflow.proofs.run.start.Given as goal

abbrev pub invariant-workers : goal.invariant-workers
invariant-workers g l = record {
  ours : IsHandsOf g.K.HasBasis.basis l.team.queues l.hands;
  theirs : GiveBackTo l.team l.started.items;
}
