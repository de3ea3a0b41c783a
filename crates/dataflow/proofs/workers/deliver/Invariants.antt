use Rattle.dataflow.specs.Rules.{IsAnswer}
use Rattle.dataflow.specs.Hands.{IsHandsOf}
use Rattle.dataflow.proofs.workers.deliver.Given as goal

abbrev pub invariant-pushes : goal.invariant-pushes
invariant-pushes g l = record {
  ours : IsHandsOf g.K.HasBasis.basis l.team.queues l.hands;
  answer : IsAnswer g.K.HasBasis.basis l.answer;
}
