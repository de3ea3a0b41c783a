use Rattle.dataflow.specs.Hands.{IsHandsOf}
use Rattle.dataflow.proofs.lead.await_answer.Given as goal

abbrev pub invariant-takes : goal.invariant-takes
invariant-takes g l = IsHandsOf g.K.HasBasis.basis l.team.queues l.hands
