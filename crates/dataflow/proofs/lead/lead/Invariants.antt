use Rattle.std.proofs.Common.{◌≡◌}
use Rattle.dataflow.specs.Hands.{IsHandsOf}
use Rattle.dataflow.specs.Leads.{KnowsOut}
use Rattle.dataflow.proofs.lead.lead.Given as goal

abbrev pub invariant-steps : goal.invariant-steps
invariant-steps g l = record {
  ours : IsHandsOf g.K.HasBasis.basis l.team.queues l.hands;
  basis : g.J.Jobs.basis l.jobs ≡ g.J.Jobs.basis l.fn.jobs;
  fixed : g.J.Jobs.fixed l.jobs ≡ g.J.Jobs.fixed l.fn.jobs;
  sound : g.J.Jobs.sound l.jobs;
  known : KnowsOut (g.J.Jobs.handed l.jobs) (g.J.Jobs.finished l.jobs) l.out.items;
}
