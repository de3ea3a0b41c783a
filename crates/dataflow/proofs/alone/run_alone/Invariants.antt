use Rattle.std.proofs.Common.{◌≡◌, []}
use Rattle.dataflow.specs.Leads.{KnowsOut}
use Rattle.dataflow.proofs.alone.run_alone.Given as goal

abbrev pub invariant-steps : goal.invariant-steps
invariant-steps g l = record {
  basis : g.J.Jobs.basis l.jobs ≡ g.J.Jobs.basis l.fn.jobs;
  fixed : g.J.Jobs.fixed l.jobs ≡ g.J.Jobs.fixed l.fn.jobs;
  sound : g.J.Jobs.sound l.jobs;
  known : KnowsOut (g.J.Jobs.handed l.jobs) (g.J.Jobs.finished l.jobs) l.out.items;
  none : l.out.items ≡ [];
}
