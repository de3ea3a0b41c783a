use Rattle.std.proofs.Common.{rules}
use Rattle.dataflow.proofs.LeadLemmas.{out_finished}
use Rattle.dataflow.proofs.pending.finish.Goals as goal

pub returns-clause-known : goal.returns-clause-known
returns-clause-known g c =
    out_finished (g.J.Jobs.handed c.args.jobs.now) (g.J.Jobs.finished c.args.jobs.now) c.args.out.now.items
    (g.J.Jobs.handed c.done.new.self) (g.J.Jobs.finished c.done.new.self) c.remove.new.out.items c.args.instr c.requires.known
    (search rules) (search rules) c.remove.ensures
