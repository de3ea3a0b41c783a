use Rattle.std.proofs.Common.{ap}
use Rattle.std.specs.Prelude.{Err}
use Rattle.query_run.proofs.ReadyLemmas.{bind_valued}
use Rattle.query_run.proofs.step.RunningQuery.bound.Goals as goal

pub unreachable-requires : goal.unreachable-requires
unreachable-requires g c =
    let bind = c.requires.bind in
    bind_valued c.instrs_run.ensures c.args.self.now c.args.n bind.0 c.requires.under bind.1 bind.2 (c.in-Err-Overflow.ensures.overflow (ap Err c.in-Err-Overflow.field-0-is))
