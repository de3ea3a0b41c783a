use Rattle.std.specs.Prelude.{All}
use Rattle.dataflow.specs.Jobs.{CanRun}
use Rattle.flow_tests.proofs.ready_tests.jobs.Given as goal

abbrev pub invariant-jobs : goal.invariant-jobs
invariant-jobs l = All CanRun l.jobs.items
