use Rattle.query_run.proofs.ReadyLemmas.{NoneBefore}
use Rattle.query_run.proofs.step.RunningQuery.first_ready.Given as goal

-- none before the next instruction is ready
abbrev pub invariant-instrs : goal.invariant-instrs
invariant-instrs l = NoneBefore l.self l.n
