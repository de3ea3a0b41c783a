use Rattle.std.proofs.Common.{length}
use Rattle.mal_exec.proofs.RunLemmas.{Reached}
use Rattle.mal_exec.proofs.run.run_instrs.Given as goal

-- running the rest after what has run has the result of running all, in values and in work
abbrev pub invariant-instrs : goal.invariant-instrs
invariant-instrs g l = Reached (g.C.Columns.database l.columns) l.instrs l.fn.steps l.values l.rest l.load l.steps

abbrev pub decreases-instrs : goal.decreases-instrs
decreases-instrs g l = length l.rest
