use Rattle.std.proofs.Common.{◌≡◌, length}
use Rattle.mal_meaning.specs.Runs.{run_from, run_values}
use Rattle.mal_meaning.proofs.slow.run_instrs.Given as goal

-- running the rest after what has run has the result of running all
abbrev pub invariant-instrs : goal.invariant-instrs
invariant-instrs l = run_from l.db l.values l.rest ≡ run_values l.db l.instrs

abbrev pub decreases-instrs : goal.decreases-instrs
decreases-instrs l = length l.rest
