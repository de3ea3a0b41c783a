use Rattle.query_keys.proofs.InstrLemmas.{instrs_run_all}
use Rattle.query_keys.proofs.laws.instrs_run.Goals as goal

pub returns : goal.returns
returns c = instrs_run_all
