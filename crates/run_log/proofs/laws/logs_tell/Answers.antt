use Rattle.run_log.proofs.LogLemmas.{logs_tell_holds}
use Rattle.run_log.proofs.laws.logs_tell.Goals as goal

pub returns : goal.returns
returns c = logs_tell_holds
