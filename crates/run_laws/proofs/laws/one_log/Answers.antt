use Rattle.run_laws.proofs.ScheduleLemmas.{one_log_holds}
use Rattle.run_laws.proofs.laws.one_log.Goals as goal

pub returns : goal.returns
returns c = one_log_holds c.one_reading.ensures
