use Rattle.run_log.proofs.StepLemmas.{steps_keep_holds}
use Rattle.run_log.proofs.laws.steps_keep.Goals as goal

pub returns : goal.returns
returns c = steps_keep_holds
