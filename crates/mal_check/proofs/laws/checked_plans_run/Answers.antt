use Rattle.mal_check.proofs.RunLemmas.{runs}
use Rattle.mal_check.proofs.laws.checked_plans_run.Goals as goal

pub returns : goal.returns
returns c = runs
