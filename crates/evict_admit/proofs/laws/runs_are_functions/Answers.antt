use Rattle.evict_admit.proofs.Runs.{runs_are_functions_hold}
use Rattle.evict_admit.proofs.laws.runs_are_functions.Goals as goal

pub returns : goal.returns
returns c = runs_are_functions_hold
