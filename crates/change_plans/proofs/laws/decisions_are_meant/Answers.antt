use Rattle.change_plans.proofs.DecideLemmas.{decisions_are_meant as meant}
use Rattle.change_plans.proofs.laws.decisions_are_meant.Goals as goal

pub returns : goal.returns
returns c = meant
