use Rattle.rows_to_mal.proofs.TypedPlanLemmas.{write_plans_run as plans_fit}
use Rattle.rows_to_mal.proofs.laws.write_plans_run.Goals as goal

pub returns : goal.returns
returns c = plans_fit c.checked_plans_run.ensures
