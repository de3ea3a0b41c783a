use Rattle.group_to_mal.proofs.RunLemmas.{query_plans_run as plans_run}
use Rattle.group_to_mal.proofs.laws.query_plans_run.Goals as goal

pub returns : goal.returns
returns c = plans_run c.checked_plans_run.ensures
