use Rattle.group_to_mal.proofs.LawLemmas.{plans_mean_answers}
use Rattle.group_to_mal.proofs.laws.plans_mean_answers.Goals as goal

pub returns : goal.returns
returns c = plans_mean_answers
