use Rattle.change_plans.proofs.PlaceLemmas.{decisions_are_in_place as in_place}
use Rattle.change_plans.proofs.laws.decisions_are_in_place.Goals as goal

pub returns : goal.returns
returns c = in_place
