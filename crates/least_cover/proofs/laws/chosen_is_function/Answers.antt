use Rattle.least_cover.proofs.Chosen.{chosen_is_function_holds}
use Rattle.least_cover.proofs.laws.chosen_is_function.Goals as goal

pub returns : goal.returns
returns c = chosen_is_function_holds
