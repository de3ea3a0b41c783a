use Rattle.least_cover.proofs.Chains.{chosen_costs, one_chosen}
use Rattle.least_cover.proofs.Covering.{chain_is_cover}
use Rattle.least_cover.proofs.laws.one_chosen.Goals as goal

pub returns : goal.returns
returns c spans target = record {
  covers_all = chain_is_cover spans target;
  costs_least = chosen_costs spans target;
  one = one_chosen spans target;
}
