use Rattle.least_cover.proofs.Pieces.{cheapest_cuts_up_holds}
use Rattle.least_cover.proofs.laws.cheapest_cuts_up.Goals as goal

pub returns : goal.returns
returns c = cheapest_cuts_up_holds
