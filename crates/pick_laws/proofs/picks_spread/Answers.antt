use Rattle.pick_laws.proofs.SpreadLemmas.{joined_spread, crossed_spread, heads_of_spread, tails_of_spread}
use Rattle.pick_laws.proofs.picks_spread.Goals as goal

pub returns : goal.returns
returns g c = record { join = joined_spread; cross = crossed_spread; heads = λ h picks. heads_of_spread h 0 picks; tails = λ h picks. tails_of_spread h 0 picks }
