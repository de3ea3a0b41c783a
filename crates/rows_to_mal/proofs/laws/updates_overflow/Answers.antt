use Rattle.rows_to_mal.proofs.EffectLemmas.{updates_overflow as overflows_alike}
use Rattle.rows_to_mal.proofs.laws.updates_overflow.Goals as goal

pub returns : goal.returns
returns c = overflows_alike
