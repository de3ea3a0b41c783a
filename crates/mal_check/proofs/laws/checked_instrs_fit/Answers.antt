use Rattle.mal_check.proofs.PointLemmas.{instrs_fit}
use Rattle.mal_check.proofs.laws.checked_instrs_fit.Goals as goal

pub returns : goal.returns
returns c = instrs_fit
