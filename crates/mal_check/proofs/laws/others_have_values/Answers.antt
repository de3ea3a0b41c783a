use Rattle.mal_check.proofs.SomeLemmas.{others_made}
use Rattle.mal_check.proofs.laws.others_have_values.Goals as goal

pub returns : goal.returns
returns c = others_made
