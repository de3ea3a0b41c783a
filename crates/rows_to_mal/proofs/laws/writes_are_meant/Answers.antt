use Rattle.rows_to_mal.proofs.WriteLemmas.{writes_are_meant as writes_kept}
use Rattle.rows_to_mal.proofs.laws.writes_are_meant.Goals as goal

pub returns : goal.returns
returns c = writes_kept
