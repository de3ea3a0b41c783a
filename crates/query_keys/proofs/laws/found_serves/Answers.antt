use Rattle.query_keys.proofs.RangeLemmas.{found_serves_all}
use Rattle.query_keys.proofs.laws.found_serves.Goals as goal

pub returns : goal.returns
returns c = found_serves_all
