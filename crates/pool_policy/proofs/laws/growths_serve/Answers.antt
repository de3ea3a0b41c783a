use Rattle.pool_policy.proofs.Growths as growths
use Rattle.pool_policy.proofs.laws.growths_serve.Goals as goal

pub returns : goal.returns
returns c = growths.growths_serve
