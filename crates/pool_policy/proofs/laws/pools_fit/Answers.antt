use Rattle.pool_policy.proofs.Fitting.{pools_fit_all}
use Rattle.pool_policy.proofs.laws.pools_fit.Goals as goal

pub returns : goal.returns
returns c = pools_fit_all
