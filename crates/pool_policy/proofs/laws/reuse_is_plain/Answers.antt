use Rattle.pool_policy.proofs.Reuses.{reuse_is_plain_holds}
use Rattle.pool_policy.proofs.laws.reuse_is_plain.Goals as goal

pub returns : goal.returns
returns c = reuse_is_plain_holds
