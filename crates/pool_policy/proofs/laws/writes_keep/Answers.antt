use Rattle.pool_policy.proofs.WriteEnds.{writes_keep_holds}
use Rattle.pool_policy.proofs.laws.writes_keep.Goals as goal

pub returns : goal.returns
returns c = writes_keep_holds
