use Rattle.pool_policy.proofs.VersionLaws.{versions_hold_all}
use Rattle.pool_policy.proofs.laws.versions_hold.Goals as goal

pub returns : goal.returns
returns c = versions_hold_all
