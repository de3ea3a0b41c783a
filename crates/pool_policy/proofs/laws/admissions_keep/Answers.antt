use Rattle.pool_policy.proofs.NewEntry.{admit_keeps}
use Rattle.pool_policy.proofs.laws.admissions_keep.Goals as goal

pub returns : goal.returns
returns c = admit_keeps
