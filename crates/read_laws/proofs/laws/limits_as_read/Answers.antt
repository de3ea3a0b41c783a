use Rattle.read_laws.proofs.DerivedLimits.{limits_are_read}
use Rattle.read_laws.proofs.laws.limits_as_read.Goals as goal

pub returns : goal.returns
returns c = limits_are_read
