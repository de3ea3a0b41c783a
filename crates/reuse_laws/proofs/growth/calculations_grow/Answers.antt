use Rattle.reuse_laws.proofs.Calculated.{calculated_append}
use Rattle.reuse_laws.proofs.growth.calculations_grow.Goals as goal

pub returns : goal.returns
returns c = calculated_append
