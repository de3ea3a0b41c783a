use Rattle.least_cover.proofs.Certified.{bounds}
use Rattle.least_cover.proofs.laws.certificates_bound.Goals as goal

pub returns : goal.returns
returns c = bounds
