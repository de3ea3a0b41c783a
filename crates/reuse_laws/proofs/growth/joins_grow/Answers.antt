use Rattle.reuse_laws.proofs.Appends.{joined_append, joined_grown, joined_both}
use Rattle.reuse_laws.proofs.growth.joins_grow.Goals as goal

pub returns : goal.returns
returns c = record { left = joined_append; right = joined_grown; both = joined_both }
