use Rattle.subsume.proofs.Cuttings.{cutting_parts}
use Rattle.subsume.proofs.pieces.cuttings_are_partitions.Goals as goal

pub returns : goal.returns
returns c target entries pieces h = cutting_parts target entries target.low pieces h
