use Rattle.lineage_key.specs.Same.{same_shape_decides}
use Rattle.lineage_key.proofs.shape.equal_shapes_are_the_same.Goals as goal

pub returns : goal.returns
returns c = same_shape_decides c.args.a.now c.args.b.now
