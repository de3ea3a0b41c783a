use Rattle.lineage_key.specs.Same.{same_key_decides}
use Rattle.lineage_key.proofs.key.equal_keys_are_the_same.Goals as goal

pub returns : goal.returns
returns c = same_key_decides c.args.a.now c.args.b.now
