use Rattle.recycle_mark.proofs.BatTypes.{bats_typed}
use Rattle.recycle_mark.proofs.laws.bats_are_typed.Goals as goal

pub returns : goal.returns
returns c = bats_typed
