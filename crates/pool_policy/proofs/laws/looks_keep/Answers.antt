use Rattle.pool_policy.proofs.Kept.{look_keeps, release_keeps}
use Rattle.pool_policy.proofs.Empty.{empty_is}
use Rattle.pool_policy.proofs.Touches.{forget_keeps}
use Rattle.pool_policy.proofs.laws.looks_keep.Goals as goal

pub returns : goal.returns
returns c = record { empty = empty_is; look = look_keeps; release = release_keeps; forget = forget_keeps }
