-- The comparison keeps the rule.
use Rattle.std.proofs.Common.{arith}
use Rattle.turn_hall.proofs.Lifecycle.{compares}
use Rattle.turn_hall.proofs.hall.Hall.compare.Goals as goal

pub load-requires : goal.load-requires
load-requires g c = (
  c.requires.hall,
  (let sized = c.args.self.now.sized in omega arith),
  compares g.V.Logged.entries g.V.Logged.author _ _ _ c.requires.free.0,
)
