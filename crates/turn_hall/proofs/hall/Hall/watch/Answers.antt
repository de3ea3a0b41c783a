-- The watch keeps the rule, whether the ticket is served or not.
use Rattle.std.proofs.Common.{arith}
use Rattle.turn_hall.proofs.Keeps.{watches}
use Rattle.turn_hall.proofs.hall.Hall.watch.Goals as goal

pub load-requires : goal.load-requires
load-requires g c = (
  c.requires.hall,
  (let sized = c.args.self.now.sized in omega arith),
  watches g.V.Logged.entries g.V.Logged.author _ _ c.requires.waits.0 _ c.requires.waits.2,
)
