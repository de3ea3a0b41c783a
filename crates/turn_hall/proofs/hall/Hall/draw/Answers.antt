-- The draw keeps the rule.
use Rattle.std.proofs.Common.{arith}
use Rattle.turn_hall.proofs.Keeps.{draws}
use Rattle.turn_hall.proofs.hall.Hall.draw.Goals as goal

pub fetch_add-requires : goal.fetch_add-requires
fetch_add-requires g c = (
  c.requires.hall,
  (let sized = c.args.self.now.sized in omega arith),
  draws g.V.Logged.entries g.V.Logged.author _ _ _ c.requires.free.0,
)
