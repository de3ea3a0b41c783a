-- A join keeps the rule.
use Rattle.std.proofs.Common.{arith}
use Rattle.turn_hall.proofs.Lifecycle.{joins}
use Rattle.turn_hall.proofs.hall.Hall.take_in.Goals as goal

pub join_seat-requires : goal.join_seat-requires
join_seat-requires g c = (
  c.requires.hall.0,
  c.requires.hall.1,
  c.requires.free.1.1,
  (let sized = c.args.self.now.sized in omega arith),
  joins g.V.Logged.entries g.V.Logged.author _ _ _ _ c.requires.free.0.0 c.requires.first c.requires.free.1.0,
)
