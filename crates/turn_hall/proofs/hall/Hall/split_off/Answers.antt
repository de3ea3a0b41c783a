-- A split keeps the rule.
use Rattle.std.proofs.Common.{arith}
use Rattle.turn_hall.proofs.Lifecycle.{splits_off}
use Rattle.turn_hall.proofs.hall.Hall.split_off.Goals as goal

pub split_seat-seat-requires : goal.split_seat-seat-requires
split_seat-seat-requires g c = (
  c.requires.hall,
  (let sized = c.args.self.now.sized in omega arith),
  splits_off g.V.Logged.entries g.V.Logged.author _ _ c.requires.free.0 c.requires.first c.requires.room,
)
