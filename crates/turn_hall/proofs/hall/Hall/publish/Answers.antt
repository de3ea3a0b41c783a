-- The count of the longer list keeps the rule.
use Rattle.std.proofs.Common.{arith}
use Rattle.turn_hall.proofs.Keeps.{publishes}
use Rattle.turn_hall.proofs.hall.Hall.publish.Goals as goal

pub store-requires : goal.store-requires
store-requires g c = (
  c.requires.hall,
  (let sized = c.args.self.now.sized in omega arith),
  publishes g.V.Logged.entries g.V.Logged.author _ _ _ c.requires.turn.0 _ c.requires.added.0 c.requires.turn.1 c.requires.added.1 c.requires.added.2 c.requires.count,
)
