-- The turn passes on, and the rule is kept.
use Rattle.std.proofs.Common.{arith}
use Rattle.turn_hall.proofs.Calls.{passes_on_at}
use Rattle.turn_hall.proofs.hall.Hall.pass_on.Goals as goal

pub fetch_add-requires : goal.fetch_add-requires
fetch_add-requires g c = (
  c.requires.hall,
  (let sized = c.args.self.now.sized in omega arith),
  passes_on_at g.V.Logged.entries g.V.Logged.author _ _ _ c.requires.whole.0 _ c.requires.whole.1 c.requires.turn c.args.self.now.sized.1 c.requires.whole.2,
)
