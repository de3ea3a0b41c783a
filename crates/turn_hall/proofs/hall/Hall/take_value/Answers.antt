-- The slot is the pass's own, so its value may be taken.
use Rattle.turn_hall.proofs.Keeps.{takes_value}
use Rattle.turn_hall.proofs.hall.Hall.take_value.Goals as goal

pub exchange-requires : goal.exchange-requires
exchange-requires g c = (c.requires.hall, takes_value g.V.Logged.entries g.V.Logged.author c.args.pass.now.seat.me c.requires.whole.0 c.requires.whole.1)
