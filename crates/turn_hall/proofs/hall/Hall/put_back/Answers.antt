-- The slot is the pass's own, so a value may be put back.
use Rattle.turn_hall.proofs.Keeps.{puts_back}
use Rattle.turn_hall.proofs.hall.Hall.put_back.Goals as goal

pub exchange-empty-requires : goal.exchange-empty-requires
exchange-empty-requires g c = (c.requires.hall, puts_back g.V.Logged.entries g.V.Logged.author c.args.pass.now.seat.me c.requires.empty)
