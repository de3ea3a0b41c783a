use Rattle.evict_admit.proofs.Seats.{reseated}
use Rattle.evict_admit.proofs.board.reseat.Goals as goal

pub returns-clause-seated : goal.returns-clause-seated
returns-clause-seated c =
    reseated c.args.known.now c.args.lefts.now c.args.winners.now c.settle.new.winners c.args.place c.args.left c.is_ready-seated.result c.requires.known c.requires.seated c.requires.place c.is_ready-seated.ensures c.settle.ensures.whole c.settle.ensures.seat c.settle.ensures.others
