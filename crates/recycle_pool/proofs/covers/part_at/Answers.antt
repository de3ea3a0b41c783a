use Rattle.recycle_pool.proofs.Pieces.{piece_is}
use Rattle.recycle_pool.proofs.covers.part_at.Goals as goal

pub returns-clause-piece : goal.returns-clause-piece
returns-clause-piece c = piece_is c.args.target.now c.args.cut c.args.selections.now c.args.place c.index-selections-place.result _ c.requires.low c.index-selections-place.is c.in_ok-high.ensures
