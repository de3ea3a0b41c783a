use Rattle.update_propagate.proofs.Listed.{pairs_behind}
use Rattle.update_propagate.proofs.rows.rows_behind.Goals as goal

pub returns : goal.returns
returns c = let e = pairs_behind c.args.count c.args.bat.now in cc (c.in_ok-heads.ensures, c.in_ok-tails.ensures, c.heads.ensures, c.tails.ensures)
