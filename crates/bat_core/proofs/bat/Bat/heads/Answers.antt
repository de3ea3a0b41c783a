use Rattle.bat_core.proofs.PairLemmas.{heads_are}
use Rattle.bat_core.proofs.bat.Bat.heads.Goals as goal

pub returns : goal.returns
returns c = heads_are c.self.inside.heads c.self.inside.tails c.args.self.now c.self.invariant c.self.view_is
