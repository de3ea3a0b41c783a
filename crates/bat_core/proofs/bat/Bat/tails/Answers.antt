use Rattle.bat_core.proofs.PairLemmas.{tails_are}
use Rattle.bat_core.proofs.bat.Bat.tails.Goals as goal

pub returns : goal.returns
returns c = tails_are c.self.inside.heads c.self.inside.tails c.args.self.now c.self.invariant c.self.view_is
