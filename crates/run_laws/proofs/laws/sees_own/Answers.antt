use Rattle.run_laws.proofs.EarlierLemmas.{sees_own_holds}
use Rattle.run_laws.proofs.laws.sees_own.Goals as goal

pub returns : goal.returns
returns c = sees_own_holds
