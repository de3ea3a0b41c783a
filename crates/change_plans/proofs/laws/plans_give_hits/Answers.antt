use Rattle.change_plans.proofs.HitLemmas.{plans_give_hits as hits_given}
use Rattle.change_plans.proofs.laws.plans_give_hits.Goals as goal

pub returns : goal.returns
returns c = hits_given c.updates_overflow.ensures
