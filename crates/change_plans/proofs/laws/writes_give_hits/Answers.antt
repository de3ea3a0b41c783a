use Rattle.change_plans.proofs.TableLemmas.{writes_give_hits as hits_given}
use Rattle.change_plans.proofs.laws.writes_give_hits.Goals as goal

pub returns : goal.returns
returns c = hits_given c.writes_are_meant.ensures c.plans_give_hits.ensures
