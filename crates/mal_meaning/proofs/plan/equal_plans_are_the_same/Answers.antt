use Rattle.mal_meaning.specs.SamePlan.{same_plan_decides}
use Rattle.mal_meaning.proofs.plan.equal_plans_are_the_same.Goals as goal

pub returns : goal.returns
returns c = same_plan_decides c.args.a.now c.args.b.now
