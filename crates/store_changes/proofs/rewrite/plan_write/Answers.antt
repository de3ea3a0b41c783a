use Rattle.std.proofs.Common.{ap, ◌∙◌}
use Rattle.mal_opt.specs.Optimisers.{optimise}
use Rattle.store_changes.proofs.rewrite.plan_write.Goals as goal

pub returns-clause-plan : goal.returns-clause-plan
returns-clause-plan c = c.in_ok-better.ensures.plan ∙ ap optimise c.in_ok-plan.ensures.plan
