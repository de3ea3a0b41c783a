use Rattle.std.proofs.Common.{◌≡◌, Some}
use Rattle.std.proofs.lemmas.Result.{IfOk-weaker}
use Rattle.sql_tree.specs.Tree.{stmt_tree}
use Rattle.plan_queries.proofs.PlanLemmas.{optimised_is}
use Rattle.plan_queries.proofs.plan.plan_query.Goals as goal

pub returns-clause-plan : goal.returns-clause-plan
returns-clause-plan c = IfOk-weaker c.optimise.result _ _
    (λ made is. optimised_is (stmt_tree c.args.typed.now.stmt) c.args.typed.now.sources c.in_ok-plan.plan made c.in_ok-plan.ensures.plan is) c.optimise.ensures.plan
