use Rattle.std.proofs.Common.{ap, subst, sym, ◌∙◌}
use Rattle.std.proofs.lemmas.Result.{IfOk-weaker}
use Rattle.mal_meaning.specs.declared.plan.Plan.{Plan}
use Rattle.mal_meaning.specs.Meaning.{plan_rows}
use Rattle.sql_tree.specs.Tree.{stmt_tree}
use Rattle.rows_to_mal.specs.Laws.{RunsOver}
use Rattle.rows_to_mal.specs.Writes.{write_plan}
use Rattle.rows_to_mal.proofs.SameLemmas.{known, same_rows, of_rows, runs_known}
use Rattle.rows_to_mal.proofs.compile.compile_write.Goals as goal

pub returns-clause-meaning : goal.returns-clause-meaning
returns-clause-meaning c = IfOk-weaker c.change_plan.result _ _
    (λ plan e db holds. ap (λ (p : Plan). plan_rows p db) e
    ∙ known same_rows of_rows _ _ c.args.typed.now.formed (λ formed. c.writes_are_meant.ensures (stmt_tree c.args.typed.now.stmt) c.args.typed.now.sources db c.requires formed c.args.typed.now.accepted holds))
    c.change_plan.ensures

pub returns-clause-runs : goal.returns-clause-runs
returns-clause-runs c = IfOk-weaker c.change_plan.result _ _
    (λ plan e db holds. subst (λ (p : Plan). RunsOver p db) (sym e)
    (runs_known c.checked_plans_run.ensures (write_plan (stmt_tree c.args.typed.now.stmt) c.args.typed.now.sources) db c.args.typed.now.formed
    (λ formed. c.write_plans_run.ensures (stmt_tree c.args.typed.now.stmt) c.args.typed.now.sources db c.requires formed c.args.typed.now.accepted holds)))
    c.change_plan.ensures
