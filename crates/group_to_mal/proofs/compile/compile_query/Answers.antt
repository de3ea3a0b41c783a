use Rattle.std.proofs.Common.{◌≡◌, Some, None}
use Rattle.cell_core.specs.declared.table.Db.{Db}
use Rattle.mal_meaning.specs.Meaning.{plan_rows}
use Rattle.mal_meaning.specs.Runs.{Runs}
use Rattle.mal_check.specs.Checked.{plan_fault}
use Rattle.mal_check.specs.Runnable.{FitsDb}
use Rattle.sql_tree.specs.Tree.{stmt_tree}
use Rattle.sql_definitions.specs.Answer.{answer_of_stmt}
use Rattle.rows_to_mal.specs.Laws.{HoldsTables}
use Rattle.group_to_mal.proofs.CompiledLemmas.{if_ok, plan_for, is_checked, is_fitting, is_meant, is_runnable}
use Rattle.group_to_mal.proofs.compile.compile_query.Goals as goal

pub returns-clause-checked : goal.returns-clause-checked
returns-clause-checked c =
    if_ok (λ plan. plan_for c.args.typed.now.stmt c.args.typed.now.sources ≡ Some plan) (λ plan. (db : Db) → HoldsTables (stmt_tree c.args.typed.now.stmt) c.args.typed.now.sources db → plan_fault plan ≡ None) c.compile_select.result
    (λ plan e db held. is_checked c.plans_mean_answers.ensures c.query_plans_run.ensures (stmt_tree c.args.typed.now.stmt) c.args.typed.now.sources c.args.typed.now.formed c.args.typed.now.accepted plan e db held) c.compile_select.ensures

pub returns-clause-fits : goal.returns-clause-fits
returns-clause-fits c =
    if_ok (λ plan. plan_for c.args.typed.now.stmt c.args.typed.now.sources ≡ Some plan) (λ plan. (db : Db) → HoldsTables (stmt_tree c.args.typed.now.stmt) c.args.typed.now.sources db → FitsDb plan db) c.compile_select.result
    (λ plan e db held. is_fitting c.plans_mean_answers.ensures c.query_plans_run.ensures (stmt_tree c.args.typed.now.stmt) c.args.typed.now.sources c.args.typed.now.formed c.args.typed.now.accepted plan e db held) c.compile_select.ensures

pub returns-clause-meaning : goal.returns-clause-meaning
returns-clause-meaning c =
    if_ok (λ plan. plan_for c.args.typed.now.stmt c.args.typed.now.sources ≡ Some plan) (λ plan. (db : Db) → HoldsTables (stmt_tree c.args.typed.now.stmt) c.args.typed.now.sources db → plan_rows plan db ≡ answer_of_stmt (stmt_tree c.args.typed.now.stmt) db) c.compile_select.result
    (λ plan e db held. is_meant c.plans_mean_answers.ensures c.query_plans_run.ensures (stmt_tree c.args.typed.now.stmt) c.args.typed.now.sources c.args.typed.now.formed c.args.typed.now.accepted plan e db held) c.compile_select.ensures

pub returns-clause-runs : goal.returns-clause-runs
returns-clause-runs c =
    if_ok (λ plan. plan_for c.args.typed.now.stmt c.args.typed.now.sources ≡ Some plan) (λ plan. (db : Db) → HoldsTables (stmt_tree c.args.typed.now.stmt) c.args.typed.now.sources db → Runs plan db) c.compile_select.result
    (λ plan e db held. is_runnable c.plans_mean_answers.ensures c.query_plans_run.ensures (stmt_tree c.args.typed.now.stmt) c.args.typed.now.sources c.args.typed.now.formed c.args.typed.now.accepted plan e db held c.checked_plans_run.ensures) c.compile_select.ensures
