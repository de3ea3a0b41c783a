use Rattle.std.proofs.Common.{ℕ, List, drop, map, ap, ◌∙◌}
use Rattle.std.proofs.lemmas.Result.{IfOk-weaker}
use Rattle.sql_tree.specs.declared.tree.Expr.{Expr}
use Rattle.sql_tree.specs.Tree.{set_tree}
use Rattle.change_plans.specs.Decisions.{own_columns, decided_update, place_of}
use Rattle.change_plans.proofs.MeantLemmas.{update_decided}
use Rattle.change_plans.proofs.writes.decide_from.Goals as goal

pub returns-in-Update : goal.returns-in-Update
returns-in-Update c = IfOk-weaker c.decide_update.result _ _
    (λ decided e. update_decided c.args.typed.now.stmt c.in-Update.table c.in-Update.sets c.in-Update.cond c.args.typed.now.sources c.own_columns-columns.result.now c.args.rows.now decided
    c.in-Update.is (c.own_columns-columns.ensures ∙ ap own_columns c.as_slice.ensures)
    (e ∙ ap (λ (sets : List (List ℕ × Expr)). decided_update c.own_columns-columns.result.now (map (λ set. set.0) (map set_tree sets)) (map place_of c.args.rows.now) (map (drop 1) c.args.rows.now)) c.as_slice-in-Update.ensures))
    c.decide_update.ensures
