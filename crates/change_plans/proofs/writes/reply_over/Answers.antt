use Rattle.std.proofs.Common.{◌∙◌}
use Rattle.std.proofs.lemmas.Result.{IfOk-weaker}
use Rattle.sql_tree.specs.Tree.{stmt_tree}
use Rattle.change_plans.proofs.MeantLemmas.{replied_alone}
use Rattle.change_plans.proofs.writes.reply_over.Goals as goal

pub returns : goal.returns
returns c = IfOk-weaker c.change.result _ _
    (λ reply e. replied_alone (stmt_tree c.args.stmt.now) c.args.table (record { tables = c.from_vec.result }) c.change.new.db reply c.requires.write c.requires.name
    (c.from_vec.ensures ∙ c.in_ok-vec.ensures.items) e)
    c.change.ensures.done
