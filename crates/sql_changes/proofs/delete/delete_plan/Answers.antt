use Rattle.std.proofs.Common.{sym, ◌∙◌}
use Rattle.std.specs.Option.{option_map}
use Rattle.sql_tree.specs.Tree.{cond_tree}
use Rattle.sql_changes.proofs.PlanLemmas.{deleted_is}
use Rattle.sql_changes.proofs.delete.delete_plan.Goals as goal

pub returns : goal.returns
returns c =
    deleted_is (option_map cond_tree c.args.cond.now) c.args.table.now _ (sym c.in_ok-cond_overflows.ensures ∙ c.if-branch.false) c.in_ok-fates.ensures
