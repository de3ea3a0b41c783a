use Rattle.std.proofs.Common.{map, sym, ◌∙◌}
use Rattle.std.specs.Option.{option_map}
use Rattle.sql_tree.specs.Tree.{cond_tree, set_tree}
use Rattle.sql_changes.proofs.PlanLemmas.{updated_is}
use Rattle.sql_changes.proofs.update.update_plan.Goals as goal

pub returns : goal.returns
returns c =
    updated_is (map set_tree c.args.sets.now) (option_map cond_tree c.args.cond.now) c.args.table.now _ _
    (c.deref.ensures.value ∙ c.in_ok-rows.ensures) (sym c.in-None.is ∙ c.in_ok-refusal.ensures) c.in_ok-fates-in-None.ensures
