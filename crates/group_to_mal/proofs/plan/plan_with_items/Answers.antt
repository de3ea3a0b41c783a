use Rattle.std.proofs.Common.{map, ap, ◌∙◌}
use Rattle.sql_tree.specs.Tree.{item_tree, query_tree}
use Rattle.mal_emit.specs.Phrases.{variables}
use Rattle.group_to_mal.specs.QueryPlan.{shown_items}
use Rattle.group_to_mal.proofs.PlanIs.{plan_is, places_are}
use Rattle.group_to_mal.proofs.plan.plan_with_items.Goals as goal

pub returns : goal.returns
returns c =
    plan_is c.args.tables.now (query_tree c.args.query.now) c.shown_items.new.instrs c.from_vec.result c.in_ok-shown.shown.test c.from_vec-2.result
    ((shown_items c.args.tables.now (query_tree c.args.query.now) (variables c.args.rows.now)).run c.args.instrs)
    (ap (λ cols. (c.shown_items.new.instrs, (cols, c.in_ok-shown.shown.test))) c.from_vec.ensures ∙ c.in_ok-shown.ensures.emitted)
    (c.from_vec-2.ensures ∙ c.in_ok-order.ensures ∙ places_are c.args.tables.now (query_tree c.args.query.now) c.args.called.now (map item_tree c.args.items.now) c.as_slice.result.now c.requires.called c.requires.items c.as_slice.ensures)
