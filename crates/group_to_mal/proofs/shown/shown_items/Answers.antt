use Rattle.std.proofs.Common.{◌≡◌, IfOk, subst, sym, ap, ◌∙◌}
use Rattle.std.specs.Option.{option_copied, option_map}
use Rattle.sql_tree.specs.Tree.{cond_tree, query_tree}
use Rattle.mal_emit.specs.Emitters.{Emitter}
use Rattle.mal_emit.specs.Phrases.{variables}
use Rattle.sql_definitions.specs.Exprs.{exprs_of}
use Rattle.group_to_mal.specs.QueryPlan.{ShownColumns}
use Rattle.group_to_mal.proofs.ShownItems.{groups_shown, not_none}
use Rattle.group_to_mal.proofs.shown.shown_items.Goals as goal

-- the items for each group are what is shown
pub returns-else-len-eq0 : goal.returns-else-len-eq0
returns-else-len-eq0 c = record {
  emitted = subst (λ (e : Emitter ShownColumns). IfOk c.shown_groups.result (λ shown. (c.shown_groups.new.instrs, (shown.columns.items, shown.test)) ≡ e.run c.args.instrs.now))
      (groups_shown c.args.tables.now (query_tree c.args.query.now) (variables c.args.rows.now) c.as_slice-groups.result.now (option_map cond_tree (option_copied c.as_ref-having.result)) (exprs_of c.args.items.now)
      (sym c.is_grouped.ensures ∙ c.if-not-is_grouped.false) (not_none c.len.result _ c.len.ensures c.if-len-eq0.false) c.as_slice-groups.ensures (ap (option_map cond_tree) c.as_ref-having.ensures.value) c.requires.items)
      c.shown_groups.ensures;
}
