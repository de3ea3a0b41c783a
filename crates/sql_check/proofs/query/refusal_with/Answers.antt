use Rattle.std.proofs.Common.{map, ◌∙◌, ap, Option}
use Rattle.std.specs.Option.{option_or}
use Rattle.sql_tree.specs.Tree.{item_tree, query_tree}
use Rattle.sql_definitions.specs.declared.refusal.Refusal.{Refusal}
use Rattle.sql_check.proofs.QueryLemmas.{column_first}
use Rattle.sql_check.proofs.query.refusal_with.Goals as goal

pub returns : goal.returns
returns c =
    c.either-refusal.ensures
    ∙ ap (λ (x : Option Refusal). option_or x c.kinds_differ-kinds.result)
    (c.either-columns.ensures
    ∙ ap (λ (x : Option Refusal). option_or x c.in_ok-ungrouped.ungrouped)
    (c.either-references.ensures
    ∙ ap (λ (x : Option Refusal). option_or x c.in_ok-in_keys.in_keys)
    (c.either-having.ensures
    ∙ ap (λ (x : Option Refusal). option_or x c.in_ok-in_having.in_having)
    (c.either-grouped.ensures ∙ ap (λ (x : Option Refusal). option_or x c.in_ok-in_groups.in_groups) c.either-shown.ensures))))
    ∙ column_first c.args.sources.now (query_tree c.args.query.now) (map item_tree c.args.items.now) _ _ _ _ _ _ _ _ _ _
    c.requires c.as_slice.ensures c.as_slice-2.ensures c.in_ok-in_items.ensures c.in_ok-in_cond.ensures c.in_ok-in_groups.ensures c.in_ok-in_having.ensures
    c.in_ok-in_keys.ensures c.in_ok-ungrouped.ensures c.is_misfit_query.ensures c.kinds_differ-kinds.ensures
