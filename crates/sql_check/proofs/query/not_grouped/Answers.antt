use Rattle.std.proofs.Common.{◌≡◌, map, sym, ◌∙◌, true, rules}
use Rattle.sql_tree.specs.Tree.{item_tree, query_tree}
use Rattle.sql_check.proofs.QueryLemmas.{not_grouped_some, true_unless}
use Rattle.sql_check.proofs.query.not_grouped.Goals as goal

pub returns : goal.returns
returns c =
    let so : c.is_grouped.result ≡ true = search (rules, true_unless) in
    c.either-refusal.ensures
    ∙ not_grouped_some c.args.sources.now (query_tree c.args.query.now) (map item_tree c.args.items.now) _ _ _
    c.requires (sym c.is_grouped.ensures ∙ so) c.as_slice-groups.ensures c.in_ok-in_items.ensures c.in_ok-in_having.ensures
