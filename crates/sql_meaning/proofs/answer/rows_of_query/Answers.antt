use Rattle.std.proofs.Common.{map, sym, ◌∙◌}
use Rattle.sql_tree.specs.Tree.{item_tree, query_tree}
use Rattle.sql_meaning.proofs.AnswerLemmas.{grouped_rows}
use Rattle.sql_meaning.proofs.answer.rows_of_query.Goals as goal

pub returns-in_ok-rows : goal.returns-in_ok-rows
returns-in_ok-rows c =
    grouped_rows c.args.sources.now (query_tree c.args.query.now) (map item_tree c.args.items.now) c.args.choices.items _ _ _
    c.requires (sym c.is_grouped.ensures ∙ c.if-is_grouped.true) c.as_slice.ensures c.in_ok-groups.ensures c.in_ok-rows.ensures
