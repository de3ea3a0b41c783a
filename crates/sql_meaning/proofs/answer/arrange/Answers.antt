use Rattle.std.proofs.Common.{map, ◌∙◌}
use Rattle.sql_tree.specs.Tree.{item_tree, query_tree}
use Rattle.sql_meaning.proofs.AnswerLemmas.{arranged_done}
use Rattle.sql_meaning.proofs.answer.arrange.Goals as goal

pub returns : goal.returns
returns c =
    c.from_vec.ensures
    ∙ arranged_done c.args.sources.now (query_tree c.args.query.now) (map item_tree c.args.items.now) c.args.rows.items _ _ _ _ _ _
    c.requires c.as_slice.ensures c.in_ok-keys.ensures c.deref.ensures.value c.in_ok-rows.ensures c.in_ok-sort_rows_by.ensures.ok c.cut-first.ensures
