use Rattle.sql_tree.specs.Tree.{query_tree}
use Rattle.sql_meaning.proofs.AnswerLemmas.{answer_is}
use Rattle.sql_meaning.proofs.answer.plain_answer.Goals as goal

pub returns : goal.returns
returns c =
    answer_is (query_tree c.args.query.now) c.args.db.now _ _ _ _ c.as_slice.ensures c.in_ok-tables.ensures c.deref.ensures.value c.in_ok-answer.ensures
