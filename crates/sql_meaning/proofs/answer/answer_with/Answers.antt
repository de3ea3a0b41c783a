use Rattle.std.proofs.Common.{map, sym, ◌∙◌}
use Rattle.sql_tree.specs.Tree.{item_tree, query_tree}
use Rattle.sql_meaning.proofs.AnswerLemmas.{shown_none, shown_some}
use Rattle.sql_meaning.proofs.answer.answer_with.Goals as goal

pub returns-then-branch-2 : goal.returns-then-branch-2
returns-then-branch-2 c =
    shown_none c.args.tables.now c.args.sources.now (query_tree c.args.query.now) (map item_tree c.args.items.now) _ _
    c.requires.sources c.requires.items c.in_ok-choices.ensures c.deref.ensures.value
    (sym c.if-branch-2.true ∙ c.in_ok-shown_overflow.ensures)

pub returns : goal.returns
returns c =
    shown_some c.args.tables.now c.args.sources.now (query_tree c.args.query.now) (map item_tree c.args.items.now) _ _ _ _
    c.requires.sources c.requires.items c.in_ok-choices.ensures c.deref.ensures.value
    (sym c.if-branch.false ∙ c.in_ok-constants_overflow.ensures) (sym c.if-branch-2.false ∙ c.in_ok-shown_overflow.ensures)
    c.in_ok-rows.ensures c.in_ok-answer.ensures
