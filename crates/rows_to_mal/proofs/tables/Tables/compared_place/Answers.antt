use Rattle.std.proofs.Common.{ℕ, sym, ap, ◌∙◌}
use Rattle.std.specs.Option.{option_map}
use Rattle.sql_tree.specs.Tree.{expr_tree}
use Rattle.rows_to_mal.specs.Candidates.{ColumnCond, Within}
use Rattle.rows_to_mal.specs.Reading.{read_compare}
use Rattle.rows_to_mal.proofs.LentLemmas.{test_ranged, placed_keeps}
use Rattle.rows_to_mal.proofs.tables.Tables.compared_place.Goals as goal

pub returns-in-Eq : goal.returns-in-Eq
returns-in-Eq c =
    let sources = c.args.self.now.called in
    let left = expr_tree c.args.left.now in
    let right = expr_tree c.args.right.now in
    c.only_place-in-Eq.ensures ∙ ap (option_map (λ at. at.0)) c.compared-in-Eq.ensures
    ∙ sym (ap (option_map (λ (at : (ℕ × ℕ) × ColumnCond). at.0)) (test_ranged sources c.args.op left right c.in-Eq.is) ∙ placed_keeps Within (read_compare sources c.args.op left right))
