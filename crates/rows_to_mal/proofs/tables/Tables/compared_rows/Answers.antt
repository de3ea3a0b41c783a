use Rattle.std.proofs.Common.{arith}
use Rattle.sql_tree.specs.Tree.{expr_tree}
use Rattle.rows_to_mal.proofs.LentLemmas.{test_ranged}
use Rattle.rows_to_mal.proofs.tables.Tables.compared_rows.Goals as goal

pub inside-requires : goal.inside-requires
inside-requires c =
    let same = test_ranged c.args.self.now.called c.args.op (expr_tree c.args.left.now) (expr_tree c.args.right.now) c.in-Eq.is in
    grind (arith, same, c.compared-found-in-Eq.ensures, c.requires)

pub returns-in-Eq : goal.returns-in-Eq
returns-in-Eq c =
    let same = test_ranged c.args.self.now.called c.args.op (expr_tree c.args.left.now) (expr_tree c.args.right.now) c.in-Eq.is in
    grind (arith, same, c.compared-found-in-Eq.ensures, c.inside.ensures)
