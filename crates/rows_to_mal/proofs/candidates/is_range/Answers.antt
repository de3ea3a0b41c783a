use Rattle.std.proofs.Common.{arith}
use Rattle.sql_tree.specs.Tree.{expr_tree}
use Rattle.rows_to_mal.proofs.LentLemmas.{compare_ranged}
use Rattle.rows_to_mal.proofs.candidates.is_range.Goals as goal

pub returns-in-Eq : goal.returns-in-Eq
returns-in-Eq c =
    let same = compare_ranged c.in-Cmp.op (expr_tree c.in-Cmp.left) (expr_tree c.in-Cmp.right) c.in-Eq.is in
    grind (arith, same, c.in-Cmp.is)
