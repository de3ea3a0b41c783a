use Rattle.sql_tree.specs.Tree.{stmt_tree}
use Rattle.sql_changes.proofs.CarryLemmas.{refused_leaves}
use Rattle.sql_changes.proofs.effect.change.Goals as goal

pub returns-clause-refused : goal.returns-clause-refused
returns-clause-refused c = λ refusal e. refused_leaves (stmt_tree c.args.stmt.now) c.args.db.now c.accept.new.db c.accept.result refusal c.accept.ensures.done e
