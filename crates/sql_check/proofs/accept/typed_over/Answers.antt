use Rattle.sql_tree.specs.Tree.{stmt_tree}
use Rattle.sql_check.proofs.SourceLemmas.{accepted_over}
use Rattle.sql_check.proofs.accept.typed_over.Goals as goal

pub new-requires-clause-accepted : goal.new-requires-clause-accepted
new-requires-clause-accepted c =
    accepted_over (stmt_tree c.args.stmt.now) _ c.args.schema.now _ c.in_ok-copy.ensures c.in_ok-sources.ensures c.requires.accepted
