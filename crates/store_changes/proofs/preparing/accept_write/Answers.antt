use Rattle.std.proofs.Common.{ap, ◌∙◌}
use Rattle.sql_tree.specs.Tree.{stmt_tree}
use Rattle.run_log.specs.Fold.{change_load}
use Rattle.store_changes.proofs.WriteLemmas.{counts_as}
use Rattle.store_changes.proofs.preparing.accept_write.Goals as goal

pub returns-clause-work : goal.returns-clause-work
returns-clause-work g c = c.in_ok-outcome.ensures.work ∙ ap (λ t. change_load t c.args.store.now.db) c.in_ok-typed.ensures.statement

pub returns-clause-counted : goal.returns-clause-counted
returns-clause-counted g c =
    counts_as (stmt_tree c.args.stmt.now) (stmt_tree c.in_ok-typed.typed.stmt) c.args.store.now.db c.args.steps.now c.rewrite.new.steps c.in_ok-outcome.outcome.work c.in_ok-typed.ensures.statement c.in_ok-outcome.ensures.counted
