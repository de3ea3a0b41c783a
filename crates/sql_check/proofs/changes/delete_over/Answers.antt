use Rattle.std.proofs.Common.{◌∙◌}
use Rattle.std.specs.Option.{option_map}
use Rattle.sql_tree.specs.Tree.{cond_tree}
use Rattle.sql_check.proofs.ChangeLemmas.{delete_first}
use Rattle.sql_check.proofs.changes.delete_over.Goals as goal

pub returns : goal.returns
returns c =
    c.either-refusal.ensures
    ∙ delete_first c.args.sources.now (option_map cond_tree c.args.cond.now) _ _ _ c.in_ok-references.ensures c.is_cond_misfit.ensures c.kinds_differ-kinds.ensures
