use Rattle.std.proofs.Common.{◌∙◌}
use Rattle.sql_check.proofs.ChangeLemmas.{columns_first}
use Rattle.sql_check.proofs.changes.columns_refusal.Goals as goal

pub returns : goal.returns
returns c =
    c.either-refusal.ensures
    ∙ columns_first c.args.columns.now _ _ _ _ _ c.in_ok-names.ensures c.as_slice.ensures c.in_ok-twice.ensures c.are_defaults_misfit.ensures c.kinds_differ-kinds.ensures
