use Rattle.std.proofs.Common.{◌∙◌}
use Rattle.std.proofs.lemmas.Result.{IfOk-weaker}
use Rattle.sql_changes.proofs.AlterLemmas.{alter_first}
use Rattle.sql_changes.proofs.alter.why_not_added.Goals as goal

pub returns : goal.returns
returns c = IfOk-weaker c.refusal_for.result _ _ (λ found e table f g. e ∙ alter_first c.args.column.now c.args.columns c.args.rows table f g) c.refusal_for.ensures
