use Rattle.std.proofs.Common.{◌≡◌, [], ◌∙◌, subst, IfOk}
use Rattle.cell_core.specs.Pairs.{Pairs}
use Rattle.table_columns.proofs.RowLemmas.{any_default}
use Rattle.table_columns.proofs.parts.share_at.Goals as goal

pub returns : goal.returns
returns c =
    subst (λ (b : Pairs). IfOk c.share.result (λ column. column ≡ b))
    (c.index-columns-place.is ∙ any_default c.args.columns.now c.args.place c.index-columns-place.result [] c.requires) c.share.ensures
