use Rattle.std.proofs.Common.{◌≡◌, ◌<◌, List, [], length, ap, ◌∙◌, subst, arith, IfOk}
use Rattle.std.specs.Prelude.{slice_index_or}
use Rattle.cell_core.specs.Pairs.{Pairs, numbered}
use Rattle.cell_core.specs.Relations.{column_cells}
use Rattle.table_columns.specs.Rows.{KeptTable}
use Rattle.table_columns.proofs.RowLemmas.{column_kept}
use Rattle.table_columns.proofs.kept.TableColumns.column.Goals as goal

pub returns : goal.returns
returns c =
    let within : c.args.place < length c.self.inside.columns.items = omega (arith, ap (λ (k : KeptTable). k.width) c.self.view_is, c.requires) in
    subst (λ (b : Pairs). IfOk c.share_at.result (λ column. column ≡ b))
    (ap (λ (cs : List Pairs). slice_index_or cs c.args.place []) c.deref.ensures.value
    ∙ column_kept c.self.inside.count c.self.inside.columns.items c.args.place c.self.invariant.even within
    ∙ ap (λ (k : KeptTable). numbered (column_cells c.args.place k.rows)) c.self.view_is)
    c.share_at.ensures
