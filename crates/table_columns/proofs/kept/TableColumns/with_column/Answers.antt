use Rattle.std.proofs.Common.{◌+◌, ◌++◌, List, [], ◌∷◌, map, replicate, ap, ◌∙◌}
use Rattle.cell_core.specs.declared.cell.Cell.{Cell}
use Rattle.cell_core.specs.Pairs.{Pairs, numbered}
use Rattle.table_columns.specs.Rows.{KeptTable}
use Rattle.table_columns.proofs.GrownLemmas.{longer_are, longer_kept}
use Rattle.table_columns.proofs.kept.TableColumns.with_column.Goals as goal

pub invariant_of-result : goal.invariant_of-result
invariant_of-result c =
    longer_are c.args.cell.now c.self.inside.count c.self.inside.columns.items c.self.inside.versions.items c.self.invariant _ _
    (c.in_ok-columns_and.ensures ∙ ap (λ (x : List Pairs). x ++ numbered (replicate c.self.inside.count c.args.cell.now) ∷ []) c.deref.ensures.value)
    (c.in_ok-versions_and_zero.ensures ∙ ap (λ vs. vs ++ 0 ∷ []) c.deref-2.ensures.value)

pub returns : goal.returns
returns c =
    longer_kept c.args.cell.now c.self.inside.count c.self.inside.columns.items c.self.inside.versions.items c.self.invariant _ _
    (c.in_ok-columns_and.ensures ∙ ap (λ (x : List Pairs). x ++ numbered (replicate c.self.inside.count c.args.cell.now) ∷ []) c.deref.ensures.value)
    (c.in_ok-versions_and_zero.ensures ∙ ap (λ vs. vs ++ 0 ∷ []) c.deref-2.ensures.value)
    ∙ ap (λ (k : KeptTable). record { width = k.width + 1; rows = map (λ (row : List Cell). row ++ c.args.cell.now ∷ []) k.rows; versions = k.versions ++ 0 ∷ [] }) c.self.view_is
