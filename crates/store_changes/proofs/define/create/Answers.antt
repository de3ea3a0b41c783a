use Rattle.std.proofs.Common.{None, refl, sym, ◌∙◌}
use Rattle.cell_core.specs.Tables.{names_in}
use Rattle.table_store.specs.Changes.{with_table}
use Rattle.store_changes.proofs.DefineLemmas.{create_comes}
use Rattle.store_changes.proofs.define.create.Goals as goal

pub returns : goal.returns
returns c =
    create_comes c.args.store.now c.args.table.now c.args.columns.now c.requires _ (sym c.has_long_default.ensures ∙ c.if-has_long_default.false)
    c.in_ok-change.ensures.prepared
    (c.in_ok-change.ensures.db ∙ (λ i. with_table (c.in_ok-share.ensures i) (c.in_ok-copy_columns.ensures i) c.args.store.now.db)) refl
    (c.in_ok-change.ensures.touched ∙ (λ i. record { table = c.in_ok-share.ensures i; columns = names_in (c.in_ok-copy_columns.ensures i); old_rows = 0; added = None }))
