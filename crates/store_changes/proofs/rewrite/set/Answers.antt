use Rattle.std.proofs.Common.{Bool, List, ℕ, None, length, map, refl, ap, ◌∙◌}
use Rattle.cell_core.specs.declared.cell.Cell.{Cell}
use Rattle.cell_core.specs.Tables.{row_count}
use Rattle.table_columns.specs.Changed.{NewCells}
use Rattle.table_store.specs.Changes.{with_rows}
use Rattle.store_changes.specs.Rewrites.{flags_from}
use Rattle.store_changes.proofs.FlagLemmas.{flags_long, sets_is, sets_named}
use Rattle.store_changes.proofs.rewrite.set.Goals as goal

pub set_cells-requires-clause-flags : goal.set_cells-requires-clause-flags
set_cells-requires-clause-flags c =
    ap (λ (flags : List Bool). length flags) (c.deref.ensures.value ∙ c.in_ok-flags.ensures) ∙ flags_long 0 c.row_count.result c.args.places.now ∙ c.row_count.ensures

pub returns : goal.returns
returns c = record {
  prepared = c.in_ok-change.ensures.prepared;
  db = c.in_ok-change.ensures.db
      ∙ ap (λ (rows : List (List Cell)). with_rows c.args.table.now rows c.args.store.now.db)
      (sets_is c.args.table.now c.args.names.now c.args.places.now c.args.cells.now c.args.store.now.db c.deref.result.now c.deref-2.result.now
      (c.deref.ensures.value ∙ c.in_ok-flags.ensures ∙ ap (flags_from 0 c.args.places.now) c.row_count.ensures) (c.deref-2.ensures.value ∙ c.in_ok-sets.ensures) c.requires.placed);
  rows = refl;
  touched = c.in_ok-change.ensures.touched
      ∙ ap (λ (names : List (List ℕ)). record { table = c.args.table.now; columns = names; old_rows = row_count c.args.table.now c.args.store.now.db; added = None })
      (ap (λ (sets : List NewCells). map (λ (set : NewCells). set.0) sets) (c.deref-2.ensures.value ∙ c.in_ok-sets.ensures) ∙ sets_named 0 c.args.names.now c.args.cells.now);
}
