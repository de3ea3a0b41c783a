use Rattle.std.proofs.Common.{Bool, List, length, refl, ap, ◌∙◌}
use Rattle.cell_core.specs.declared.cell.Cell.{Cell}
use Rattle.table_store.specs.Changes.{with_rows}
use Rattle.store_changes.specs.Rewrites.{flags_from}
use Rattle.store_changes.proofs.FlagLemmas.{flags_long, removes_is}
use Rattle.store_changes.proofs.rewrite.remove.Goals as goal

pub drop_flagged_rows-requires-clause-flags : goal.drop_flagged_rows-requires-clause-flags
drop_flagged_rows-requires-clause-flags c =
    ap (λ (flags : List Bool). length flags) (c.deref.ensures.value ∙ c.in_ok-flags.ensures) ∙ flags_long 0 c.row_count.result c.args.places.now ∙ c.row_count.ensures

pub returns : goal.returns
returns c = record {
  prepared = c.in_ok-change.ensures.prepared;
  db = c.in_ok-change.ensures.db
      ∙ ap (λ (rows : List (List Cell)). with_rows c.args.table.now rows c.args.store.now.db)
      (removes_is c.args.table.now c.args.places.now c.args.store.now.db c.deref.result.now (c.deref.ensures.value ∙ c.in_ok-flags.ensures ∙ ap (flags_from 0 c.args.places.now) c.row_count.ensures) c.requires.rise);
  rows = refl;
  touched = c.in_ok-change.ensures.touched;
}
