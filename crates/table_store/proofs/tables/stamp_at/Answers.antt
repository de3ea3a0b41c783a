use Rattle.std.proofs.Common.{List, ap, ◌∙◌, arith, length}
use Rattle.cell_core.specs.declared.table.Column.{Column}
use Rattle.table_store.proofs.TableLemmas.{kept_long, width_of}
use Rattle.table_store.proofs.tables.stamp_at.Goals as goal

pub bounds-kept-place : goal.bounds-kept-place
bounds-kept-place c = omega (arith, kept_long c.args.headings.now c.args.kept.now c.requires.are, c.requires.within)

pub stamp-requires : goal.stamp-requires
stamp-requires c =
    ap (λ (columns : List Column). length columns) c.as_slice.ensures
    ∙ width_of c.args.headings.now c.args.kept.now c.args.place c.index-headings-place.result c.index-kept-place.result c.requires.are c.requires.within
