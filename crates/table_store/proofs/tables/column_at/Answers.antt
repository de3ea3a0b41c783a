use Rattle.std.proofs.Common.{◌≡◌, ◌<◌, Some, ap, sym, ◌∙◌, arith, length}
use Rattle.cell_core.specs.Tables.{column_place}
use Rattle.table_store.proofs.TableLemmas.{column_within}
use Rattle.table_store.proofs.tables.column_at.Goals as goal

pub column-requires : goal.column-requires
column-requires c =
    let at : column_place c.args.name.now c.args.heading.now.columns ≡ Some c.in-Some.place =
    ap (column_place c.args.name.now) (sym c.as_slice.ensures) ∙ sym c.find_column.ensures ∙ c.in-Some.is in
    let low : c.in-Some.place < length c.args.heading.now.columns = column_within c.args.name.now c.args.heading.now.columns c.in-Some.place at in
    omega (arith, low, c.requires.width)
