use Rattle.std.proofs.Common.{◌≡◌, List, length, Some, ap, sym, ◌∙◌}
use Rattle.cell_core.specs.declared.table.Column.{Column}
use Rattle.table_columns.specs.Rows.{KeptTable}
use Rattle.table_columns.specs.Changed.{set_rows}
use Rattle.table_store.specs.declared.heading.Heading.{Heading}
use Rattle.table_store.specs.Content.{Content}
use Rattle.table_store.specs.Kept.{table_place}
use Rattle.table_store.specs.Changes.{columns_of, rows_of}
use Rattle.table_store.proofs.ReplacedLemmas.{columns_there, count_there, no_rows_change, other_rows, rows_there, versions_stay}
use Rattle.table_store.proofs.tables.StoredTables.with_cells.Goals as goal

pub returns-in_default-clause-db : goal.returns-in_default-clause-db
returns-in_default-clause-db c =
    no_rows_change c.args.name.now c.args.self.now.db (sym c.place.ensures.place ∙ c.in_default.is)
    (set_rows c.args.sets.now (columns_of c.args.name.now c.args.self.now.db) 0 c.args.hits.now (rows_of c.args.name.now c.args.self.now.db)) c.in_ok-same.same.db
    (ap (λ (x : Content). x.db) c.in_ok-same.ensures)

pub with_cells-requires-clause-hits : goal.with_cells-requires-clause-hits
with_cells-requires-clause-hits c =
    let at : table_place c.args.name.now c.args.self.now.db.tables ≡ Some c.in-Some.place = sym c.place.ensures.place ∙ c.in-Some.is in
    c.requires.flags ∙ count_there c.args.name.now c.args.self.now.db c.in-Some.place at ∙ sym (ap (λ (k : KeptTable). length k.rows) c.kept.ensures.kept)

pub returns-clause-db : goal.returns-clause-db
returns-clause-db c =
    let at : table_place c.args.name.now c.args.self.now.db.tables ≡ Some c.in-Some.place = sym c.place.ensures.place ∙ c.in-Some.is in
    other_rows c.args.name.now c.args.self.now.db c.in-Some.place at c.requires.differ c.in_ok-tables.tables.db c.in_ok-kept.kept.rows _ c.in_ok-tables.ensures.tables
    (ap (λ (k : KeptTable). k.rows) c.in_ok-kept.ensures
    ∙ ap (λ (columns : List Column). set_rows c.args.sets.now columns 0 c.args.hits.now c.kept.result.now.rows)
    (c.as_slice-columns.ensures ∙ ap (λ (h : Heading). h.columns) c.heading.ensures ∙ sym (columns_there c.args.name.now c.args.self.now.db c.in-Some.place at))
    ∙ ap (set_rows c.args.sets.now (columns_of c.args.name.now c.args.self.now.db) 0 c.args.hits.now)
    (ap (λ (k : KeptTable). k.rows) c.kept.ensures.kept ∙ sym (rows_there c.args.name.now c.args.self.now.db c.in-Some.place at)))

pub returns-clause-others : goal.returns-clause-others
returns-clause-others c =
    versions_stay c.args.self.now c.in_ok-tables.tables c.in-Some.place c.in_ok-kept.kept.rows c.in_ok-tables.ensures.tables c.in_ok-tables.ensures.versions
