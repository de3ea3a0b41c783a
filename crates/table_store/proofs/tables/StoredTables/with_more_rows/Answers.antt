use Rattle.std.proofs.Common.{◌≡◌, ◌++◌, List, length, Some, Option, ap, sym, subst, ◌∙◌, IfSome}
use Rattle.cell_core.specs.declared.cell.Cell.{Cell}
use Rattle.cell_core.specs.declared.table.Table.{Table}
use Rattle.table_columns.specs.Rows.{AreWide, KeptTable}
use Rattle.table_store.specs.Content.{Content}
use Rattle.table_store.specs.Kept.{table_place}
use Rattle.table_store.specs.Changes.{rows_of}
use Rattle.table_store.proofs.ReplacedLemmas.{no_rows_change, other_rows, rows_there, there, versions_stay}
use Rattle.table_store.proofs.tables.StoredTables.with_more_rows.Goals as goal

pub returns-in_default-clause-db : goal.returns-in_default-clause-db
returns-in_default-clause-db c =
    no_rows_change c.args.name.now c.args.self.now.db (sym c.place.ensures.place ∙ c.in_default.is) (rows_of c.args.name.now c.args.self.now.db ++ c.args.rows.now) c.in_ok-same.same.db
    (ap (λ (x : Content). x.db) c.in_ok-same.ensures)

pub followed_by-requires : goal.followed_by-requires
followed_by-requires c =
    let at : table_place c.args.name.now c.args.self.now.db.tables ≡ Some c.in-Some.place = sym c.place.ensures.place ∙ c.in-Some.is in
    subst (λ (k : KeptTable). AreWide k.width c.args.rows.now) (sym c.kept.ensures.kept)
    (subst (λ (found : Option Table). IfSome found (λ (t : Table). AreWide (length t.columns) c.args.rows.now)) (there c.args.name.now c.args.self.now.db c.in-Some.place at) c.requires.wide)

pub returns-clause-db : goal.returns-clause-db
returns-clause-db c =
    let at : table_place c.args.name.now c.args.self.now.db.tables ≡ Some c.in-Some.place = sym c.place.ensures.place ∙ c.in-Some.is in
    other_rows c.args.name.now c.args.self.now.db c.in-Some.place at c.requires.differ c.in_ok-tables.tables.db c.in_ok-kept.kept.rows _ c.in_ok-tables.ensures.tables
    (ap (λ (k : KeptTable). k.rows) c.in_ok-kept.ensures
    ∙ ap (λ (k : KeptTable). k.rows ++ c.args.rows.now) c.kept.ensures.kept
    ∙ ap (λ (rows : List (List Cell)). rows ++ c.args.rows.now) (sym (rows_there c.args.name.now c.args.self.now.db c.in-Some.place at)))

pub returns-clause-others : goal.returns-clause-others
returns-clause-others c =
    versions_stay c.args.self.now c.in_ok-tables.tables c.in-Some.place c.in_ok-kept.kept.rows c.in_ok-tables.ensures.tables c.in_ok-tables.ensures.versions
