use Rattle.std.proofs.Common.{◌++◌, [], ◌∷◌, ap, sym, ◌∙◌}
use Rattle.table_store.specs.declared.heading.Heading.{Heading}
use Rattle.table_store.specs.Content.{Content}
use Rattle.table_store.proofs.ReplacedLemmas.{column_comes, column_version_stays, no_column_comes}
use Rattle.table_store.proofs.tables.StoredTables.with_column.Goals as goal

pub returns-in_default-clause-db : goal.returns-in_default-clause-db
returns-in_default-clause-db c =
    no_column_comes c.args.name.now c.args.self.now.db (sym c.place.ensures.place ∙ c.in_default.is) c.args.column c.in_ok-same.same.db
    (ap (λ (x : Content). x.db) c.in_ok-same.ensures)

pub returns-clause-db : goal.returns-clause-db
returns-clause-db c =
    column_comes c.args.self.now c.in-Some.place c.args.column c.in_ok-heading.heading c.kept.result.now c.in_ok-kept.kept
    (c.in_ok-heading.ensures ∙ ap (λ (h : Heading). record h { columns = h.columns ++ c.args.column ∷ [] }) c.heading.ensures)
    c.kept.ensures.kept c.kept.ensures.beside c.in_ok-kept.ensures
    c.args.name.now c.requires (sym c.place.ensures.place ∙ c.in-Some.is) c.in_ok-tables.tables.db c.in_ok-tables.ensures.tables

pub returns-clause-others : goal.returns-clause-others
returns-clause-others c =
    column_version_stays c.args.self.now c.in-Some.place c.args.column c.in_ok-heading.heading c.kept.result.now c.in_ok-kept.kept
    (c.in_ok-heading.ensures ∙ ap (λ (h : Heading). record h { columns = h.columns ++ c.args.column ∷ [] }) c.heading.ensures)
    c.kept.ensures.kept c.kept.ensures.beside c.in_ok-kept.ensures
    c.in_ok-tables.tables c.in_ok-tables.ensures.tables c.in_ok-tables.ensures.versions
