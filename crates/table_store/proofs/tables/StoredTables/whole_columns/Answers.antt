use Rattle.std.proofs.Common.{List, ap, sym, ◌∙◌}
use Rattle.cell_core.specs.declared.table.Column.{Column}
use Rattle.table_columns.specs.Rows.{KeptTable}
use Rattle.table_store.specs.declared.heading.Heading.{Heading}
use Rattle.table_store.specs.Touches.{columns_beside}
use Rattle.table_store.specs.Kept.{heading_at}
use Rattle.table_store.proofs.ReplacedLemmas.{whole_none, whole_there}
use Rattle.table_store.proofs.tables.StoredTables.whole_columns.Goals as goal

pub returns-in_default : goal.returns-in_default
returns-in_default c = c.new.ensures ∙ sym (whole_none c.args.name.now c.args.self.now.db (sym c.place.ensures.place ∙ c.in_default.is))

pub returns : goal.returns
returns c =
    c.in_ok-named.ensures
    ∙ ap (λ (columns : List Column). columns_beside 0 columns c.kept.result.now.rows) (c.as_slice-columns.ensures ∙ ap (λ (h : Heading). h.columns) c.heading.ensures)
    ∙ ap (λ (k : KeptTable). columns_beside 0 (heading_at c.in-Some.place c.args.self.now.db).columns k.rows) c.kept.ensures.kept
    ∙ sym (whole_there c.args.name.now c.args.self.now.db c.in-Some.place (sym c.place.ensures.place ∙ c.in-Some.is))
