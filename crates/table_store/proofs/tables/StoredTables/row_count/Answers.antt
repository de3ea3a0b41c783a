use Rattle.std.proofs.Common.{length, ap, sym, ◌∙◌}
use Rattle.table_columns.specs.Rows.{KeptTable}
use Rattle.table_store.proofs.ReplacedLemmas.{count_none, count_there}
use Rattle.table_store.proofs.tables.StoredTables.row_count.Goals as goal

pub returns-in-Some : goal.returns-in-Some
returns-in-Some c =
    c.count.ensures ∙ ap (λ (k : KeptTable). length k.rows) c.kept.ensures.kept
    ∙ sym (count_there c.args.name.now c.args.self.now.db c.in-Some.place (sym c.place.ensures.place ∙ c.in-Some.is))

pub returns-in-None : goal.returns-in-None
returns-in-None c = sym (count_none c.args.name.now c.args.self.now.db (sym c.place.ensures.place ∙ c.in-None.is))
