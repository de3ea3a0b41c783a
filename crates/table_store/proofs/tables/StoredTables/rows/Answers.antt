use Rattle.std.proofs.Common.{ap, sym, ◌∙◌}
use Rattle.std.proofs.lemmas.Result.{IfOk-weaker}
use Rattle.table_columns.specs.Rows.{KeptTable}
use Rattle.table_store.proofs.ReplacedLemmas.{rows_none, rows_there}
use Rattle.table_store.proofs.tables.StoredTables.rows.Goals as goal

pub returns-in-Some : goal.returns-in-Some
returns-in-Some c = IfOk-weaker c.rows.result _ _
    (λ rows e. e ∙ ap (λ (k : KeptTable). k.rows) c.kept.ensures.kept ∙ sym (rows_there c.args.name.now c.args.self.now.db c.in-Some.place (sym c.place.ensures.place ∙ c.in-Some.is)))
    c.rows.ensures

pub returns-in-None : goal.returns-in-None
returns-in-None c = c.new.ensures ∙ sym (rows_none c.args.name.now c.args.self.now.db (sym c.place.ensures.place ∙ c.in-None.is))
