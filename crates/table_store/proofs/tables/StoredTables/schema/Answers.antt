use Rattle.std.proofs.Common.{ap, sym, ◌∙◌}
use Rattle.table_store.specs.Content.{Content}
use Rattle.table_store.specs.Headings.{headings_of}
use Rattle.table_store.proofs.TableLemmas.{schema_again}
use Rattle.table_store.proofs.tables.StoredTables.schema.Goals as goal

pub returns : goal.returns
returns c =
    c.deref.ensures.value ∙ sym (schema_again c.self.inside.headings.items c.self.inside.kept.items c.self.invariant)
    ∙ ap (λ (x : Content). headings_of x.db) c.self.view_is
