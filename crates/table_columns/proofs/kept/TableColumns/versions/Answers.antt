use Rattle.std.proofs.Common.{subst}
use Rattle.table_columns.specs.Rows.{AreWide, KeptTable}
use Rattle.table_columns.proofs.RowLemmas.{wide_rows}
use Rattle.table_columns.proofs.kept.TableColumns.versions.Goals as goal

pub returns-clause-wide : goal.returns-clause-wide
returns-clause-wide c =
    subst (λ (k : KeptTable). AreWide k.width k.rows) c.self.view_is (wide_rows c.self.inside.count c.self.inside.columns.items)
