use Rattle.std.proofs.Common.{◌≡◌, length, ap}
use Rattle.table_columns.specs.Rows.{KeptTable, rows_beside}
use Rattle.table_columns.proofs.RowLemmas.{length_rows}
use Rattle.table_columns.proofs.kept.TableColumns.count.Goals as goal

pub returns : goal.returns
returns c =
    let long : length (rows_beside c.self.inside.count c.self.inside.columns.items) ≡ c.self.inside.count = length_rows c.self.inside.count c.self.inside.columns.items c.self.invariant.even in
    cc (ap (λ (k : KeptTable). length k.rows) c.self.view_is)
