use Rattle.std.proofs.Common.{◌≡◌, length, map}
use Rattle.table_columns.specs.Rows.{KeptTable}
use Rattle.table_store.specs.Content.{version_in}
use Rattle.table_store.specs.Kept.{tables_from}
use Rattle.table_store.proofs.tables.version_among.Given as goal

-- the rest decides as all do
abbrev pub invariant-tables : goal.invariant-tables
invariant-tables l =
    version_in l.table l.column (tables_from l.names l.rest) (map (λ (k : KeptTable). k.versions) l.rest) ≡ version_in l.table l.column (tables_from l.headings l.kept) (map (λ (k : KeptTable). k.versions) l.kept)

abbrev pub decreases-tables : goal.decreases-tables
decreases-tables l = length l.names
