use Rattle.std.proofs.Common.{◌≡◌, length}
use Rattle.table_store.specs.Content.{column_version}
use Rattle.table_store.proofs.tables.version_at.Given as goal

-- the rest decides as all do
abbrev pub invariant-columns : goal.invariant-columns
invariant-columns l = column_version l.name l.names l.rest ≡ column_version l.name l.columns l.versions

abbrev pub decreases-columns : goal.decreases-columns
decreases-columns l = length l.names
