use Rattle.std.proofs.Common.{◌≡◌, take}
use Rattle.cell_core.specs.Tables.{names_in}
use Rattle.table_store.proofs.tables.names_of.Given as goal

-- the names so far
abbrev pub invariant-columns : goal.invariant-columns
invariant-columns l = l.names.items ≡ names_in (take l.column-index l.columns)
