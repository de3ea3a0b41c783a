use Rattle.std.proofs.Common.{◌≡◌, take}
use Rattle.table_store.proofs.tables.share_all.Given as goal

-- what is copied so far
abbrev pub invariant-tables : goal.invariant-tables
invariant-tables l = l.copy.items ≡ take l.table-index l.kept
