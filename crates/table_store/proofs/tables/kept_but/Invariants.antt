use Rattle.std.proofs.Common.{◌≡◌, ◌++◌, length}
use Rattle.table_store.specs.Kept.{kept_without}
use Rattle.table_store.proofs.tables.kept_but.Given as goal

-- what is left so far, and what the rest leaves
abbrev pub invariant-tables : goal.invariant-tables
invariant-tables l = l.left.items ++ kept_without l.name l.names l.rest ≡ kept_without l.name l.headings l.kept

abbrev pub decreases-tables : goal.decreases-tables
decreases-tables l = length l.names
