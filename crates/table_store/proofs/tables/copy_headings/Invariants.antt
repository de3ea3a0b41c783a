use Rattle.std.proofs.Common.{◌≡◌, ◌++◌, length}
use Rattle.table_store.proofs.tables.copy_headings.Given as goal

abbrev pub invariant-tables : goal.invariant-tables
invariant-tables l = l.copy.items ++ l.rest ≡ l.headings

abbrev pub decreases-tables : goal.decreases-tables
decreases-tables l = length l.rest
