use Rattle.std.proofs.Common.{◌≡◌, ◌++◌, length}
use Rattle.table_store.specs.Kept.{headings_without}
use Rattle.table_store.proofs.tables.headings_but.Given as goal

-- what is left so far, and what the rest leaves
abbrev pub invariant-tables : goal.invariant-tables
invariant-tables l = l.left.items ++ headings_without l.name l.rest ≡ headings_without l.name l.headings

abbrev pub decreases-tables : goal.decreases-tables
decreases-tables l = length l.rest
