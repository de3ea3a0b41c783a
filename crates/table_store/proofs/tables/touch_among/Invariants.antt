use Rattle.std.proofs.Common.{◌≡◌, length}
use Rattle.cell_core.specs.Tables.{first_named}
use Rattle.table_store.specs.Kept.{tables_from}
use Rattle.table_store.proofs.tables.touch_among.Given as goal

-- the first of the rest is the first of all
abbrev pub invariant-tables : goal.invariant-tables
invariant-tables l = first_named l.name (tables_from l.names l.rest) ≡ first_named l.name (tables_from l.headings l.kept)

abbrev pub decreases-tables : goal.decreases-tables
decreases-tables l = length l.names
