use Rattle.std.proofs.Common.{◌≡◌, length}
use Rattle.cell_core.specs.Tables.{first_named}
use Rattle.cell_core.proofs.table.first_table.Given as goal

-- the table is the first of what is left
abbrev pub invariant-tables : goal.invariant-tables
invariant-tables l = first_named l.name l.rest ≡ first_named l.name l.tables

abbrev pub decreases-tables : goal.decreases-tables
decreases-tables l = length l.rest
