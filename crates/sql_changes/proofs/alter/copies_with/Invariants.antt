use Rattle.std.proofs.Common.{◌≡◌, ◌++◌, map, length}
use Rattle.cell_core.specs.Tables.{with_column}
use Rattle.sql_changes.proofs.alter.copies_with.Given as goal

-- what is made so far, followed by what the rest makes, is what all make
abbrev pub invariant-tables : goal.invariant-tables
invariant-tables l =
    l.copies ++ map (with_column l.name l.column) l.rest ≡ map (with_column l.name l.column) l.tables

abbrev pub decreases-tables : goal.decreases-tables
decreases-tables l = length l.rest
