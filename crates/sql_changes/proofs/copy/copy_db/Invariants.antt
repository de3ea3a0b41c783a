use Rattle.std.proofs.Common.{◌≡◌, ◌++◌, length}
use Rattle.sql_changes.proofs.copy.copy_db.Given as goal

-- what is made so far, and the rest, is all
abbrev pub invariant-tables : goal.invariant-tables
invariant-tables l =
    l.tables ++ l.rest ≡ l.db.tables

abbrev pub decreases-tables : goal.decreases-tables
decreases-tables l = length l.rest
