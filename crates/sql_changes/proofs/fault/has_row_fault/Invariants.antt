use Rattle.std.proofs.Common.{◌≡◌, map, length}
use Rattle.std.specs.List.{list_any}
use Rattle.sql_tree.specs.Tree.{set_tree}
use Rattle.sql_changes.specs.Faults.{has_fault}
use Rattle.sql_changes.proofs.fault.has_row_fault.Given as goal

-- the rest decides as all do
abbrev pub invariant-sets : goal.invariant-sets
invariant-sets l =
    list_any (has_fault l.fault l.table l.row) (map set_tree l.rest) ≡ list_any (has_fault l.fault l.table l.row) (map set_tree l.sets)

abbrev pub decreases-sets : goal.decreases-sets
decreases-sets l = length l.rest
