use Rattle.std.proofs.Common.{◌≡◌, map, length}
use Rattle.sql_tree.specs.Tree.{set_tree}
use Rattle.sql_definitions.specs.Effect.{is_any_set}
use Rattle.sql_changes.specs.Faults.{has_fault}
use Rattle.sql_changes.proofs.fault.has_any_fault.Given as goal

-- the rest decides as all do
abbrev pub invariant-rows : goal.invariant-rows
invariant-rows l =
    is_any_set (has_fault l.fault l.table) (map set_tree l.sets) l.rest ≡ is_any_set (has_fault l.fault l.table) (map set_tree l.sets) l.rows

abbrev pub decreases-rows : goal.decreases-rows
decreases-rows l = length l.rest
