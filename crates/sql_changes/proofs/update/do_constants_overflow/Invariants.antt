use Rattle.std.proofs.Common.{◌≡◌, ℕ, List, map, length}
use Rattle.std.specs.List.{list_any}
use Rattle.sql_tree.specs.Tree.{ExprTree, set_tree}
use Rattle.sql_definitions.specs.Values.{constant_overflows}
use Rattle.sql_changes.proofs.update.do_constants_overflow.Given as goal

-- the rest decides as all do
abbrev pub invariant-sets : goal.invariant-sets
invariant-sets l =
    list_any constant_overflows (map (λ (set : List ℕ × ExprTree). set.1) (map set_tree l.rest)) ≡ list_any constant_overflows (map (λ (set : List ℕ × ExprTree). set.1) (map set_tree l.sets))

abbrev pub decreases-sets : goal.decreases-sets
decreases-sets l = length l.rest
