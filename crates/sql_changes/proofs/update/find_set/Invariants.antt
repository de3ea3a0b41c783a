use Rattle.std.proofs.Common.{◌≡◌, ℕ, List, map, length}
use Rattle.std.specs.Prelude.{bytes_eq, find}
use Rattle.sql_tree.specs.Tree.{ExprTree, set_tree}
use Rattle.sql_changes.proofs.update.find_set.Given as goal

-- the rest decides as all do
abbrev pub invariant-sets : goal.invariant-sets
invariant-sets l =
    find (λ (set : List ℕ × ExprTree). bytes_eq set.0 l.name) (map set_tree l.rest) ≡ find (λ (set : List ℕ × ExprTree). bytes_eq set.0 l.name) (map set_tree l.sets)

abbrev pub decreases-sets : goal.decreases-sets
decreases-sets l = length l.rest
