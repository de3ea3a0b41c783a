use Rattle.std.proofs.Common.{◌≡◌, ℕ, List, ◌++◌, map, length}
use Rattle.sql_tree.specs.Tree.{ExprTree, set_tree}
use Rattle.sql_check.proofs.changes.set_names.Given as goal

-- what is made so far, followed by what the rest makes, is what all make
abbrev pub invariant-sets : goal.invariant-sets
invariant-sets l =
    l.names ++ map (λ (set : List ℕ × ExprTree). set.0) (map set_tree l.rest) ≡ map (λ (set : List ℕ × ExprTree). set.0) (map set_tree l.sets)

abbrev pub decreases-sets : goal.decreases-sets
decreases-sets l = length l.rest
