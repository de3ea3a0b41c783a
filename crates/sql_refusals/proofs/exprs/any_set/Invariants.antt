use Rattle.std.proofs.Common.{◌≡◌, length, map}
use Rattle.std.specs.List.{list_any}
use Rattle.std.specs.Prelude.{List, ℕ}
use Rattle.sql_tree.specs.Tree.{ExprTree, set_tree}
use Rattle.sql_refusals.specs.Searches.{is_sought}
use Rattle.sql_refusals.proofs.exprs.any_set.Given as goal

-- the test of what is left has the result of the test of all
abbrev pub invariant-sets : goal.invariant-sets
invariant-sets l = list_any (is_sought l.sought) (map (λ (set : List ℕ × ExprTree). set.1) (map set_tree l.rest)) ≡ list_any (is_sought l.sought) (map (λ (set : List ℕ × ExprTree). set.1) (map set_tree l.sets))

abbrev pub decreases-sets : goal.decreases-sets
decreases-sets l = length l.rest
