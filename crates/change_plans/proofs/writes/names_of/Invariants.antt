use Rattle.std.proofs.Common.{◌≡◌, ◌++◌, map, length}
use Rattle.sql_tree.specs.Tree.{set_tree}
use Rattle.change_plans.proofs.writes.names_of.Given as goal

-- what is made so far, followed by what the rest makes, is what all make
abbrev pub invariant-sets : goal.invariant-sets
invariant-sets l = l.names ++ map (λ set. set.0) (map set_tree l.rest) ≡ map (λ set. set.0) (map set_tree l.sets)

abbrev pub decreases-sets : goal.decreases-sets
decreases-sets l = length l.rest
