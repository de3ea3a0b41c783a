use Rattle.std.proofs.Common.{◌≡◌, take, map}
use Rattle.sql_tree.specs.Tree.{set_tree}
use Rattle.sql_tree.proofs.copy.copy_sets.Given as goal

-- what is copied so far
abbrev pub invariant-sets : goal.invariant-sets
invariant-sets l = map set_tree l.copy.items ≡ map set_tree (take l.set-index l.sets)
