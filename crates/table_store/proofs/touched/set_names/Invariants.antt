use Rattle.std.proofs.Common.{◌≡◌, ◌++◌, length, map}
use Rattle.table_columns.specs.Changed.{NewCells}
use Rattle.table_store.proofs.touched.set_names.Given as goal

-- the names so far, and those of the rest
abbrev pub invariant-sets : goal.invariant-sets
invariant-sets l = l.names.items ++ map (λ (set : NewCells). set.0) l.rest ≡ map (λ (set : NewCells). set.0) l.sets

abbrev pub decreases-sets : goal.decreases-sets
decreases-sets l = length l.rest
