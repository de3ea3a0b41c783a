use Rattle.std.proofs.Common.{◌≡◌, length}
use Rattle.std.specs.Prelude.{bytes_eq, find}
use Rattle.table_columns.specs.Changed.{NewCells}
use Rattle.table_columns.proofs.set.find_set.Given as goal

-- the first of the rest is the first of all
abbrev pub invariant-sets : goal.invariant-sets
invariant-sets l = find (λ (set : NewCells). bytes_eq set.0 l.name) l.rest ≡ find (λ (set : NewCells). bytes_eq set.0 l.name) l.sets

abbrev pub decreases-sets : goal.decreases-sets
decreases-sets l = length l.rest
