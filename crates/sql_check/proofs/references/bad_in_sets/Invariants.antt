use Rattle.std.proofs.Common.{◌≡◌, length}
use Rattle.sql_check.specs.First.{first_by, bad_expr, set_exprs}
use Rattle.sql_check.proofs.references.bad_in_sets.Given as goal

-- the rest decides as all do
abbrev pub invariant-sets : goal.invariant-sets
invariant-sets l =
    first_by (bad_expr l.sources) (set_exprs l.rest) ≡ first_by (bad_expr l.sources) (set_exprs l.sets)

abbrev pub decreases-sets : goal.decreases-sets
decreases-sets l = length l.rest
