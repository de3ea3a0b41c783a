use Rattle.std.proofs.Common.{◌≡◌, map, length}
use Rattle.std.specs.List.{list_any}
use Rattle.sql_tree.specs.Tree.{set_tree}
use Rattle.sql_definitions.specs.Check.{is_misfit_set}
use Rattle.sql_check.proofs.changes.are_sets_misfit.Given as goal

-- the rest decides as all do
abbrev pub invariant-sets : goal.invariant-sets
invariant-sets l =
    list_any (is_misfit_set l.sources l.columns) (map set_tree l.rest) ≡ list_any (is_misfit_set l.sources l.columns) (map set_tree l.sets)

abbrev pub decreases-sets : goal.decreases-sets
decreases-sets l = length l.rest
