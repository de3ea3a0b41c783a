use Rattle.std.proofs.Common.{◌≡◌, ◌++◌, map, length}
use Rattle.sql_tree.specs.Tree.{set_tree}
use Rattle.sql_changes.specs.Parts.{set_cells}
use Rattle.sql_changes.proofs.update.set_cells.Given as goal

-- what is made so far, followed by what the rest makes, is what all make
abbrev pub invariant-columns : goal.invariant-columns
invariant-columns l =
    l.new ++ set_cells (map set_tree l.sets) l.table l.row l.targets l.rest ≡ set_cells (map set_tree l.sets) l.table l.row l.columns l.cells

abbrev pub decreases-columns : goal.decreases-columns
decreases-columns l = length l.targets
