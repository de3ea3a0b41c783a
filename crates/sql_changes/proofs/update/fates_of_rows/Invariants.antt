use Rattle.std.proofs.Common.{◌≡◌, ◌++◌, map, length}
use Rattle.std.specs.Option.{option_map}
use Rattle.sql_tree.specs.Tree.{cond_tree, set_tree}
use Rattle.sql_changes.specs.Parts.{updated_fate}
use Rattle.sql_changes.proofs.update.fates_of_rows.Given as goal

-- what is made so far, followed by what the rest makes, is what all make
abbrev pub invariant-rows : goal.invariant-rows
invariant-rows l =
    l.fates ++ map (updated_fate (map set_tree l.sets) (option_map cond_tree l.cond) l.table) l.rest ≡ map (updated_fate (map set_tree l.sets) (option_map cond_tree l.cond) l.table) l.table.rows

abbrev pub decreases-rows : goal.decreases-rows
decreases-rows l = length l.rest
