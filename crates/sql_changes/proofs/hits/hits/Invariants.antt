use Rattle.std.proofs.Common.{◌≡◌, ◌++◌, filter, length}
use Rattle.std.specs.Option.{option_map}
use Rattle.sql_tree.specs.Tree.{cond_tree}
use Rattle.sql_changes.specs.Parts.{is_true_of}
use Rattle.sql_changes.proofs.hits.hits.Given as goal

-- what is made so far, followed by what the rest makes, is what all make
abbrev pub invariant-rows : goal.invariant-rows
invariant-rows l =
    l.hits.items ++ filter (is_true_of (option_map cond_tree l.cond) l.table) l.rest ≡ filter (is_true_of (option_map cond_tree l.cond) l.table) l.table.rows

abbrev pub decreases-rows : goal.decreases-rows
decreases-rows l = length l.rest
