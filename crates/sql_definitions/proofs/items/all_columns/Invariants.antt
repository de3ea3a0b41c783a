use Rattle.std.proofs.Common.{◌≡◌, ◌++◌, map, length}
use Rattle.sql_tree.specs.Tree.{item_tree}
use Rattle.sql_definitions.specs.References.{all_columns}
use Rattle.sql_definitions.proofs.items.all_columns.Given as goal

-- the items made so far, followed by those of the rest, are all items
abbrev pub invariant-sources : goal.invariant-sources
invariant-sources l = map item_tree l.items ++ all_columns l.rest ≡ all_columns l.sources

abbrev pub decreases-sources : goal.decreases-sources
decreases-sources l = length l.rest
