use Rattle.std.proofs.Common.{◌≡◌, ◌++◌, map, length}
use Rattle.sql_tree.specs.Tree.{item_tree}
use Rattle.sql_definitions.specs.References.{column_item}
use Rattle.sql_definitions.proofs.items.add_columns.Given as goal

-- the items made so far, followed by those of the rest, are all items
abbrev pub invariant-columns : goal.invariant-columns
invariant-columns l =
    map item_tree l.items ++ map (column_item l.source.name) l.rest ≡ map item_tree l.fn.items ++ map (column_item l.source.name) l.source.columns

abbrev pub decreases-columns : goal.decreases-columns
decreases-columns l = length l.rest
