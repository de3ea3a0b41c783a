use Rattle.std.proofs.Common.{◌≡◌, take, map}
use Rattle.sql_tree.specs.Tree.{item_tree}
use Rattle.sql_tree.proofs.copy.copy_items.Given as goal

-- what is copied so far
abbrev pub invariant-items : goal.invariant-items
invariant-items l = map item_tree l.copy.items ≡ map item_tree (take l.item-index l.items)
