-- The expressions of items.
use Rattle.std.specs.Prelude.{List, map}
use Rattle.sql_tree.specs.Tree.{ExprTree, ItemTree, item_tree}
use Rattle.sql_tree.specs.declared.tree.Item.{Item}

abbrev pub exprs_of : List Item → List ExprTree
exprs_of items = map (λ (item : ItemTree). item.expr) (map item_tree items)
