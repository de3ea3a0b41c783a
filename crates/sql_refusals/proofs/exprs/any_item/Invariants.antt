use Rattle.std.proofs.Common.{◌≡◌, length, map}
use Rattle.std.specs.List.{list_any}
use Rattle.sql_tree.specs.Tree.{ItemTree, item_tree}
use Rattle.sql_refusals.specs.Searches.{is_sought}
use Rattle.sql_refusals.proofs.exprs.any_item.Given as goal

-- the test of what is left has the result of the test of all
abbrev pub invariant-items : goal.invariant-items
invariant-items l = list_any (is_sought l.sought) (map (λ (item : ItemTree). item.expr) (map item_tree l.rest)) ≡ list_any (is_sought l.sought) (map (λ (item : ItemTree). item.expr) (map item_tree l.items))

abbrev pub decreases-items : goal.decreases-items
decreases-items l = length l.rest
