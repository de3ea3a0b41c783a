use Rattle.std.proofs.Common.{◌≡◌, map, length}
use Rattle.std.specs.List.{list_any}
use Rattle.sql_tree.specs.Tree.{ItemTree, item_tree}
use Rattle.sql_definitions.specs.References.{has_aggregate}
use Rattle.sql_definitions.proofs.items.has_aggregates.Given as goal

-- the rest decides as all do
abbrev pub invariant-items : goal.invariant-items
invariant-items l =
    list_any (λ (item : ItemTree). has_aggregate item.expr) (map item_tree l.rest) ≡ list_any (λ (item : ItemTree). has_aggregate item.expr) (map item_tree l.items)

abbrev pub decreases-items : goal.decreases-items
decreases-items l = length l.rest
