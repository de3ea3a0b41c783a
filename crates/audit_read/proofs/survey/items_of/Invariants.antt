use Rattle.std.proofs.Common.{◌≡◌, length, map, ◌||◌}
use Rattle.std.specs.List.{list_any}
use Rattle.sql_tree.specs.Tree.{ItemTree, item_tree}
use Rattle.read_laws.specs.Bounded.{has_unread}
use Rattle.audit_read.specs.Survey.{is_large}
use Rattle.audit_read.proofs.survey.items_of.Given as goal

-- what is asked of those so far and of those that are left is asked of all
abbrev pub invariant-items : goal.invariant-items
invariant-items l = record {
  unread : (l.asked.unread || list_any has_unread (map (λ (item : ItemTree). item.expr) (map item_tree l.rest))) ≡ list_any has_unread (map (λ (item : ItemTree). item.expr) (map item_tree l.fn.items));
  large : (l.asked.large || list_any is_large (map (λ (item : ItemTree). item.expr) (map item_tree l.rest))) ≡ list_any is_large (map (λ (item : ItemTree). item.expr) (map item_tree l.fn.items));
}

abbrev pub decreases-items : goal.decreases-items
decreases-items l = length l.rest
