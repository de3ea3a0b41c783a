use Rattle.std.proofs.Common.{◌≡◌, ◌+◌, ◌-◌, ◌≤◌, map, length}
use Rattle.std.specs.List.{position_or_len}
use Rattle.sql_tree.specs.Tree.{ItemTree, item_tree}
use Rattle.sql_definitions.specs.Answer.{is_column}
use Rattle.sql_definitions.proofs.items.find_at.Given as goal

-- the place in the rest, after those before it, is the place among all
abbrev pub invariant-items : goal.invariant-items
invariant-items l =
    record {
      place : (length l.items - length l.rest) + position_or_len (λ (item : ItemTree). is_column l.sources l.place item.expr) (map item_tree l.rest)
          ≡ position_or_len (λ (item : ItemTree). is_column l.sources l.place item.expr) (map item_tree l.items);
      shorter : length l.rest ≤ length l.items;
    }

abbrev pub decreases-items : goal.decreases-items
decreases-items l = length l.rest
