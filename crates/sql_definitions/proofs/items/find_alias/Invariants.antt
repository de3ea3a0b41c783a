use Rattle.std.proofs.Common.{◌≡◌, ◌+◌, ◌-◌, ◌≤◌, map, length}
use Rattle.std.specs.List.{position_or_len}
use Rattle.sql_tree.specs.Tree.{item_tree}
use Rattle.sql_definitions.specs.Answer.{is_called}
use Rattle.sql_definitions.proofs.items.find_alias.Given as goal

-- the place in the rest, after those before it, is the place among all
abbrev pub invariant-items : goal.invariant-items
invariant-items l =
    record {
      place : (length l.items - length l.rest) + position_or_len (is_called l.reference) (map item_tree l.rest) ≡ position_or_len (is_called l.reference) (map item_tree l.items);
      shorter : length l.rest ≤ length l.items;
    }

abbrev pub decreases-items : goal.decreases-items
decreases-items l = length l.rest
