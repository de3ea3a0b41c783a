use Rattle.std.proofs.Common.{◌≡◌, ◌++◌, ◌-◌, ◌≤◌, length, take, drop}
use Rattle.cell_core.specs.Sorted.{insert_sorted}
use Rattle.subsume.specs.Index.{is_item_below}
use Rattle.subsume.proofs.index.place_for.Given as goal

-- the item goes into what is left
abbrev pub invariant-items : goal.invariant-items
invariant-items l = record {
  behind : length l.rest ≤ length l.items;
  rest : drop (length l.items - length l.rest) l.items ≡ l.rest;
  placed : take (length l.items - length l.rest) l.items ++ insert_sorted is_item_below l.item l.rest ≡ insert_sorted is_item_below l.item l.items;
}

abbrev pub decreases-items : goal.decreases-items
decreases-items l = length l.rest
