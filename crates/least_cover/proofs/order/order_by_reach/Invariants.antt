use Rattle.std.proofs.Common.{◌≡◌, ◌≤◌, length}
use Rattle.std.specs.List.{range_with_len}
use Rattle.std.specs.Vec.{vec_capacity}
use Rattle.least_cover.proofs.order.order_by_reach.Given as goal

-- the places so far
abbrev pub invariant-spans : goal.invariant-spans
invariant-spans l = record {
  written : l.order.items ≡ range_with_len 0 l.i;
  room : length l.spans ≤ vec_capacity l.order;
  kept : vec_capacity l.fn.order ≤ vec_capacity l.order;
}
