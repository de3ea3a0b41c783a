use Rattle.std.proofs.Common.{◌≡◌, ℕ, ◌+◌, ◌<◌, ◌≤◌, true, length, take}
use Rattle.std.specs.Prelude.{slice_index}
use Rattle.std.specs.Vec.{vec_capacity}
use Rattle.cell_core.specs.Cuts.{is_cut_below}
use Rattle.least_cover.specs.Covers.{span_at}
use Rattle.least_cover.proofs.queue.front.Given as goal

-- those that left were at the end, and begin after the cut
abbrev pub invariant-queue : goal.invariant-queue
invariant-queue l = record {
  left : l.queue.items ≡ take (length l.queue.items) l.fn.queue.items;
  count : length l.queue.items + l.counter ≡ length l.fn.queue.items;
  gone : (i : ℕ) → length l.queue.items ≤ i → i < length l.fn.queue.items → is_cut_below l.cut (span_at l.spans (slice_index l.fn.queue.items i)).low ≡ true;
  kept : vec_capacity l.queue ≡ vec_capacity l.fn.queue;
}
