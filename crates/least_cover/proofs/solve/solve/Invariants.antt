use Rattle.std.proofs.Common.{◌≡◌, ◌≤◌, length}
use Rattle.std.specs.Vec.{vec_capacity}
use Rattle.least_cover.specs.Best.{AreShort, IsOrder}
use Rattle.least_cover.proofs.Passes.{IsPassed}
use Rattle.least_cover.proofs.solve.solve.Given as goal

-- the first places are known and wait in the queue
abbrev pub invariant-spans : goal.invariant-spans
invariant-spans l = record {
  passed : (ordered : IsOrder l.spans l.order) → IsPassed l.spans l.target l.order ordered l.bests l.queue.items l.i;
  short : AreShort l.i l.bests;
  same : length l.bests ≡ length l.spans;
  few : length l.queue.items ≤ l.i;
  room : length l.spans ≤ vec_capacity l.queue;
  kept : vec_capacity l.fn.queue ≤ vec_capacity l.queue;
}
