use Rattle.std.proofs.Common.{◌≡◌, ℕ, ◌%◌, ◌<◌, length, true}
use Rattle.evict_admit.specs.Boards.{row_at}
use Rattle.evict_admit.specs.Evictions.{is_parent}
use Rattle.evict_admit.specs.Leading.{mark_at}
use Rattle.evict_admit.proofs.leading.mark_parents.Given as goal

-- the parents of the rows so far are marked
abbrev pub invariant-rows : goal.invariant-rows
invariant-rows l = record {
  size : length l.marks ≡ 4096;
  each : (p id : ℕ) → p < l.i → is_parent id (row_at l.rows p) ≡ true → 0 < mark_at l.marks (id % 4096);
}
