use Rattle.std.proofs.Common.{◌≡◌, ℕ, ◌<◌, length, take}
use Rattle.std.specs.Prelude.{count_by, false}
use Rattle.evict_admit.specs.Boards.{row_at, left_at}
use Rattle.evict_admit.specs.Evictions.{is_parent}
use Rattle.evict_admit.proofs.board.count_children.Given as goal

-- the children among the rows so far are counted
abbrev pub invariant-rows : goal.invariant-rows
invariant-rows l = record {
  room : length l.lefts ≡ length l.known.rows.now;
  each : (p : ℕ) → p < length l.known.rows.now → left_at l.lefts p ≡ record { children = count_by (is_parent (row_at l.known.rows.now p).id) (take l.i l.known.rows.now); gone = false };
}
