use Rattle.std.proofs.Common.{◌≡◌, ℕ, ◌+◌, ◌<◌, ◌≤◌, length}
use Rattle.std.specs.Prelude.{None}
use Rattle.std.specs.Option.{ForSome}
use Rattle.evict_admit.specs.Boards.{winner_at, seat_of, may_go, row_at, left_at}
use Rattle.evict_admit.proofs.board.seat_each.Given as goal

-- the rows so far are seated, and no other place is
abbrev pub invariant-rows : goal.invariant-rows
invariant-rows l = record {
  size : length l.winners ≡ length l.initial.winners;
  rest : (k : ℕ) → length l.rows + l.i ≤ k → winner_at l.winners k ≡ None;
  places : (k : ℕ) → ForSome (winner_at l.winners k) (λ p. p < length l.rows);
  seats : (p : ℕ) → p < l.i → winner_at l.winners (length l.rows + p) ≡ seat_of (may_go (row_at l.rows p) (left_at l.lefts p)) p;
}
