use Rattle.std.proofs.Common.{◌≡◌, ℕ, ◌-◌, ◌<◌, ◌≤◌, true, false, length}
use Rattle.std.specs.Prelude.{slice_index}
use Rattle.least_cover.specs.Best.{is_nearer}
use Rattle.least_cover.proofs.queue.seat_for.Given as goal

-- none before low is nearer than the place, and all from high on are
abbrev pub invariant-halves : goal.invariant-halves
invariant-halves l = record {
  ordered : l.low ≤ l.high;
  within : l.high ≤ length l.queue;
  before : (i : ℕ) → i < l.low → is_nearer l.bests (slice_index l.queue i) l.place ≡ false;
  behind : (i : ℕ) → l.high ≤ i → i < length l.queue → is_nearer l.bests (slice_index l.queue i) l.place ≡ true;
}

abbrev pub decreases-halves : goal.decreases-halves
decreases-halves l = l.high - l.low
