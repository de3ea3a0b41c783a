use Rattle.std.proofs.Common.{◌≡◌, ◌≢◌, ℕ, ◌<◌, ◌≤◌, length}
use Rattle.evict_admit.specs.Boards.{IsContest, winner_at}
use Rattle.evict_admit.proofs.contest.settle.Given as goal

-- all games but the next one are played, and the seats stay
abbrev pub invariant-games : goal.invariant-games
invariant-games l = record {
  contest : IsContest (λ k. k ≢ l.node) l.contenders l.winners;
  low : l.node < length l.contenders;
  seats : (k : ℕ) → length l.contenders ≤ k → winner_at l.winners k ≡ winner_at l.initial.winners k;
}

abbrev pub decreases-games : goal.decreases-games
decreases-games l = l.node
