use Rattle.std.proofs.Common.{◌≡◌, ℕ, ◌≤◌, length}
use Rattle.evict_admit.specs.Boards.{IsContest, winner_at}
use Rattle.evict_admit.proofs.contest.play_all.Given as goal

-- the games from the last one on are played, and the seats stay
abbrev pub invariant-games : goal.invariant-games
invariant-games l = record {
  contest : IsContest (λ k. l.node ≤ k) l.contenders l.winners;
  low : l.node ≤ length l.contenders;
  seats : (k : ℕ) → length l.contenders ≤ k → winner_at l.winners k ≡ winner_at l.fn.winners k;
}

abbrev pub decreases-games : goal.decreases-games
decreases-games l = l.node
