use Rattle.score_hook.specs.Scores.{most_bottom, score_of}
use Rattle.evict_admit.specs.Leading.{IsLeader}
use Rattle.evict_admit.proofs.Leads.{IsPending}
use Rattle.evict_admit.proofs.leading.lead.Given as goal

-- the one that leads is known, and the first of it and of the rows that are left goes first of all
abbrev pub invariant-rows : goal.invariant-rows
invariant-rows g l = record {
  leader : IsLeader (most_bottom l.scorer.kind) (λ stats. score_of l.scorer.kind l.scorer.weights.items stats l.now) l.rows l.leader;
  pending : IsPending (λ stats. score_of l.scorer.kind l.scorer.weights.items stats l.now) l.rows (most_bottom l.scorer.kind) l.leader l.place;
}
