use Rattle.std.proofs.Common.{◌≡◌, ◌++◌, map, take, drop}
use Rattle.score_hook.specs.Scores.{score_of}
use Rattle.evict_admit.specs.Boards.{contender_for}
use Rattle.evict_admit.proofs.plan.note_contenders.Given as goal

-- the rows so far are noted
abbrev pub invariant-rows : goal.invariant-rows
invariant-rows g l = l.contenders ≡ map (contender_for (λ stats. score_of l.scorer.kind l.scorer.weights.items stats l.now)) (take l.i l.rows) ++ drop l.i l.initial.contenders
