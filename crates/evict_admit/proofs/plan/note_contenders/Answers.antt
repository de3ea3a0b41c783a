use Rattle.std.proofs.Common.{arith}
use Rattle.score_hook.specs.Scores.{score_of}
use Rattle.evict_admit.specs.Boards.{contender_for, row_at}
use Rattle.evict_admit.proofs.Writes.{noted_next}
use Rattle.evict_admit.proofs.plan.note_contenders.Goals as goal

pub score-requires : goal.score-requires
score-requires g c = c.requires.range c.rows.i _ (omega arith)

pub rows-preserved : goal.rows-preserved
rows-preserved g c =
    noted_next (contender_for (λ stats. score_of c.args.scorer.now.kind c.args.scorer.now.weights.items stats c.args.now)) c.args.rows.now c.args.contenders.now c.rows.contenders c.rows.i _ (record { score = c.score.result; id = (row_at c.args.rows.now c.rows.i).id }) c.rows.invariant (omega arith) c.requires.room
    (λ j. record { score = c.score.ensures.value j; id = (row_at c.args.rows.now c.rows.i).id })
