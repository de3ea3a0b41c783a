use Rattle.score_hook.specs.Scores.{score_of}
use Rattle.evict_admit.proofs.Plans.{all_small, known_is}
use Rattle.evict_admit.proofs.plan.plan_by_contest.Goals as goal

pub plan_among-requires-clause-known : goal.plan_among-requires-clause-known
plan_among-requires-clause-known g c = known_is _ (λ stats. score_of c.args.scorer.now.kind c.args.scorer.now.weights.items stats c.args.now) c.requires.few c.requires.ids c.note_names.ensures.named c.note_hints.ensures c.requires.distinct (all_small c.args.scorer.now.kind c.args.scorer.now.weights.items c.args.scorer.now.weighed c.args.now c.args.rows.now c.requires.range) c.note_contenders.ensures

pub returns-clause-plan : goal.returns-clause-plan
returns-clause-plan g c = c.plan_among.ensures.plan (λ stats. score_of c.args.scorer.now.kind c.args.scorer.now.weights.items stats c.args.now) c.note_contenders.ensures
