use Rattle.std.proofs.Common.{subst, sym}
use Rattle.score_hook.specs.Scores.{IsSmall, most_bottom}
use Rattle.score_hook.proofs.Bounds.{score_small}
use Rattle.score_hook.proofs.scorer.Scorer.score.Goals as goal

pub returns-clause-small : goal.returns-clause-small
returns-clause-small g c = subst (IsSmall (most_bottom c.args.self.now.kind)) (sym c.ask.ensures) (score_small c.args.self.now.kind c.args.self.now.weights.items c.args.stats.now c.args.now c.args.self.now.weighed c.requires)
