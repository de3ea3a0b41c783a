use Rattle.std.proofs.Common.{◌≡◌, None}
use Rattle.mal_check.specs.Checked.{plan_fault}
use Rattle.mal_opt.specs.Laws.{FitsWhere, MeanTheSame, NoneFolds}
use Rattle.mal_opt.specs.Passes.{through, folding, keeping}
use Rattle.mal_opt.proofs.Normals.{none_folds, keeping_unfolded}
use Rattle.mal_opt.proofs.Promises.{ok_is, means, checks, fits, folding_kind, keeping_kind}
use Rattle.mal_opt.proofs.optimisers.fold_constants.Goals as goal

pub returns-clause-meaning : goal.returns-clause-meaning
returns-clause-meaning c = ok_is c.folded.result (through (folding keeping) c.args.plan.now) (MeanTheSame c.args.plan.now) c.folded.ensures (means c.args.plan.now c.requires (folding keeping) (folding_kind keeping keeping_kind))

pub returns-clause-checked : goal.returns-clause-checked
returns-clause-checked c = ok_is c.folded.result (through (folding keeping) c.args.plan.now) (λ made. plan_fault made ≡ None) c.folded.ensures (checks c.args.plan.now c.requires (folding keeping) (folding_kind keeping keeping_kind))

pub returns-clause-fits : goal.returns-clause-fits
returns-clause-fits c = ok_is c.folded.result (through (folding keeping) c.args.plan.now) (FitsWhere c.args.plan.now) c.folded.ensures (fits c.args.plan.now c.requires (folding keeping) (folding_kind keeping keeping_kind))

pub returns-clause-folded : goal.returns-clause-folded
returns-clause-folded c = ok_is c.folded.result (through (folding keeping) c.args.plan.now) NoneFolds c.folded.ensures (none_folds keeping keeping_unfolded c.args.plan.now)
