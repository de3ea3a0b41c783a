use Rattle.std.proofs.Common.{◌≡◌, None}
use Rattle.mal_check.specs.Checked.{plan_fault}
use Rattle.mal_opt.specs.Laws.{AllDiffer, AllLead, FitsWhere, MeanTheSame, NoneFolds}
use Rattle.mal_opt.specs.Optimisers.{optimise}
use Rattle.mal_opt.proofs.Promises.{ok_is}
use Rattle.mal_opt.proofs.Wholes.{whole_means, whole_checks, whole_fits, whole_folds, whole_differ, whole_lead}
use Rattle.mal_opt.proofs.optimisers.optimise.Goals as goal

pub returns-clause-meaning : goal.returns-clause-meaning
returns-clause-meaning c = ok_is c.whole.result (optimise c.args.plan.now) (MeanTheSame c.args.plan.now) c.whole.ensures (whole_means c.args.plan.now c.requires)

pub returns-clause-checked : goal.returns-clause-checked
returns-clause-checked c = ok_is c.whole.result (optimise c.args.plan.now) (λ made. plan_fault made ≡ None) c.whole.ensures (whole_checks c.args.plan.now c.requires)

pub returns-clause-fits : goal.returns-clause-fits
returns-clause-fits c = ok_is c.whole.result (optimise c.args.plan.now) (FitsWhere c.args.plan.now) c.whole.ensures (whole_fits c.args.plan.now c.requires)

pub returns-clause-folded : goal.returns-clause-folded
returns-clause-folded c = ok_is c.whole.result (optimise c.args.plan.now) NoneFolds c.whole.ensures (whole_folds c.args.plan.now c.requires)

pub returns-clause-shared : goal.returns-clause-shared
returns-clause-shared c = ok_is c.whole.result (optimise c.args.plan.now) AllDiffer c.whole.ensures (whole_differ c.args.plan.now c.requires)

pub returns-clause-dropped : goal.returns-clause-dropped
returns-clause-dropped c = ok_is c.whole.result (optimise c.args.plan.now) AllLead c.whole.ensures (whole_lead c.args.plan.now c.requires)
