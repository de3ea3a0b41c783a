use Rattle.std.proofs.Common.{◌≡◌, None}
use Rattle.mal_check.specs.Checked.{plan_fault}
use Rattle.mal_opt.specs.Laws.{AllLead, FitsWhere, MeanTheSame}
use Rattle.mal_opt.specs.Optimisers.{drop_dead}
use Rattle.mal_opt.proofs.Checks.{typed_from}
use Rattle.mal_opt.proofs.Leavings.{all_lead}
use Rattle.mal_opt.proofs.Promises.{ok_is, alive_closed, drop_means, drop_checks, drop_fits}
use Rattle.mal_opt.proofs.optimisers.drop_dead.Goals as goal

pub returns-clause-meaning : goal.returns-clause-meaning
returns-clause-meaning c = ok_is c.dropped.result (drop_dead c.args.plan.now) (MeanTheSame c.args.plan.now) c.dropped.ensures (drop_means c.args.plan.now c.requires)

pub returns-clause-checked : goal.returns-clause-checked
returns-clause-checked c = ok_is c.dropped.result (drop_dead c.args.plan.now) (λ made. plan_fault made ≡ None) c.dropped.ensures (drop_checks c.args.plan.now c.requires)

pub returns-clause-fits : goal.returns-clause-fits
returns-clause-fits c = ok_is c.dropped.result (drop_dead c.args.plan.now) (FitsWhere c.args.plan.now) c.dropped.ensures (drop_fits c.args.plan.now c.requires)

pub returns-clause-dropped : goal.returns-clause-dropped
returns-clause-dropped c = ok_is c.dropped.result (drop_dead c.args.plan.now) AllLead c.dropped.ensures (all_lead c.args.plan.now (typed_from c.args.plan.now c.requires) (alive_closed c.args.plan.now (typed_from c.args.plan.now c.requires)))
