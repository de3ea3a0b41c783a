use Rattle.std.proofs.Common.{◌≡◌, None}
use Rattle.mal_check.specs.Checked.{plan_fault}
use Rattle.mal_opt.specs.Laws.{AllDiffer, FitsWhere, MeanTheSame}
use Rattle.mal_opt.specs.Passes.{through, sharing, keeping}
use Rattle.mal_opt.proofs.Normals.{all_differ, sharing_differ}
use Rattle.mal_opt.proofs.Promises.{ok_is, means, checks, fits, sharing_kind, keeping_kind}
use Rattle.mal_opt.proofs.optimisers.share_terms.Goals as goal

pub returns-clause-meaning : goal.returns-clause-meaning
returns-clause-meaning c = ok_is c.shared.result (through (sharing keeping) c.args.plan.now) (MeanTheSame c.args.plan.now) c.shared.ensures (means c.args.plan.now c.requires (sharing keeping) (sharing_kind keeping keeping_kind))

pub returns-clause-checked : goal.returns-clause-checked
returns-clause-checked c = ok_is c.shared.result (through (sharing keeping) c.args.plan.now) (λ made. plan_fault made ≡ None) c.shared.ensures (checks c.args.plan.now c.requires (sharing keeping) (sharing_kind keeping keeping_kind))

pub returns-clause-fits : goal.returns-clause-fits
returns-clause-fits c = ok_is c.shared.result (through (sharing keeping) c.args.plan.now) (FitsWhere c.args.plan.now) c.shared.ensures (fits c.args.plan.now c.requires (sharing keeping) (sharing_kind keeping keeping_kind))

pub returns-clause-shared : goal.returns-clause-shared
returns-clause-shared c = ok_is c.shared.result (through (sharing keeping) c.args.plan.now) AllDiffer c.shared.ensures (all_differ (sharing keeping) sharing_differ c.args.plan.now)
