-- What both passes of `optimise` promise together.
use Rattle.std.proofs.Common.{◌≡◌, None, ◌∙◌}
use Rattle.mal_meaning.specs.declared.plan.Plan.{Plan}
use Rattle.mal_check.specs.Checked.{plan_fault}
use Rattle.mal_opt.specs.Laws.{AllDiffer, AllLead, FitsWhere, MeanTheSame, NoneFolds}
use Rattle.mal_opt.specs.Optimisers.{drop_dead, optimise}
use Rattle.mal_opt.specs.Passes.{Step, through, folding, sharing, keeping}
use Rattle.mal_opt.proofs.Checks.{IsTyped, typed_from}
use Rattle.mal_opt.proofs.Leavings.{all_lead, folds_left, differ_left}
use Rattle.mal_opt.proofs.Meanings.{IsClosed}
use Rattle.mal_opt.specs.Live.{is_alive}
use Rattle.mal_opt.proofs.Normals.{none_folds, keeping_unfolded, sharing_unfolded, all_differ, sharing_differ, folding_differ}
use Rattle.mal_opt.proofs.Promises.{IsKind, keeping_kind, folding_kind, sharing_kind, means, checks, fits, drop_means, drop_checks, drop_fits, alive_closed}

abbrev pub both : Step
both = folding (sharing keeping)

both_kind : IsKind both
both_kind = folding_kind (sharing keeping) (sharing_kind keeping keeping_kind)

module _ (plan : Plan) (none : plan_fault plan ≡ None) where
  abbrev front : Plan
  front = through both plan

  front_none : plan_fault front ≡ None
  front_none = checks plan none both both_kind

  front_typed : IsTyped front
  front_typed = typed_from front front_none

  front_closed : IsClosed front (is_alive front)
  front_closed = alive_closed front front_typed

  pub whole_means : MeanTheSame plan (optimise plan)
  whole_means db = drop_means front front_none db ∙ means plan none both both_kind db

  pub whole_checks : plan_fault (optimise plan) ≡ None
  whole_checks = drop_checks front front_none

  pub whole_fits : FitsWhere plan (optimise plan)
  whole_fits db fit = drop_fits front front_none db (fits plan none both both_kind db fit)

  pub whole_folds : NoneFolds (optimise plan)
  whole_folds = folds_left front front_typed front_closed (none_folds (sharing keeping) (sharing_unfolded keeping keeping_unfolded) plan)

  pub whole_differ : AllDiffer (optimise plan)
  whole_differ = differ_left front front_typed front_closed (all_differ both (folding_differ (sharing keeping) sharing_differ) plan)

  pub whole_lead : AllLead (optimise plan)
  whole_lead = all_lead front front_typed front_closed
