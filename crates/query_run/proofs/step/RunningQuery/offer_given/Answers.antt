use Rattle.std.proofs.Common.{refl, sym, subst, ◌∙◌}
use Rattle.std.proofs.lemmas.Result.{IfOk-weaker}
use Rattle.query_run.specs.Ready.{ComesOfValue}
use Rattle.query_run.proofs.step.RunningQuery.offer_given.Goals as goal

pub returns : goal.returns
returns c =
    let at = c.requires.at in
    IfOk-weaker c.to_offer.result _ _
    (λ next offers.
    let offered = offers.4 at.0 at.1 in
    subst (ComesOfValue c.args.self c.args.n c.args.value) (sym offers.1) (refl, refl, (at.0, at.1, offered), offers.3 ∙ c.requires.load at.0 at.1 ∙ sym offered.work)) c.to_offer.ensures
