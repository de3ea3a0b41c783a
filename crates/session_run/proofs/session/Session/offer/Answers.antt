use Rattle.std.proofs.Common.{rules, ◌≡◌, ◌+◌, refl, ap}
use Rattle.query_run.specs.declared.step.Step.TheVariants as step
use Rattle.session_run.specs.declared.stage.Stage.TheVariants as stage
use Rattle.session_run.specs.Stages.{at_stage}
use Rattle.session_run.proofs.OutsideLemmas.{restaged}
use Rattle.run_log.specs.Events.{log_tree}
use Rattle.session_run.proofs.DoesLemmas.{can_offer, offer_does, offers_within}
use Rattle.session_run.proofs.session.Session.offer.Goals as goal

pub offer-requires-clause-offer : goal.offer-requires-clause-offer
offer-requires-clause-offer g c =
    can_offer c.args.book.now c.args.book.now c.who-who.result (at_stage c.args.self.now (stage.Querying (step.Offering c.args.query c.args.n c.args.offer))) c.args.self.now c.requires.stands c.who-who.ensures refl
    c.args.query c.args.n c.args.offer refl c.log_is_lawful.ensures.lawful

pub offer-requires-clause-under : goal.offer-requires-clause-under
offer-requires-clause-under g c =
    (offers_within c.args.book.now.options (log_tree c.args.book.now.log) (at_stage c.args.self.now (stage.Querying (step.Offering c.args.query c.args.n c.args.offer))) c.requires.stands c.args.query c.args.n c.args.offer refl).0

pub offer-requires-clause-inside : goal.offer-requires-clause-inside
offer-requires-clause-inside g c =
    (offers_within c.args.book.now.options (log_tree c.args.book.now.log) (at_stage c.args.self.now (stage.Querying (step.Offering c.args.query c.args.n c.args.offer))) c.requires.stands c.args.query c.args.n c.args.offer refl).1

pub returns-clause-does : goal.returns-clause-does
returns-clause-does g c =
    let sum : c.in_ok-work.work ≡ c.args.self.now.work + c.args.offer.done = search rules in
    (offer_does c.args.book.now c.offer.new.book c.who-who.result (at_stage c.args.self.now (stage.Querying (step.Offering c.args.query c.args.n c.args.offer))) _ c.requires.stands c.who-who.ensures c.offer.ensures.options
    c.requires.worked c.args.query c.args.n c.args.offer c.in_ok-next.next refl c.log_is_lawful.ensures.lawful c.log_is_lawful-2.ensures.lawful c.in_ok-next.ensures.logged c.in_ok-next.ensures.step.0 c.in_ok-next.ensures.step.1 c.in_ok-next.ensures.step.2
    (ap (λ work. restaged c.args.self.now work (stage.Querying c.in_ok-next.next)) sum)).0

pub returns-clause-counts : goal.returns-clause-counts
returns-clause-counts g c =
    let sum : c.in_ok-work.work ≡ c.args.self.now.work + c.args.offer.done = search rules in
    (offer_does c.args.book.now c.offer.new.book c.who-who.result (at_stage c.args.self.now (stage.Querying (step.Offering c.args.query c.args.n c.args.offer))) _ c.requires.stands c.who-who.ensures c.offer.ensures.options
    c.requires.worked c.args.query c.args.n c.args.offer c.in_ok-next.next refl c.log_is_lawful.ensures.lawful c.log_is_lawful-2.ensures.lawful c.in_ok-next.ensures.logged c.in_ok-next.ensures.step.0 c.in_ok-next.ensures.step.1 c.in_ok-next.ensures.step.2
    (ap (λ work. restaged c.args.self.now work (stage.Querying c.in_ok-next.next)) sum)).1

pub returns-clause-follows : goal.returns-clause-follows
returns-clause-follows g c = let step_is = c.in_ok-next.ensures.step in (step_is.0, _, ap stage.Querying step_is.1, step_is.2)
