use Rattle.std.proofs.Common.{◌≡◌, subst}
use Rattle.query_run.specs.declared.step.Step.{Step}
use Rattle.query_run.specs.declared.step.Step.TheVariants as step
use Rattle.query_run.specs.Ready.{Moves}
use Rattle.thread_sessions.proofs.CrewLemmas.{crewed_moves, value_moves}
use Rattle.thread_sessions.proofs.crew.Tools.give.Goals as goal

pub offer-requires-clause-crewed : goal.offer-requires-clause-crewed
offer-requires-clause-crewed g c =
    crewed_moves g.K.HasOptions.options c.args.self.now.hall.now c.args.runner.now c.args.self.now.began.value (step.Open c.args.query) (step.Offering c.in-Offering.query c.in-Offering.n c.in-Offering.offer) c.requires.crewed
    (subst (Moves (step.Open c.args.query)) c.in-Offering.is (value_moves c.args.query c.args.n c.args.value c.in_ok-query.field-0 c.requires.asked c.in_ok-query.ensures))

pub returns-in-Open-clause-crewed : goal.returns-in-Open-clause-crewed
returns-in-Open-clause-crewed g c =
    crewed_moves g.K.HasOptions.options c.args.self.now.hall.now c.args.runner.now c.args.self.now.began.value (step.Open c.args.query) (step.Open c.in-Open.query) c.requires.crewed
    (subst (Moves (step.Open c.args.query)) c.in-Open.is (value_moves c.args.query c.args.n c.args.value c.in_ok-query.field-0 c.requires.asked c.in_ok-query.ensures))
