use Rattle.std.proofs.Common.{ℕ, sym, subst}
use Rattle.std.specs.Result.{OnOk}
use Rattle.query_run.specs.declared.step.Step.{Step}
use Rattle.session_run.specs.declared.stage.Stage.TheVariants as stage
use Rattle.session_run.specs.Stages.{Follows, at_stage}
use Rattle.session_run.specs.Works.{CountsInside}
use Rattle.session_run.proofs.session.Session.go_on.Goals as goal

pub returns-in-Asking-clause-counts : goal.returns-in-Asking-clause-counts
returns-in-Asking-clause-counts g c =
    subst (λ (s : Step). OnOk c.ask.result ((steps : ℕ) → CountsInside c.args.book.now c.ask.new.book (at_stage c.args.self.now (stage.Querying s)) c.ask.new.self steps steps)) (sym c.in-Asking.is) c.ask.ensures.counts

pub returns-in-Offering-clause-counts : goal.returns-in-Offering-clause-counts
returns-in-Offering-clause-counts g c =
    subst (λ (s : Step). OnOk c.offer.result ((steps : ℕ) → CountsInside c.args.book.now c.offer.new.book (at_stage c.args.self.now (stage.Querying s)) c.offer.new.self steps steps)) (sym c.in-Offering.is) c.offer.ensures.counts

pub returns-in-Ending-clause-counts : goal.returns-in-Ending-clause-counts
returns-in-Ending-clause-counts g c =
    subst (λ (s : Step). OnOk c.end.result ((steps : ℕ) → CountsInside c.args.book.now c.end.new.book (at_stage c.args.self.now (stage.Querying s)) c.end.new.self steps steps)) (sym c.in-Ending.is) c.end.ensures.counts

pub returns-in-Asking-clause-follows : goal.returns-in-Asking-clause-follows
returns-in-Asking-clause-follows g c = subst (λ (s : Step). OnOk c.ask.result (Follows (stage.Querying s) c.ask.new.self.stage)) (sym c.in-Asking.is) c.ask.ensures.follows

pub returns-in-Offering-clause-follows : goal.returns-in-Offering-clause-follows
returns-in-Offering-clause-follows g c = subst (λ (s : Step). OnOk c.offer.result (Follows (stage.Querying s) c.offer.new.self.stage)) (sym c.in-Offering.is) c.offer.ensures.follows

pub returns-in-Ending-clause-follows : goal.returns-in-Ending-clause-follows
returns-in-Ending-clause-follows g c = subst (λ (s : Step). OnOk c.end.result (Follows (stage.Querying s) c.end.new.self.stage)) (sym c.in-Ending.is) c.end.ensures.follows
