use Rattle.std.proofs.Common.{rules, ◌≡◌, ◌+◌, refl, ap, sym, subst, ◌∙◌}
use Rattle.query_run.specs.declared.step.Step.TheVariants as step
use Rattle.session_run.specs.declared.stage.Stage.TheVariants as stage
use Rattle.session_run.specs.declared.session.Session.{Session}
use Rattle.session_run.specs.Stages.{MayBegin, at_stage}
use Rattle.session_run.proofs.OwnLemmas.{replied}
use Rattle.session_run.proofs.DoesLemmas.{DoneSo, end_does, end_open}
use Rattle.session_run.proofs.session.Session.end.Goals as goal
use Rattle.session_run.proofs.session.Session.end.Goals.{After-tell}

pub end-requires-clause-open : goal.end-requires-clause-open
end-requires-clause-open c =
    end_open c.args.book.now c.args.book.now c.who-who.result (at_stage c.args.self.now (stage.Querying (step.Ending c.args.shown c.args.work))) c.args.self.now c.requires.stands c.who-who.ensures refl
    c.args.shown c.args.work refl

-- its query has ended
ended : (c : After-tell) → DoneSo c.args.book.now c.end.new.self (at_stage c.args.self.now (stage.Querying (step.Ending c.args.shown c.args.work))) c.tell.new.self
ended c =
    let sum : c.in_ok-self.field-0 ≡ c.args.self.now.work + c.args.work = search rules in
    end_does c.args.book.now c.end.new.self c.who-who.result (at_stage c.args.self.now (stage.Querying (step.Ending c.args.shown c.args.work))) c.tell.new.self c.requires.stands c.who-who.ensures c.end.ensures.options
    c.requires.worked c.args.shown c.args.work c.code_of.result refl c.code_of.ensures c.end.ensures.logged (c.tell.ensures ∙ ap (λ work. replied c.args.self.now work c.args.shown) sum)

pub returns-clause-does : goal.returns-clause-does
returns-clause-does c = (ended (goal.at.returns-clause-does c).After-tell).0

pub returns-clause-counts : goal.returns-clause-counts
returns-clause-counts c = (ended (goal.at.returns-clause-counts c).After-tell).1

pub returns-clause-follows : goal.returns-clause-follows
returns-clause-follows c = subst (λ (z : Session). MayBegin z.stage) (sym c.tell.ensures) tt
