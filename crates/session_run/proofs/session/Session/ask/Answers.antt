use Rattle.std.proofs.Common.{refl}
use Rattle.query_run.specs.declared.step.Step.TheVariants as step
use Rattle.session_run.specs.declared.stage.Stage.TheVariants as stage
use Rattle.session_run.specs.Stages.{at_stage}
use Rattle.run_log.specs.Events.{log_tree}
use Rattle.book_core.specs.BookView.{state_of}
use Rattle.session_run.proofs.DoesLemmas.{DoneSo, asks_within, look_does}
use Rattle.session_run.proofs.session.Session.ask.Goals as goal
use Rattle.session_run.proofs.session.Session.ask.Goals.{After-log_is_lawful-2}

pub ask-requires-clause-under : goal.ask-requires-clause-under
ask-requires-clause-under c =
    (asks_within c.args.book.now.options (log_tree c.args.book.now.log) (at_stage c.args.self.now (stage.Querying (step.Asking c.args.query c.args.n c.args.key))) c.requires.stands c.args.query c.args.n c.args.key refl).0

pub ask-requires-clause-inside : goal.ask-requires-clause-inside
ask-requires-clause-inside c =
    (asks_within c.args.book.now.options (log_tree c.args.book.now.log) (at_stage c.args.self.now (stage.Querying (step.Asking c.args.query c.args.n c.args.key))) c.requires.stands c.args.query c.args.n c.args.key refl).1

-- it has asked
asked : (c : After-log_is_lawful-2) → DoneSo c.args.book.now c.ask.new.book (at_stage c.args.self.now (stage.Querying (step.Asking c.args.query c.args.n c.args.key))) (at_stage c.args.self.now (stage.Querying c.in_ok-next.next))
asked c =
    look_does c.args.book.now c.ask.new.book c.who-who.result (at_stage c.args.self.now (stage.Querying (step.Asking c.args.query c.args.n c.args.key))) _ c.requires.stands c.who-who.ensures c.ask.ensures.options
    c.requires.worked c.args.query c.args.n c.args.key c.in_ok-next.next refl c.log_is_lawful.ensures.lawful c.log_is_lawful-2.ensures.lawful c.in_ok-next.ensures.logged c.in_ok-next.ensures.step refl

pub returns-clause-does : goal.returns-clause-does
returns-clause-does c = (asked (goal.at.returns-clause-does c).After-log_is_lawful-2).0

pub returns-clause-counts : goal.returns-clause-counts
returns-clause-counts c = (asked (goal.at.returns-clause-counts c).After-log_is_lawful-2).1

pub returns-clause-follows : goal.returns-clause-follows
returns-clause-follows c = (c.in_ok-next.next, (state_of c.args.book.now).pool, refl, c.in_ok-next.ensures.step)
