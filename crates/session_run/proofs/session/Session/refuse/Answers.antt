use Rattle.session_run.proofs.DoesLemmas.{DoneSo, refused_does}
use Rattle.session_run.proofs.StageLemmas.{told_so}
use Rattle.session_run.proofs.session.Session.refuse.Goals as goal
use Rattle.session_run.proofs.session.Session.refuse.Goals.{After-tell}

-- the text is refused
refused : (c : After-tell) → DoneSo c.args.book.now c.refuse.new.self c.args.self.now c.tell.new.self
refused c =
    refused_does c.args.book.now c.refuse.new.self c.who.result c.args.self.now c.tell.new.self c.requires.stands c.requires.worked c.requires.between c.who.ensures c.refuse.ensures.options c.requires.read.0 c.requires.read.1
    c.args.refusal c.requires.read.2 c.in_ok-refuse.ensures.logged c.tell.ensures

pub returns-clause-does : goal.returns-clause-does
returns-clause-does c = (refused (goal.at.returns-clause-does c).After-tell).0

pub returns-clause-counts : goal.returns-clause-counts
returns-clause-counts c = (refused (goal.at.returns-clause-counts c).After-tell).1

pub returns-clause-begins : goal.returns-clause-begins
returns-clause-begins c = told_so c.args.self.now c.tell.new.self _ c.tell.ensures
