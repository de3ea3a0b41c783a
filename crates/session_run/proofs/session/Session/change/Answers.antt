use Rattle.std.proofs.Common.{ap, ◌∙◌}
use Rattle.session_run.specs.Stages.{with_reply}
use Rattle.session_run.proofs.DoesLemmas.{change_counts, change_does}
use Rattle.session_run.proofs.StageLemmas.{told_so}
use Rattle.session_run.proofs.session.Session.change.Goals as goal

pub returns-clause-does : goal.returns-clause-does
returns-clause-does g c =
    change_does c.args.book.now c.write.new.self c.who.result c.args.self.now c.tell.new.self c.requires.stands c.requires.worked c.requires.between c.who.ensures c.write.ensures.options c.requires.read.0 c.requires.read.1
    c.args.stmt.now c.in_ok-reply.reply c.in_ok-reply.ensures.logged (c.tell.ensures ∙ ap (with_reply c.args.self.now) c.shown_of.ensures) c.requires.read.2 c.requires.change c.in_ok-reply.ensures.reply

pub returns-clause-counts : goal.returns-clause-counts
returns-clause-counts g c =
    change_counts c.args.book.now c.write.new.self c.who.result c.args.self.now c.tell.new.self c.requires.stands c.requires.worked c.requires.between c.who.ensures c.write.ensures.options c.requires.read.0 c.requires.read.1
    c.args.stmt.now c.in_ok-reply.reply c.in_ok-reply.ensures.logged (c.tell.ensures ∙ ap (with_reply c.args.self.now) c.shown_of.ensures) c.args.steps.now c.write.new.steps c.in_ok-reply.ensures.work c.in_ok-reply.ensures.counted

pub returns-clause-begins : goal.returns-clause-begins
returns-clause-begins g c = told_so c.args.self.now c.tell.new.self _ c.tell.ensures
