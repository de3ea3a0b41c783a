use Rattle.std.proofs.Common.{refl}
use Rattle.sql_tree.specs.Tree.{query_tree, stmt_tree}
use Rattle.session_run.specs.Stages.{at_stage}
use Rattle.session_run.proofs.DoesLemmas.{DoneSo, explain_does}
use Rattle.session_run.proofs.StageLemmas.{explained_so}
use Rattle.session_run.proofs.session.Session.start_explain.Goals as goal
use Rattle.session_run.proofs.session.Session.start_explain.Goals.{After-explain_stage}

-- it has begun
begun : (c : After-explain_stage) → DoneSo c.args.book.now c.begin.new.self c.args.self.now (at_stage c.args.self.now c.explain_stage.result)
begun c =
    let told = c.in_ok-begun.ensures in
    explain_does c.args.book.now c.begin.new.self c.who.result c.args.self.now _ c.requires.stands c.requires.worked c.requires.between c.who.ensures c.begin.ensures.options c.requires.read.0 c.requires.read.1
    (query_tree c.args.query.now) c.in_ok-begun.begun.plan c.explain_stage.result refl (stmt_tree c.args.stmt.now) c.in_ok-begun.begun.snap c.in_ok-begun.begun.marks.items c.requires.explain
    (record { read = c.requires.read.2; outcome_is = told.plan; log = told.logged; db = told.tables; versions = told.versions; marks_are = told.marks; checked = told.checked; fits = told.fits; meaning = told.meaning }) c.explain_stage.ensures

pub returns-clause-does : goal.returns-clause-does
returns-clause-does c = (begun (goal.at.returns-clause-does c).After-explain_stage).0

pub returns-clause-counts : goal.returns-clause-counts
returns-clause-counts c = (begun (goal.at.returns-clause-counts c).After-explain_stage).1

pub returns-clause-begins : goal.returns-clause-begins
returns-clause-begins c = explained_so c.in_ok-begun.begun.plan c.explain_stage.result c.explain_stage.ensures
