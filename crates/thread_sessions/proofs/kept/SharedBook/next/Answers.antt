use Rattle.std.proofs.Common.{ap, sym, ◌∙◌, subst}
use Rattle.pool_policy.specs.declared.options.PoolOptions.{PoolOptions}
use Rattle.pool_policy.specs.Scorers.{rule_of}
use Rattle.run_log.specs.Events.{log_tree}
use Rattle.session_run.specs.Kept.{Stands}
use Rattle.session_run.specs.Works.{IsWorked}
use Rattle.thread_sessions.proofs.AlongLemmas.{own_at}
use Rattle.thread_sessions.proofs.kept.SharedBook.next.Goals as goal

pub inside-requires : goal.inside-requires
inside-requires g c =
    let options = c.args.self.now.optioned in
    let log = log_tree c.args.self.now.book.log in
    record {
      scorer = c.requires.scorer ∙ ap rule_of (sym options);
      stands = subst (λ (o : PoolOptions). Stands o log c.args.session.now) (sym options) c.requires.at.stands;
      worked = subst (λ (o : PoolOptions). IsWorked o log c.args.session.now) (sym options) c.requires.at.worked;
      more = c.requires.more;
      ready = c.requires.ready;
    }

pub returns-clause-added : goal.returns-clause-added
returns-clause-added g c =
    let d = c.in_ok-inside.ensures.does in
    (d.event, d.log, d.next.own)

pub returns-clause-at : goal.returns-clause-at
returns-clause-at g c =
    let told = c.in_ok-inside.ensures in
    let options = c.args.self.now.optioned in
    own_at c.one_reading.ensures g.K.HasOptions.options c.args.self.now.book c.inside.new.book c.args.session.now c.inside.new.self options (c.inside.ensures.options ∙ options) (ap (λ k. k.0) told.session) (ap (λ k. k.1) told.session) (ap (λ k. k.2) told.session) told.does c.requires.at
