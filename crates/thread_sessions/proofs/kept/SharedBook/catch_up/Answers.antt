use Rattle.std.proofs.Common.{subst}
use Rattle.pool_policy.specs.declared.options.PoolOptions.{PoolOptions}
use Rattle.run_log.specs.Events.{log_tree}
use Rattle.book_core.specs.Lawful.{IsLawful}
use Rattle.thread_sessions.proofs.AlongLemmas.{seen_at}
use Rattle.thread_sessions.proofs.kept.SharedBook.catch_up.Goals as goal

pub returns : goal.returns
returns g c =
    let log = c.args.self.now.book.log in
    seen_at g.K.HasOptions.options log c.args.session.now (subst (λ (o : PoolOptions). IsLawful o (log_tree log)) c.args.self.now.optioned c.log_is_lawful.ensures.lawful) c.requires
