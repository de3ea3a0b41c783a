use Rattle.std.proofs.Common.{subst}
use Rattle.pool_policy.specs.declared.options.PoolOptions.{PoolOptions}
use Rattle.run_log.specs.Events.{log_tree}
use Rattle.book_core.specs.Lawful.{IsLawful}
use Rattle.pool_sound.proofs.SoundLemmas.{pools_stay_sound_holds}
use Rattle.thread_sessions.proofs.kept.SharedBook.tell_law.Goals as goal

pub returns : goal.returns
returns g c =
    let log = log_tree c.args.self.now.book.log in
    let lawful = subst (λ (o : PoolOptions). IsLawful o log) c.args.self.now.optioned c.log_is_lawful.ensures.lawful in
    record { lawful = lawful; sound = pools_stay_sound_holds.sound g.K.HasOptions.options log lawful }
