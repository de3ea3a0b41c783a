use Rattle.std.proofs.Common.{ap, refl}
use Rattle.std.proofs.lemmas.Option.{slice_get_read}
use Rattle.run_sessions.proofs.PlaceLemmas.{set_other}
use Rattle.run_sessions.proofs.TurnLemmas.{turn_counts, turn_over, turn_played}
use Rattle.run_sessions.proofs.turn.take_turn.Goals as goal

pub step-requires : goal.step-requires
step-requires g c =
    let x = c.index_mut.result.now in
    let here = slice_get_read c.args.sessions.now.items _ c.args.place x refl c.requires.inside c.index_mut.ensures.value in
    let stood = c.requires.standing c.args.place x here in
    record { scorer = c.requires.scorer; stands = stood.1; worked = stood.2; in_plan = c.requires.in_plan c.args.place x here }

pub returns : goal.returns
returns g c =
    let old = c.args.book.now in
    let new = c.step.new.book in
    let sessions = c.args.sessions.now.items in
    let place = c.args.place in
    let x = c.index_mut.result.now in
    let y = c.step.new.session in
    let here = slice_get_read sessions _ place x refl c.requires.inside c.index_mut.ensures.value in
    let told = c.in_ok-more.ensures in
    let lawful = c.log_is_lawful.ensures.lawful in
    record {
      played = turn_played old new sessions place x y here c.requires.standing told.options (ap (λ k. k.0) told.session) (ap (λ k. k.1) told.session) lawful c.one_reading.ensures c.requires.in_plan (ap (λ k. k.2) told.session) c.in_ok-more.more told.turned;
      counts = turn_counts old new sessions place x y here c.requires.standing told.options (ap (λ k. k.0) told.session) (ap (λ k. k.1) told.session) lawful c.args.steps.now c.step.new.steps told.counts;
      others = λ other apart. set_other sessions place other y apart;
      over = turn_over old new sessions place x y here c.requires.standing told.options (ap (λ k. k.0) told.session) (ap (λ k. k.1) told.session) lawful c.in_ok-more.more told.turned;
    }
