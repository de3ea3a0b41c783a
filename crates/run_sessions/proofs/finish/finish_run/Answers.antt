use Rattle.std.proofs.Common.{ℕ, List, map, ap, sym, ◌∙◌, subst}
use Rattle.std.specs.Prelude.{sum_by}
use Rattle.std.specs.declared.vec.Vec.{Vec}
use Rattle.std.specs.declared.alloc.Global.{Global}
use Rattle.run_log.specs.declared.event.Event.{Event}
use Rattle.run_log.specs.Events.{log_tree}
use Rattle.pool_sound.specs.Sound.{IsSoundAlong}
use Rattle.pool_sound.proofs.SoundLemmas.{pools_stay_sound_holds}
use Rattle.session_run.specs.declared.session.Session.{Session}
use Rattle.run_sessions.specs.Tables.{AreTexts, scripts_of}
use Rattle.run_sessions.proofs.RunLemmas.{texts_are}
use Rattle.run_sessions.proofs.TotalLemmas.{totals_are}
use Rattle.run_sessions.proofs.finish.finish_run.Goals as goal

pub returns : goal.returns
returns c =
    let book = c.args.book in
    let log = log_tree book.log in
    let sessions = c.args.sessions.items in
    let work = c.in_ok-work.ensures ∙ ap (sum_by (λ (x : Session). x.work)) c.as_slice.ensures.value in
    record {
      log = c.finish-log.ensures.log;
      sound = subst (λ (events : List Event). IsSoundAlong book.options (log_tree events)) (sym c.finish-log.ensures.log) (pools_stay_sound_holds.sound book.options log c.log_is_lawful.ensures.lawful);
      texts = subst (λ (texts : List (Vec ℕ Global)). AreTexts log 1 (scripts_of sessions) (map (λ (text : Vec ℕ Global). text.items) texts)) (sym c.in_ok-texts.ensures) (texts_are c.one_reading.ensures book.options log sessions c.requires.standing c.requires.over);
      totals = totals_are book.options log sessions c.requires.standing c.requires.sessions c.finish-log.result.1 c.in_ok-totals.totals c.in_ok-work.work c.finish-log.ensures.totals work c.in_ok-totals.ensures;
    }
