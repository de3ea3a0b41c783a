use Rattle.std.proofs.Common.{ℕ, List, length, map, sym, subst}
use Rattle.std.specs.List.{AllByRecursion}
use Rattle.std.specs.declared.vec.Vec.{Vec}
use Rattle.std.specs.declared.alloc.Global.{Global}
use Rattle.std.proofs.lemmas.Result.{IfOk-weaker}
use Rattle.run_log.specs.declared.event.Event.{Event}
use Rattle.run_log.specs.Events.{log_tree}
use Rattle.run_sessions.specs.Tables.{scripts_of}
use Rattle.run_sessions.proofs.SumLemmas.{IsOfOne}
use Rattle.run_sessions.proofs.TotalLemmas.{both_ok}
use Rattle.thread_sessions.specs.Runs.{IsRunOut, order_for}
use Rattle.thread_sessions.proofs.PlayLemmas.{AreAt, all_at, all_stand, events_of, run_out, texts_in, totals_in}
use Rattle.thread_sessions.proofs.end.end_run.Goals as goal

pub finish_run-requires : goal.finish_run-requires
finish_run-requires c =
    let book = c.args.book in
    let sessions = c.args.sessions.items in
    record {
      standing = all_stand book.options (log_tree book.log) sessions (all_at book.options book.log sessions c.log_is_lawful.ensures.lawful c.requires.seen);
      over = c.requires.over;
      sessions = events_of (length sessions) book.log c.requires.none;
    }

pub returns : goal.returns
returns c =
    let book = c.args.book in
    let options = book.options in
    let sessions = c.args.sessions.items in
    let told = c.finish_run.ensures in
    let at : AreAt options (log_tree book.log) sessions = all_at options book.log sessions c.log_is_lawful.ensures.lawful c.requires.seen in
    let all : AllByRecursion (IsOfOne (length sessions)) (log_tree book.log) = events_of (length sessions) book.log c.requires.none in
    record {
      log = told.log;
      played = λ workers set. IfOk-weaker c.finish_run.result _ _
          (λ run log. subst (λ (events : List Event). IsRunOut (order_for workers) options (scripts_of sessions) (log_tree events)) (sym log) (run_out workers options (log_tree book.log) sessions at set all c.requires.over)) told.log;
      sessions = IfOk-weaker c.finish_run.result _ _ (λ run log. subst (λ (events : List Event). AllByRecursion (IsOfOne (length sessions)) (log_tree events)) (sym log) all) told.log;
      sound = told.sound;
      texts = both_ok c.finish_run.result _ _ _ (λ run log texts. texts_in book.log run.log.items log (scripts_of sessions) (map (λ (text : Vec ℕ Global). text.items) run.texts.items) texts) told.log told.texts;
      totals = both_ok c.finish_run.result _ _ _ (λ run log totals. totals_in book.log run.log.items log options run.totals totals) told.log told.totals;
    }
