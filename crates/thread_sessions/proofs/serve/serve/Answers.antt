use Rattle.std.proofs.Common.{◌≡◌, ℕ, List, length, map, ap, sym, ◌∙◌, subst}
use Rattle.std.specs.Prelude.{nat_lt}
use Rattle.std.specs.List.{AllByRecursion}
use Rattle.std.specs.declared.vec.Vec.{Vec}
use Rattle.std.specs.declared.alloc.Global.{Global}
use Rattle.std.proofs.lemmas.List.{length-map}
use Rattle.std.proofs.lemmas.Result.{IfOk-weaker}
use Rattle.pool_policy.specs.declared.options.PoolOptions.{PoolOptions}
use Rattle.run_log.specs.declared.event.Event.{Event}
use Rattle.run_log.specs.Events.{log_tree}
use Rattle.pool_sound.specs.Sound.{IsSoundAlong}
use Rattle.session_run.specs.declared.session.Session.{Session}
use Rattle.session_run.specs.Work.{run_totals}
use Rattle.run_sessions.specs.Tables.{AreOver, AreTexts, scripts_of}
use Rattle.run_sessions.proofs.SumLemmas.{IsOfOne}
use Rattle.thread_sessions.specs.Runs.{AreSet, HasNoneBeside, HaveSeen, IsRunOut, order_for, sessions_of}
use Rattle.thread_sessions.proofs.JoinLemmas.{have_seen, none_beside}
use Rattle.thread_sessions.proofs.serve.serve.Goals as goal

pub end_run-requires : goal.end_run-requires
end_run-requires g c =
    let book = c.into_book-book.ensures in
    let hall = c.in_ok-hall.hall in
    let pass = c.join_all.new.pass in
    let sessions = c.in_ok-sessions.sessions.items in
    let joined = c.in_ok-sessions.ensures in
    let ended = c.in_ok-ended.ensures in
    record {
      seen = subst (λ (o : PoolOptions). HaveSeen o (c.into_book-book.result.log) sessions) (sym book.options)
          (subst (λ (log : List Event). HaveSeen g.K.HasOptions.options log sessions) (sym book.log)
          (have_seen hall pass (length sessions) joined.first c.close.result.book.log c.close.ensures.each g.K.HasOptions.options sessions joined.joined c.close.ensures.begins));
      none = subst (λ (log : List Event). HasNoneBeside (length sessions) log) (sym book.log) (none_beside hall pass (length sessions) joined.first c.close.result.book.log c.close.ensures.each);
      over = subst (λ (them : List Session). AreOver (length them) them) (sym joined.sessions)
          (subst (λ n. AreOver n (sessions_of c.in_ok-ended.ended.items)) (sym (length-map c.in_ok-ended.ended.items (λ r. r.session))) ended.over);
    }

pub returns : goal.returns
returns g c =
    let book = c.into_book-book.ensures in
    let sessions = c.in_ok-sessions.sessions.items in
    let scripts : scripts_of sessions ≡ c.args.scripts.items = ap scripts_of c.in_ok-sessions.ensures.sessions ∙ c.in_ok-ended.ensures.scripts ∙ c.in_ok-started.ensures.scripts in
    let many : length sessions ≡ length c.args.scripts.items = sym (length-map sessions (λ (x : Session). x.pieces)) ∙ ap length scripts in
    let told = c.end_run.ensures in
    let order = order_for c.args.workers in
    record {
      played = IfOk-weaker c.end_run.result _ _
          (λ run played. subst (λ (o : PoolOptions). IsRunOut order o c.args.scripts.items (log_tree run.log.items)) book.options (subst (λ them. IsRunOut order c.into_book-book.result.options them (log_tree run.log.items)) scripts played))
          (told.played c.args.workers (subst (AreSet (nat_lt 1 c.args.workers)) (sym c.in_ok-sessions.ensures.sessions) c.in_ok-ended.ensures.set));
      sessions = IfOk-weaker c.end_run.result _ _ (λ run all. subst (λ n. AllByRecursion (IsOfOne n) (log_tree run.log.items)) many all) told.sessions;
      sound = IfOk-weaker c.end_run.result _ _ (λ run sound. subst (λ (o : PoolOptions). IsSoundAlong o (log_tree run.log.items)) book.options sound) told.sound;
      texts = IfOk-weaker c.end_run.result _ _ (λ run texts. subst (λ them. AreTexts (log_tree run.log.items) 1 them (map (λ (text : Vec ℕ Global). text.items) run.texts.items)) scripts texts) told.texts;
      totals = IfOk-weaker c.end_run.result _ _ (λ run totals. subst (λ (o : PoolOptions). run.totals ≡ run_totals o (log_tree run.log.items)) book.options totals) told.totals;
    }
