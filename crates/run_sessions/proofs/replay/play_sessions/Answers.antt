use Rattle.std.proofs.Common.{ℕ, ◌≤◌, List, length, map, ap, sym, ◌∙◌, subst}
use Rattle.std.specs.List.{AllByRecursion}
use Rattle.std.specs.declared.vec.Vec.{Vec}
use Rattle.std.specs.declared.alloc.Global.{Global}
use Rattle.std.proofs.lemmas.List.{length-map}
use Rattle.std.proofs.lemmas.Result.{IfOk-weaker}
use Rattle.pool_policy.specs.declared.options.PoolOptions.{PoolOptions}
use Rattle.pool_policy.specs.Scorers.{rule_of}
use Rattle.run_log.specs.Events.{EventTree, log_tree}
use Rattle.book_core.specs.BookView.{BookView}
use Rattle.pool_sound.specs.Sound.{IsSoundAlong}
use Rattle.session_run.specs.declared.session.Session.{Session}
use Rattle.run_sessions.specs.Tables.{AreStanding}
use Rattle.run_sessions.proofs.TotalLemmas.{ComesTo, both_ok, run_comes, run_counts, run_follows, run_of_sessions, run_texts, run_totals_are}
use Rattle.run_sessions.proofs.replay.play_sessions.Goals as goal

pub take_turns-requires : goal.take_turns-requires
take_turns-requires g c =
    let book = c.in_ok-book.book in
    let sessions = c.in_ok-sessions.sessions.items in
    let start = c.in_ok-book.ensures in
    let made = c.in_ok-sessions.ensures in
    record {
      scorer = c.requires.scorer ∙ ap (λ (b : BookView). rule_of b.options) (sym start);
      turns = subst (λ n. AllByRecursion (λ (turn : ℕ). (1 ≤ turn) × (turn ≤ n)) c.args.turns.now) (ap length (sym made.scripts) ∙ length-map sessions (λ (z : Session). z.pieces)) c.requires.turns;
      standing = subst (λ (log : List EventTree). AreStanding book.options log sessions) (ap (λ (b : BookView). log_tree b.log) (sym start)) (made.standing book.options);
      in_plan = made.in_plan;
    }

pub run_all-requires : goal.run_all-requires
run_all-requires g c =
    let start = c.in_ok-book.ensures in
    let played = c.in_ok-take_turns.ensures.played in
    record {
      scorer = c.requires.scorer ∙ ap (λ (b : BookView). rule_of b.options) (sym start) ∙ ap rule_of (sym played.options);
      standing = played.standing;
      in_plan = played.in_plan;
    }

pub finish_run-requires : goal.finish_run-requires
finish_run-requires g c =
    let ended = c.in_ok-run_all.ensures.ended in
    let is =
    run_comes c.in_ok-book.book c.take_turns.new.book c.run_all.new.book c.in_ok-sessions.sessions.items c.take_turns.new.sessions.items c.run_all.new.sessions.items c.args.options c.args.scripts.items c.args.turns.now
    c.in_ok-book.ensures c.in_ok-sessions.ensures.scripts c.in_ok-take_turns.ensures.played c.in_ok-run_all.ensures.ended c.args.steps.now c.take_turns.new.steps c.run_all.new.steps
    c.in_ok-sessions.ensures.done c.in_ok-take_turns.ensures.counts c.in_ok-run_all.ensures.counts in
    record { standing = ended.played.standing; over = ended.over; sessions = is.of_sessions }

pub returns : goal.returns
returns g c =
    let options = c.args.options in
    let scripts = c.args.scripts.items in
    let turns = c.args.turns.now in
    let book = c.run_all.new.book in
    let sessions = c.run_all.new.sessions.items in
    let from = c.args.steps.now in
    let to = c.run_all.new.steps in
    let is : ComesTo options scripts turns book sessions from to =
    run_comes c.in_ok-book.book c.take_turns.new.book c.run_all.new.book c.in_ok-sessions.sessions.items c.take_turns.new.sessions.items c.run_all.new.sessions.items c.args.options c.args.scripts.items c.args.turns.now
    c.in_ok-book.ensures c.in_ok-sessions.ensures.scripts c.in_ok-take_turns.ensures.played c.in_ok-run_all.ensures.ended c.args.steps.now c.take_turns.new.steps c.run_all.new.steps
    c.in_ok-sessions.ensures.done c.in_ok-take_turns.ensures.counts c.in_ok-run_all.ensures.counts in
    let told = c.finish_run.ensures in
    let result = c.finish_run.result in
    record {
      scheduled = IfOk-weaker result _ _ (λ run log. run_follows options scripts turns book sessions from to is run.log.items log) told.log;
      sessions = IfOk-weaker result _ _ (λ run log. run_of_sessions options scripts turns book sessions from to is run.log.items log) told.log;
      sound = IfOk-weaker result _ _ (λ run. subst (λ (o : PoolOptions). IsSoundAlong o (log_tree run.log.items)) is.options_are) told.sound;
      texts = both_ok result _ _ _ (λ run log texts. run_texts options scripts turns book sessions from to is run.log.items log (map (λ (text : Vec ℕ Global). text.items) run.texts.items) texts) told.log told.texts;
      totals = both_ok result _ _ _ (λ run log totals. run_totals_are options scripts turns book sessions from to is run.log.items log run.totals totals) told.log told.totals;
      counted = both_ok result _ _ _ (λ run log totals. run_counts options scripts turns book sessions from to is run.log.items log run.totals totals) told.log told.totals;
    }
