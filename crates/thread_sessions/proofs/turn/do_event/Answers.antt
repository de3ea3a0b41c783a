use Rattle.std.proofs.Common.{List, [], ◌∷◌, ◌++◌, ◌≡◌, ap, ◌∙◌, rules, sym, subst}
use Rattle.run_log.specs.declared.event.Event.{Event}
use Rattle.run_log.specs.Events.{log_tree}
use Rattle.session_run.specs.Stages.{IsSameSession}
use Rattle.turn_hall.specs.Passes.{seen_by}
use Rattle.thread_sessions.specs.Runners.{HasSeen, IsAt}
use Rattle.thread_sessions.proofs.AlongLemmas.{added_with, turn_seen}
use Rattle.thread_sessions.proofs.turn.do_event.Goals as goal

pub catch_up-requires : goal.catch_up-requires
catch_up-requires g c =
    let options = g.K.HasOptions.options in
    let shows = sym c.value-kept.ensures.shows in
    subst (λ (l : List Event). HasSeen options l c.args.session.now) (λ i. (shows i).book.log)
    (turn_seen options c.args.pass.now c.args.session.now _ c.requires.stands c.turn-turn.ensures.begins c.turn-turn.ensures.own)

pub returns-in-Ok-clause-stands : goal.returns-in-Ok-clause-stands
returns-in-Ok-clause-stands g c =
    let options = g.K.HasOptions.options in
    let at : IsAt options (log_tree (seen_by c.leave.new.pass)) c.next.new.session = search rules in
    let same : IsSameSession c.args.session.now c.next.new.session = search rules in
    added_with options c.args.pass.now c.turn-turn.new.pass c.leave.new.pass c.args.session.now c.next.new.session _ _ c.leave.ensures.free c.turn-turn.ensures.kept_place c.leave.ensures.kept_place c.turn-turn.ensures.seen
    c.turn-turn.ensures.own c.turn-turn.ensures.kept_own c.leave.ensures.seen c.leave.ensures.one_more c.leave.ensures.own c.requires.stands.number (ap (λ k. k.0) same) at

pub returns-in-Ok-clause-one : goal.returns-in-Ok-clause-one
returns-in-Ok-clause-one g c =
    let more = c.leave.ensures.one_more in
    (more.0, c.leave.ensures.own more.0 (sym c.leave.ensures.seen ∙ more.1) ∙ ap (λ (l : List Event). l ++ more.0 ∷ []) c.turn-turn.ensures.kept_own)
