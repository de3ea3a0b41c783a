use Rattle.std.proofs.Common.{◌≡◌, ◌≤◌, ◌<◌, false, true, length, refl, sym, ◌∙◌}
use Rattle.std.proofs.lemmas.Bool.{leb-false, leb-true}
use Rattle.run_log.specs.Events.{log_tree}
use Rattle.turn_hall.specs.Passes.{seen_by}
use Rattle.session_run.proofs.StageLemmas.{stage_sound}
use Rattle.run_sessions.proofs.TurnLemmas.{computed_over, computed_ready}
use Rattle.thread_sessions.proofs.AlongLemmas.{computed_with}
use Rattle.thread_sessions.proofs.AsideLemmas.{computed_aside, event_aside, may_begin}
use Rattle.thread_sessions.proofs.turn.take_turn.Goals as goal

pub outside-requires : goal.outside-requires
outside-requires g c = stage_sound g.K.HasOptions.options (log_tree (seen_by c.args.pass.now)) c.args.session.now c.requires.stands.at.stands

not_more : false ≡ true → ⊥
not_more e = cc

pub returns-then-done : goal.returns-then-done
returns-then-done g c =
    let options = g.K.HasOptions.options in
    let computed = c.in_ok-outside.ensures.computed in
    let all : length c.outside.new.self.pieces ≤ c.outside.new.self.ended = leb-true (length c.outside.new.self.pieces) c.outside.new.self.ended (sym c.done.ensures ∙ c.if-done.true) in
    let over = computed_over options (log_tree (seen_by c.args.pass.now)) c.args.session.now c.outside.new.self c.requires.in_plan c.requires.stands.at.stands computed all in
    record {
      ours = c.requires.ours;
      session = λ i. (computed.number i, computed.pieces i, computed.wide i);
      stands = computed_with options c.args.pass.now c.args.session.now c.outside.new.self c.requires.in_plan computed c.requires.stands;
      begins = λ aside. may_begin c.outside.new.self.stage (computed_aside c.args.session.now c.outside.new.self computed aside);
      one = λ same. absurd (not_more same);
      none = λ same. refl;
      over = λ same. over;
    }

pub do_event-requires : goal.do_event-requires
do_event-requires g c =
    let options = g.K.HasOptions.options in
    let computed = c.in_ok-outside.ensures.computed in
    let more : c.outside.new.self.ended < length c.outside.new.self.pieces = leb-false (length c.outside.new.self.pieces) c.outside.new.self.ended (sym c.done.ensures ∙ c.if-done.false) in
    record {
      scorer = c.requires.scorer;
      ours = c.requires.ours;
      stands = computed_with options c.args.pass.now c.args.session.now c.outside.new.self c.requires.in_plan computed c.requires.stands;
      more = more;
      ready = computed_ready options (log_tree (seen_by c.args.pass.now)) c.args.session.now c.outside.new.self c.requires.stands.at.stands computed more;
    }

pub returns-clause-begins : goal.returns-clause-begins
returns-clause-begins g c = event_aside c.args.session.now c.outside.new.self c.do_event.new.session c.in_ok-outside.ensures.computed c.in_ok-do_event.ensures.follows
