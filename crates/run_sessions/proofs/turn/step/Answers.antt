use Rattle.std.proofs.Common.{◌≤◌, ◌<◌, length, refl, sym, ◌∙◌}
use Rattle.std.proofs.lemmas.Bool.{leb-false, leb-true}
use Rattle.session_run.proofs.StageLemmas.{computed_stands, stage_sound}
use Rattle.session_run.proofs.WorkedLemmas.{computed_lost, computed_worked}
use Rattle.run_log.specs.Events.{log_tree}
use Rattle.run_sessions.proofs.CountLemmas.{event_counts, over_counts}
use Rattle.run_sessions.proofs.TurnLemmas.{computed_over, computed_ready, done_before, in_plan_goes}
use Rattle.run_sessions.proofs.turn.step.Goals as goal

pub returns-then-done : goal.returns-then-done
returns-then-done g c =
    let book = c.args.book.now in
    let log = log_tree book.log in
    let computed = c.in_ok-outside.ensures.computed in
    let all : length c.outside.new.self.pieces ≤ c.outside.new.self.ended = leb-true (length c.outside.new.self.pieces) c.outside.new.self.ended (sym c.done.ensures ∙ c.if-done.true) in
    let over = computed_over book.options log c.args.session.now c.outside.new.self (in_plan_goes c.args.session.now c.requires.in_plan) c.requires.stands computed all in
    record {
      options = refl;
      session = λ i. (computed.number i, computed.pieces i, computed.wide i);
      turned = (
        refl,
        computed_stands book.options log c.args.session.now c.requires.stands (in_plan_goes c.args.session.now c.requires.in_plan) c.outside.new.self computed,
        computed_worked book.options log c.args.session.now c.requires.stands c.requires.worked c.outside.new.self computed,
        over,
      );
      counts = over_counts book c.args.session.now c.outside.new.self c.args.steps.now c.outside.new.steps c.in_ok-outside.ensures.counts over.between;
    }

pub outside-requires : goal.outside-requires
outside-requires g c = stage_sound c.args.book.now.options (log_tree c.args.book.now.log) c.args.session.now c.requires.stands

pub inside-requires : goal.inside-requires
inside-requires g c =
    let book = c.args.book.now in
    let log = log_tree book.log in
    let computed = c.in_ok-outside.ensures.computed in
    let more : c.outside.new.self.ended < length c.outside.new.self.pieces = leb-false (length c.outside.new.self.pieces) c.outside.new.self.ended (sym c.done.ensures ∙ c.if-done.false) in
    record {
      scorer = c.requires.scorer;
      stands = computed_stands book.options log c.args.session.now c.requires.stands (in_plan_goes c.args.session.now c.requires.in_plan) c.outside.new.self computed;
      worked = computed_worked book.options log c.args.session.now c.requires.stands c.requires.worked c.outside.new.self computed;
      more = more;
      ready = computed_ready book.options log c.args.session.now c.outside.new.self c.requires.stands computed more;
    }

pub returns-clause-turned : goal.returns-clause-turned
returns-clause-turned g c =
    let computed = c.in_ok-outside.ensures.computed in
    done_before c.args.book.now c.inside.new.book c.args.session.now c.outside.new.self c.inside.new.self computed.number computed.pieces computed.wide c.in_ok-inside.ensures.does

pub returns-clause-counts : goal.returns-clause-counts
returns-clause-counts g c =
    event_counts c.args.book.now c.inside.new.book c.args.session.now c.outside.new.self c.inside.new.self c.args.steps.now c.outside.new.steps c.inside.new.steps c.in_ok-outside.ensures.counts
    (computed_lost c.args.book.now c.args.session.now c.outside.new.self c.requires.worked c.in_ok-outside.ensures.computed) c.in_ok-outside.ensures.computed.number c.in_ok-inside.ensures.counts
