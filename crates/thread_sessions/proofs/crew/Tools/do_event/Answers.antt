use Rattle.std.proofs.Common.{rules, ◌≡◌, sym, ◌∙◌, subst}
use Rattle.query_run.specs.declared.step.Step.{Step}
use Rattle.session_run.specs.declared.stage.Stage.{Stage}
use Rattle.session_run.specs.declared.stage.Stage.TheVariants as stage
use Rattle.session_run.specs.Stages.{Follows}
use Rattle.thread_sessions.specs.Crews.{CanDo, HasDone, IsCrewed, with_stage}
use Rattle.thread_sessions.proofs.CrewLemmas.{asks_ready, crewed_can, crewed_done, goes_on}
use Rattle.thread_sessions.proofs.crew.Tools.do_event.Goals as goal
use Rattle.thread_sessions.proofs.crew.Tools.do_event.Goals.{After-replace}

pub event-requires : goal.event-requires
event-requires g c =
    let can : CanDo g.K.HasOptions.options c.args.self.now.hall.now (with_stage c.args.runner.now (stage.Querying c.args.next)) = crewed_can g.K.HasOptions.options c.args.self.now.hall.now c.args.runner.now c.args.self.now.began.value c.args.next c.requires.crewed (asks_ready c.args.next c.requires.event) in
    let may = c.requires.does.may in
    search rules

-- the closure did it
done : (g : _) (c : After-replace g) → HasDone g.K.HasOptions.options c.args.self.now.hall.now (with_stage c.args.runner.now (stage.Querying c.args.next)) c.event.new.arg2
done g c =
    c.requires.does.does _ _ _ (crewed_can g.K.HasOptions.options c.args.self.now.hall.now c.args.runner.now c.args.self.now.began.value c.args.next c.requires.crewed (asks_ready c.args.next c.requires.event)) c.in_ok-event.ensures

pub unreachable-requires : goal.unreachable-requires
unreachable-requires g c =
    let on = goes_on c.args.next c.event.new.arg2.session.stage c.requires.event (done g (goal.at.unreachable-requires g c).After-replace).follows in
    c.in_default.not-Querying on.0 (c.replace.ensures.value ∙ on.1)

pub returns-clause-crewed : goal.returns-clause-crewed
returns-clause-crewed g c =
    let left : c.replace.new.dest ≡ stage.Between = c.replace.ensures.after in
    let crewed = crewed_done g.K.HasOptions.options c.args.self.now.hall.now c.args.runner.now c.event.new.arg2 c.args.self.now.began.value c.args.next c.in-Querying.step c.requires.crewed (done g (goal.at.returns-clause-crewed g c).After-replace) (sym c.replace.ensures.value ∙ c.in-Querying.is) in
    subst (λ (at : Stage). IsCrewed g.K.HasOptions.options c.args.self.now.hall.now (with_stage c.event.new.arg2 at) c.args.self.now.began.value c.in-Querying.step) (sym left) crewed

pub returns-clause-follows : goal.returns-clause-follows
returns-clause-follows g c = subst (Follows (stage.Querying c.args.next)) (sym c.replace.ensures.value ∙ c.in-Querying.is) (done g (goal.at.returns-clause-follows g c).After-replace).follows
