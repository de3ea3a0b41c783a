use Rattle.std.proofs.Common.{refl, sym, subst}
use Rattle.query_run.specs.declared.step.Step.TheVariants as step
use Rattle.session_run.specs.declared.stage.Stage.TheVariants as stage
use Rattle.session_run.specs.Stages.{BeginsWith}
use Rattle.session_run.proofs.start.query_stage.Goals as goal

pub returns-in-Ok : goal.returns-in-Ok
returns-in-Ok c =
    let began = c.into_parts-snap.result in
    let next = stage.Querying (step.Begun c.new.result) in
    subst (λ parts. BeginsWith parts.0 parts.2.items parts.1 next) c.into_parts-snap.ensures
    (subst (λ outcome. BeginsWith began.0 began.2.items outcome next) (sym c.in-Ok.is)
    (c.new.result, refl, record { snap_is = c.new.ensures.snap; plan_is = c.new.ensures.plan; marks_are = c.new.ensures.marks; work = c.new.ensures.work }))
