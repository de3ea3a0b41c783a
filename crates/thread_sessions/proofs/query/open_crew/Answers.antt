use Rattle.std.proofs.Common.{◌≡◌, [], List, ℕ, ap, sym, ◌∙◌, subst}
use Rattle.query_run.specs.declared.step.Step.TheVariants as step
use Rattle.session_run.specs.declared.session.Session.{Session}
use Rattle.session_run.specs.declared.stage.Stage.TheVariants as stage
use Rattle.session_run.specs.Stages.{at_stage}
use Rattle.thread_sessions.specs.Crews.{IsCrew, with_stage}
use Rattle.thread_sessions.proofs.CrewLemmas.{crew_opened}
use Rattle.thread_sessions.proofs.query.open_crew.Goals as goal

pub returns-clause-sound : goal.returns-clause-sound
returns-clause-sound g c =
    let options = g.K.HasOptions.options in
    let hall = c.args.hall.now in
    let q = c.in-Querying-Begun.query in
    let to = c.in_ok-query-in-Querying-Begun.query in
    let after = with_stage c.args.runner (stage.Querying (step.Open to)) in
    let begun : c.args.runner.session.stage ≡ stage.Querying (step.Begun q) = sym c.replace.ensures.value ∙ c.in-Querying-Begun.is ∙ ap stage.Querying c.in-Querying-Begun.field-0-is in
    let opened : IsCrew options hall after after.session [] [] = crew_opened options hall c.args.runner q to c.requires.runner c.requires.wide begun c.in_ok-query-in-Querying-Begun.ensures in
    let finished = subst (λ (l : List ℕ). IsCrew options hall after after.session [] l) (sym c.new-2.ensures.items) opened in
    let handed = subst (λ (l : List ℕ). IsCrew options hall after after.session l c.new-2.result.items) (sym c.new.ensures.items) finished in
    let began = subst (λ (x : Session). IsCrew options hall after x c.new.result.items c.new-2.result.items) (sym c.of-began.ensures) handed in
    record { does = c.requires.does; crew = began }
