use Rattle.std.proofs.Common.{rules, ◌≡◌}
use Rattle.query_run.specs.declared.step.Step.TheVariants as step
use Rattle.session_run.specs.declared.stage.Stage.TheVariants as stage
use Rattle.thread_sessions.proofs.runner.has_begun.Goals as goal

pub returns-in-Querying-Begun-clause-yes : goal.returns-in-Querying-Begun-clause-yes
returns-in-Querying-Begun-clause-yes c begun =
    let q = c.in-Querying-Begun.field-0-0 in
    let is : c.args.session.now.stage ≡ stage.Querying (step.Begun q) = search rules in
    (q, is)
