use Rattle.std.proofs.Common.{sym, subst}
use Rattle.std.specs.Prelude.{IfOk}
use Rattle.std.proofs.lemmas.Result.{IfOk-weaker}
use Rattle.query_run.specs.declared.step.Step.{Step}
use Rattle.query_run.specs.Steps.{Computes}
use Rattle.query_run.proofs.step.Step.outside.Goals as goal

pub returns-in_ok-open-in-Begun-clause-step : goal.returns-in_ok-open-in-Begun-clause-step
returns-in_ok-open-in-Begun-clause-step g c =
    subst (λ (s : Step). IfOk c.walk.result (Computes s)) (sym c.in-Begun.is)
    (IfOk-weaker c.walk.result _ _ (λ next comes. (c.in_ok-open-in-Begun.field-0, c.in_ok-open-in-Begun.ensures, comes)) c.walk.ensures.step)
