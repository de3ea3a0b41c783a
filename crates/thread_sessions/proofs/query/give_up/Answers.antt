use Rattle.std.proofs.Common.{◌≡◌, None, refl, sym, subst}
use Rattle.dataflow.specs.declared.basis.Basis.{Basis}
use Rattle.mal_meaning.specs.Meaning.{plan_rows}
use Rattle.query_run.specs.declared.step.Step.{Step}
use Rattle.query_run.specs.declared.step.Step.TheVariants as step
use Rattle.query_run.specs.Ready.{WithNone}
use Rattle.thread_sessions.specs.Crews.{IsCrewed}
use Rattle.thread_sessions.proofs.CrewLemmas.{crewed_moves}
use Rattle.thread_sessions.proofs.query.give_up.Goals as goal

pub end-requires-clause-crewed : goal.end-requires-clause-crewed
end-requires-clause-crewed g c =
    let k = c.requires.sound in
    let none : plan_rows k.query.plan k.query.snap.db ≡ None = subst (λ (b : Basis). plan_rows b.plan b.database ≡ None) (sym k.out.basis) c.requires.none in
    subst (λ (s : Step). IsCrewed g.K.HasOptions.options c.args.crew.tools.hall.now c.args.crew.runner c.args.crew.tools.began.value s) (sym c.overflow.ensures)
    (crewed_moves g.K.HasOptions.options c.args.crew.tools.hall.now c.args.crew.runner c.args.crew.tools.began.value (step.Open k.query) _ k.crewed (WithNone none refl refl))
