use Rattle.std.proofs.Common.{rules, ◌≡◌, ◌++◌, ◌∷◌, [], List, ℕ, ap, sym, ◌∙◌, subst}
use Rattle.std.specs.Prelude.{slice_get}
use Rattle.dataflow.specs.declared.basis.Basis.{Basis}
use Rattle.dataflow.specs.Plans.{IsIdle, has}
use Rattle.dataflow.specs.Rules.{IsTask}
use Rattle.query_run.specs.declared.step.Step.TheVariants as step
use Rattle.query_run.specs.Queries.{IsUnderWay, has_result}
use Rattle.query_run.specs.Ready.{IsReady}
use Rattle.thread_sessions.specs.declared.crew.Gone.{Gone}
use Rattle.thread_sessions.specs.declared.crew.Gone.TheVariants.{Out}
use Rattle.thread_sessions.specs.Crews.{IsGone, basis_of, needs}
use Rattle.thread_sessions.proofs.CrewLemmas.{crew_back, crewed_sound}
use Rattle.thread_sessions.proofs.OutLemmas.{idle}
use Rattle.thread_sessions.proofs.crew.Crew.next_task.Goals as goal

pub returns-in_default-clause-idle : goal.returns-in_default-clause-idle
returns-in_default-clause-idle g c =
    let i = c.ready.invariant in
    let q = c.ready.query in
    let under : IsUnderWay q = crewed_sound g.K.HasOptions.options c.ready.self.tools.hall.now c.ready.self.runner c.ready.self.tools.began.value (step.Open q) i.crewed in
    let none : (n : ℕ) → IsReady q n → ⊥ = search rules in
    subst (λ (b : Basis). IsIdle b (has_result q) (needs q) c.ready.self.handed.items c.ready.self.finished.items) (λ j. basis_of (i.tools j).began.value.stage)
    (idle c.instrs_run.ensures (basis_of c.ready.self.tools.began.value.stage) q c.ready.self.handed.items c.ready.self.finished.items under i.out none)

pub returns-in-Out-clause-sound : goal.returns-in-Out-clause-sound
returns-in-Out-clause-sound g c =
    let i = c.ready.invariant in
    let lent : c.as_slice.result.now ≡ c.ready.self.finished.items = search rules in
    let gone = subst (λ (l : List ℕ). IsGone g.K.HasOptions.options c.ready.self.tools.hall.now c.go_on.new.runner c.ready.self.tools.began.value c.ready.query c.ready.self.handed.items c.go_on.new.handed.items l (Out c.in-Out.next c.in-Out.task)) lent (subst (λ (o : Gone). IsGone g.K.HasOptions.options c.ready.self.tools.hall.now c.go_on.new.runner c.ready.self.tools.began.value c.ready.query c.ready.self.handed.items c.go_on.new.handed.items c.as_slice.result.now o) c.in-Out.is c.in_ok-next.ensures) in
    record { does = i.does; crew = crew_back g.K.HasOptions.options c.ready.self.tools.hall.now c.go_on.new.runner c.ready.self.tools.began.value c.go_on.new.handed.items c.ready.self.finished.items c.in-Out.next gone.0 gone.1 }

pub returns-in-Out-clause-grows : goal.returns-in-Out-clause-grows
returns-in-Out-clause-grows g c m there =
    let gone = subst (λ (o : Gone). IsGone g.K.HasOptions.options c.ready.self.tools.hall.now c.go_on.new.runner c.ready.self.tools.began.value c.ready.query c.ready.self.handed.items c.go_on.new.handed.items c.as_slice.result.now o) c.in-Out.is c.in_ok-next.ensures in
    gone.2 m (c.ready.invariant.grows m there)

pub returns-in-Out-clause-some : goal.returns-in-Out-clause-some
returns-in-Out-clause-some g c =
    let i = c.ready.invariant in
    let task = c.in-Out.task in
    let lent : c.as_slice.result.now ≡ c.ready.self.finished.items = search rules in
    let gone = subst (λ (l : List ℕ). IsGone g.K.HasOptions.options c.ready.self.tools.hall.now c.go_on.new.runner c.ready.self.tools.began.value c.ready.query c.ready.self.handed.items c.go_on.new.handed.items l (Out c.in-Out.next task)) lent (subst (λ (o : Gone). IsGone g.K.HasOptions.options c.ready.self.tools.hall.now c.go_on.new.runner c.ready.self.tools.began.value c.ready.query c.ready.self.handed.items c.go_on.new.handed.items c.as_slice.result.now o) c.in-Out.is c.in_ok-next.ensures) in
    let new = gone.4 in
    let same : basis_of c.ready.self.tools.began.value.stage ≡ basis_of c.args.self.now.tools.began.value.stage = λ j. basis_of (i.tools j).began.value.stage in
    record {
      is_task = subst (λ (b : Basis). IsTask b task) same new.is_task;
      needs = new.needed;
      ready = λ instr here. new.ready instr (ap (λ (b : Basis). slice_get b.plan.instrs task.instr) same ∙ here);
      is_new = ap (λ (l : List ℕ). has l task.instr) (sym i.handed) ∙ new.new;
      is_due = new.due;
      now_out = gone.3 ∙ ap (λ (l : List ℕ). l ++ task.instr ∷ []) i.handed;
    }
