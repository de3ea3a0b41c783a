use Rattle.std.proofs.Common.{rules, ◌≡◌, ◌<◌, ◌++◌, ◌∷◌, [], List, ℕ, Some, length, false, true, refl, ap, sym, ◌∙◌, subst}
use Rattle.std.specs.Prelude.{slice_get}
use Rattle.std.proofs.lemmas.Option.{same_Some, slice_get_read, slice_get_within}
use Rattle.cell_core.specs.declared.operator.Instr.{Instr}
use Rattle.query_run.specs.declared.step.Step.TheVariants as step
use Rattle.query_run.specs.Queries.{IsUnderWay}
use Rattle.thread_sessions.specs.Crews.{IsOut, basis_of, is_bind}
use Rattle.thread_sessions.proofs.CrewLemmas.{bind_is, crewed_sound}
use Rattle.thread_sessions.proofs.OutLemmas.{new_task, now_keeps, out_gained, out_handed}
use Rattle.thread_sessions.proofs.crew.Tools.compute.Goals as goal
use Rattle.thread_sessions.proofs.crew.Tools.compute.Goals.{After-is_bind}

-- it looks at the instruction
same : (g : _) (c : After-is_bind g) → c.requires.args.0 ≡ c.index-as_slice-n.result
same g c =
    let q = c.args.query in
    let a = c.requires.args in
    let instr = c.index-as_slice-n.result in
    let lent : c.as_slice.result.now ≡ q.plan.instrs = search rules in
    let low = subst (λ (l : List Instr). c.args.n < length l) (sym lent) (slice_get_within q.plan.instrs c.args.n a.0 a.1) in
    let here : slice_get q.plan.instrs c.args.n ≡ Some instr =
    subst (λ (l : List Instr). slice_get l c.args.n ≡ Some instr) lent (slice_get_read c.as_slice.result.now (length c.as_slice.result.now) c.args.n instr refl low c.index-as_slice-n.is) in
    same_Some a.0 instr (sym a.1 ∙ here)

pub bound-requires-clause-bind : goal.bound-requires-clause-bind
bound-requires-clause-bind g c =
    let at = (goal.at.bound-requires-clause-bind g c).After-is_bind in
    let a = c.requires.args in
    (a.0, a.1, bind_is a.0.op (ap (λ (i : Instr). is_bind i.op) (same g at ∙ c.index-as_slice-n.is) ∙ sym c.is_bind.ensures ∙ c.if-is_bind.true), a.2)

pub returns-then-is_bind : goal.returns-then-is_bind
returns-then-is_bind g c =
    let q = c.args.query in
    let to = c.in_ok-query.query in
    let a = c.requires.args in
    let under : IsUnderWay q = crewed_sound g.K.HasOptions.options c.args.self.now.hall.now c.args.runner.now c.args.self.now.began.value (step.Open q) c.requires.crewed in
    let now = c.in_ok-query.ensures.gained in (
      c.in_ok-query.ensures.crewed,
      out_gained (basis_of c.args.self.now.began.value.stage) q to c.args.n a.0 c.args.handed.now.items c.args.finished.now under a.1 now (λ m is. is) c.requires.new c.requires.out,
      now_keeps q to c.args.n a.0 under a.1 now,
      refl,
    )

plain : (g : _) (c : After-is_bind g) → c.is_bind.result ≡ false → is_bind c.requires.args.0.op ≡ false
plain g c not = ap (λ (i : Instr). is_bind i.op) (same g c ∙ c.index-as_slice-n.is) ∙ sym c.is_bind.ensures ∙ not

pub task_of-requires-clause-args : goal.task_of-requires-clause-args
task_of-requires-clause-args g c = let a = c.requires.args in (a.0, a.1, plain g (goal.at.task_of-requires-clause-args g c).After-is_bind c.if-is_bind.false, a.2)

pub returns : goal.returns
returns g c =
    let q = c.args.query in
    let a = c.requires.args in
    let handed = c.args.handed.now.items in
    let finished = c.args.finished.now in
    let number = c.in_ok-task.ensures.number in
    let pushed : c.push.new.self.items ≡ handed ++ c.args.n ∷ [] = search rules in (
      c.requires.crewed,
      subst (λ (l : List ℕ). IsOut (basis_of c.args.self.now.began.value.stage) q l finished (λ m. ⊥)) (sym pushed) (out_handed (basis_of c.args.self.now.began.value.stage) q c.args.n a.0 handed finished a.1 a.2 c.requires.asked c.requires.open c.requires.out),
      (λ m there. there),
      pushed ∙ ap (λ k. handed ++ k ∷ []) (sym number),
      new_task (basis_of c.args.self.now.began.value.stage) q c.args.n a.0 handed finished c.in_ok-task.task c.requires.out a.1 (plain g (goal.at.returns g c).After-is_bind c.if-is_bind.false) a.2 c.requires.open c.requires.new number c.in_ok-task.ensures.task,
    )
