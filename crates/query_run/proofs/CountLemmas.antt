-- What a counter shows of a step.
use Rattle.std.proofs.Common.{◌≡◌, ℕ, ◌+◌, ◌≤◌, Some, None, refl, ap, sym, ◌∙◌, subst, arith}
use Rattle.std.specs.Prelude.{Result, Ok, Err, IfOk}
use Rattle.cell_core.specs.declared.memory.Memory.{Memory}
use Rattle.mal_meaning.specs.Meaning.{plan_load, plan_rows}
use Rattle.sql_definitions.specs.declared.refusal.Refusal.TheVariants.{Overflow}
use Rattle.reply_layout.specs.declared.shown.Shown.TheVariants as shown
use Rattle.store_changes.specs.Work.{lost_unless}
use Rattle.query_run.specs.declared.step.RunningQuery.{RunningQuery}
use Rattle.query_run.specs.declared.step.Step.{Step}
use Rattle.query_run.specs.declared.step.Step.TheVariants as step
use Rattle.query_run.specs.Queries.{GoesOn, value_at}
use Rattle.query_run.specs.Steps.{Counted, IsFresh, IsOpened, held, lost_at, lost_between}
use Rattle.query_run.proofs.WalkLemmas.{no_rows}

-- nothing is lost where the counter rises by what was done
pub counted_even : (from to : Step) (before after : ℕ) → after + held from ≡ before + held to → Counted from to before after
counted_even from to before after even = record { least = omega (arith, even); most = omega (arith, even) }

pub counted_all : (from : Step) (result : Result Step Memory) (before after work : ℕ) → IfOk result (λ to. held to ≡ work) → after + held from ≡ before + work → IfOk result (λ to. Counted from to before after)
counted_all from (Ok to) before after work is even = counted_even from to before after (even ∙ ap (λ n. before + n) (sym is))
counted_all from (Err e) before after work is even = tt

-- where the query overflows the load of its plan may be lost
pub overflow_counted : (q : RunningQuery) (from to : Step) (before after : ℕ) → held from ≡ q.work → ((s : Step) → lost_between from s ≡ lost_at q s) → plan_rows q.plan q.snap.db ≡ None → to ≡ step.Ending (shown.Refused Overflow) 0
    → before ≤ after + q.work → after + q.work ≤ before + plan_load q.plan q.snap.db → Counted from to before after
overflow_counted q from to before after holds loses none ends least most = subst (λ (s : Step). Counted from s before after) (sym ends) (record {
  least = omega (arith, holds, least);
  most = omega (arith, holds, lost, most);
})
  where
    lost : lost_between from (step.Ending (shown.Refused Overflow) 0) ≡ plan_load q.plan q.snap.db
    lost = loses (step.Ending (shown.Refused Overflow) 0) ∙ ap (λ rows. lost_unless rows (plan_load q.plan q.snap.db)) none

-- ## Room for results

-- the same is lost by a query of the same plan over the same tables
same_lost : (q to : RunningQuery) (s : Step) → to.snap ≡ q.snap → to.plan ≡ q.plan → lost_at to s ≡ lost_at q s
same_lost q to (step.Ending reply work) snap plan = λ i. lost_unless (plan_rows (plan i) (snap i).db) (plan_load (plan i) (snap i).db)
same_lost q to (step.Begun other) snap plan = refl
same_lost q to (step.Open other) snap plan = refl
same_lost q to (step.Asking other n key) snap plan = refl
same_lost q to (step.Found other n found parts) snap plan = refl
same_lost q to (step.Offering other n offer) snap plan = refl

-- a query that has begun has counted what it has when it has room
pub counted_opened : (q to : RunningQuery) (result : Result Step Memory) (before after : ℕ) → IsFresh q → IsOpened q to → IfOk result (λ s. Counted (step.Open to) s before after) → IfOk result (λ s. Counted (step.Begun q) s before after)
counted_opened q to (Ok s) before after fresh opened counted = record {
  least = let least = counted.least in omega (arith, none, least);
  most = let most = counted.most in let lost = same_lost q to s opened.snap_is opened.plan_is in omega (arith, none, most, lost);
}
  where
    none : q.work ≡ to.work
    none = fresh.work ∙ sym opened.work_is
counted_opened q to (Err e) before after fresh opened counted = tt

-- ## The walk

-- a walk that overflows: the counter had risen by the work so far
pub walk_overflows : (q to : RunningQuery) (n : ℕ) (end : Step) (before middle after : ℕ) → GoesOn q to → value_at to n ≡ Some None → end ≡ step.Ending (shown.Refused Overflow) 0
    → middle + q.work ≡ before + to.work → middle ≤ after → after + to.work ≤ middle + plan_load to.plan to.snap.db → Counted (step.Open q) end before after
walk_overflows q to n end before middle after goes none ends so_far later within =
    overflow_counted q (step.Open q) end before after refl (λ s. refl) ((λ i. plan_rows (sym goes.plan_is i) (sym goes.snap_is i).db) ∙ no_rows to n none) ends (omega (arith, so_far, later)) (omega (arith, so_far, load, within))
  where
    load : plan_load to.plan to.snap.db ≡ plan_load q.plan q.snap.db
    load = λ i. plan_load (goes.plan_is i) (goes.snap_is i).db
