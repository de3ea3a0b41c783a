-- The facts of a query's steps, and how one step follows from another.
use Rattle.std.specs.Prelude.{◌≡◌, ℕ, ◌+◌, ◌≤◌, [], true, false, None}
use Rattle.cell_core.specs.declared.operator.Instr.{Instr}
use Rattle.mal_meaning.specs.Meaning.{plan_load, plan_rows}
use Rattle.mal_check.specs.Checked.{plan_fault}
use Rattle.mal_check.specs.Runnable.{FitsDb}
use Rattle.recycle_mark.specs.Marks.{marks_of}
use Rattle.store_changes.specs.Work.{lost_unless}
use Rattle.query_run.specs.declared.step.RunningQuery.{RunningQuery}
use Rattle.query_run.specs.declared.step.Step.{Step}
use Rattle.query_run.specs.declared.step.Step.TheVariants as step
use Rattle.query_run.specs.Queries.{BecomesOf, ComesTo, HasArgs, IsAt, IsUnderWay, Serves, has_result, was_asked}

-- a query that has begun: its plan has no fault and fits its tables
pub record IsFresh (q : RunningQuery) : Type 0 where
  pub checked : plan_fault q.plan ≡ None
  pub fits : FitsDb q.plan q.snap.db
  pub marks : q.marks.items ≡ marks_of q.plan
  pub work : q.work ≡ 0

-- it has room for its results, and none of them
pub record IsOpened (q to : RunningQuery) : Type 0 where
  pub snap_is : to.snap ≡ q.snap
  pub plan_is : to.plan ≡ q.plan
  pub under : IsUnderWay to
  pub none : (n : ℕ) → has_result to n ≡ false
  pub unasked : (n : ℕ) → was_asked to n ≡ false
  pub work_is : to.work ≡ 0

-- the facts that a step needs to compute
abbrev pub IsSoundStep : Step → Type 0
IsSoundStep (step.Begun q) = IsFresh q
IsSoundStep (step.Open q) = IsUnderWay q
IsSoundStep (step.Found q n found parts) = IsUnderWay q × ((instr : Instr) × IsAt q n instr × HasArgs q instr × Serves q n instr found parts.items)
IsSoundStep _ = Unit {0}

-- the step to which it comes, where the query goes through its plan in order; a step that has its event stays as it is
abbrev pub Computes : Step → Step → Type 0
Computes (step.Begun q) to = (open_ : RunningQuery) × IsOpened q open_ × ComesTo open_ to
Computes (step.Open q) to = ComesTo q to
Computes (step.Found q n found parts) to = (instr : Instr) → IsAt q n instr → BecomesOf q n instr found parts.items to
Computes from to = to ≡ from

-- ## What a counter shows

-- the work that is done and not yet counted by an event
abbrev pub held : Step → ℕ
held (step.Begun q) = q.work
held (step.Open q) = q.work
held (step.Asking q n key) = q.work
held (step.Found q n found parts) = q.work
held (step.Offering q n offer) = q.work + offer.done
held (step.Ending reply work) = work

-- the work that a query may lose at its end: the load of its plan, where the plan overflows
abbrev pub lost_at : RunningQuery → Step → ℕ
lost_at q (step.Ending reply work) = lost_unless (plan_rows q.plan q.snap.db) (plan_load q.plan q.snap.db)
lost_at q _ = 0

abbrev pub lost_between : Step → Step → ℕ
lost_between (step.Begun q) to = lost_at q to
lost_between (step.Open q) to = lost_at q to
lost_between (step.Found q n found parts) to = lost_at q to
lost_between from to = 0

-- as one step comes to another, a counter rises by the work that is done, and by no more beyond it than what is lost
pub record Counted (from to : Step) (before after : ℕ) : Type 0 where
  pub least : before + held to ≤ after + held from
  pub most : after + held from ≤ (before + held to) + lost_between from to
