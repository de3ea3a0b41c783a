-- What a session knows of its work, and what a counter shows of it.
use Rattle.std.specs.Prelude.{◌≡◌, ℕ, ◌+◌, ◌≤◌, List, true, Some, None}
use Rattle.cell_core.specs.declared.operator.Instr.{Instr}
use Rattle.pool_policy.specs.declared.options.Admitted.{Admitted}
use Rattle.pool_policy.specs.declared.options.PoolOptions.{PoolOptions}
use Rattle.pool_policy.specs.Looks.{look_of}
use Rattle.pool_policy.specs.Pool.{PoolState}
use Rattle.recycle_pool.specs.Answers.{HandsOut, told}
use Rattle.recycle_pool.specs.declared.found.Found.{Found}
use Rattle.recycle_pool.specs.declared.found.CoverPiece.{CoverPiece}
use Rattle.run_log.specs.Events.{Admits, Ends, EventTree, log_tree}
use Rattle.reply_layout.specs.Doings.{code_of}
use Rattle.book_core.specs.BookView.{BookView, state_of}
use Rattle.query_run.specs.declared.step.RunningQuery.{RunningQuery}
use Rattle.query_run.specs.declared.step.Step.{Step}
use Rattle.query_run.specs.declared.step.Step.TheVariants as step
use Rattle.query_run.specs.Queries.{HasArgs, IsAt, key_in, was_asked}
use Rattle.query_run.specs.Steps.{held, lost_between}
use Rattle.session_run.specs.declared.session.Session.{Session}
use Rattle.session_run.specs.declared.stage.Stage.{Stage}
use Rattle.session_run.specs.declared.stage.Stage.TheVariants as stage
use Rattle.session_run.specs.Progress.{Got, Progress, progress_of}
use Rattle.session_run.specs.Work.{act_lost, act_work, plan_begun, pool_asked, run_lost, session_work, tables_begun, work_by}

-- ## What it knows

-- its plan is in the log, and it sees the tables over which it began
pub record IsPlanned (options : PoolOptions) (log : List EventTree) (p : Progress) (q : RunningQuery) : Type 0 where
  pub plan : plan_begun log p ≡ Some q.plan
  pub db : tables_begun options log p ≡ q.snap.db

-- what was found for an instruction is what its look found
abbrev pub IsLookedUp : PoolState → RunningQuery → ℕ → Found → List CoverPiece → Type 0
IsLookedUp pool q n found parts = (instr : Instr) → IsAt q n instr → (told found parts ≡ look_of pool (key_in q n instr)) × HandsOut pool.entries found parts

-- the missing results for which the pool was asked in vain, but for some, have their arguments, and are computed from these alone
abbrev pub OweLoads : PoolOptions → List EventTree → (ℕ → Got) → RunningQuery → (ℕ → Type 0) → Type 0
OweLoads options log results q but = (n : ℕ) (instr : Instr) → IsAt q n instr → was_asked q n ≡ true → (but n → ⊥)
    → HasArgs q instr × ((load pairs : ℕ) → work_by (pool_asked options log (results n)) (look_of (pool_asked options log (results n)) (key_in q n instr)) load pairs ≡ load)

-- its next event counts the work that was done
abbrev pub IsWorkedStep : PoolOptions → List EventTree → Progress → Step → Type 0
IsWorkedStep options log p (step.Begun q) = IsPlanned options log p q
IsWorkedStep options log p (step.Open q) = IsPlanned options log p q × OweLoads options log p.results q (λ m. ⊥)
IsWorkedStep options log p (step.Asking q n key) = IsPlanned options log p q × OweLoads options log p.results q (λ m. ⊥)
IsWorkedStep options log p (step.Found q n found parts) = IsPlanned options log p q × OweLoads options log p.results q (λ m. m ≡ n) × IsLookedUp (pool_asked options log (p.results n)) q n found parts.items
IsWorkedStep options log p (step.Offering q n offer) = IsPlanned options log p q × OweLoads options log p.results q (λ m. m ≡ n) × ((result : Admitted) → offer.done ≡ act_work options log p (Admits (n + 1) offer.key result))
IsWorkedStep options log p (step.Ending reply work) = work ≡ act_work options log p (Ends (code_of reply))

abbrev pub IsWorkedStage : PoolOptions → List EventTree → Progress → Stage → Type 0
IsWorkedStage options log p (stage.Querying at) = IsWorkedStep options log p at
IsWorkedStage options log p (stage.Explaining plan) = plan_begun log p ≡ None
IsWorkedStage options log p _ = Unit {0}

-- its work is what its events count
pub record IsWorked (options : PoolOptions) (log : List EventTree) (x : Session) : Type 0 where
  pub work : x.work ≡ session_work options x.number log
  pub stage : IsWorkedStage options log (progress_of x.number log) x.stage

-- ## What a counter shows

-- the work that is done and not yet counted by an event
abbrev pub held_in : Stage → ℕ
held_in (stage.Querying at) = held at
held_in _ = 0

abbrev pub done_by : Session → ℕ
done_by x = x.work + held_in x.stage

abbrev pub lost_in : Stage → Stage → ℕ
lost_in (stage.Querying from) (stage.Querying to) = lost_between from to
lost_in _ _ = 0

-- as a session computes, a counter rises by the work that is done, and by no more beyond it than what is lost
pub record CountsOutside (old new : Session) (before after : ℕ) : Type 0 where
  pub least : before + done_by new ≤ after + done_by old
  pub most : after + done_by old ≤ (before + done_by new) + lost_in old.stage new.stage

-- what was lost up to a book's last event
abbrev pub lost_of : BookView → ℕ
lost_of book = run_lost book.options (log_tree book.log)

-- as a statement begins, a counter rises by the work that the totals take in, and by no more beyond it than what a write loses
pub record CountsStart (old new : BookView) (before after : ℕ) : Type 0 where
  pub least : before + (state_of new).totals.work ≤ after + (state_of old).totals.work
  pub most : (after + (state_of old).totals.work) + lost_of old ≤ (before + (state_of new).totals.work) + lost_of new

-- as a query goes on, a counter doesn't rise: the work was done outside
pub record CountsOn (old new : BookView) (before after beyond : ℕ) : Type 0 where
  pub steps : after ≡ before
  pub totals : (state_of new).totals.work ≡ (state_of old).totals.work
  pub lost : lost_of new ≡ lost_of old + beyond

-- the work that is lost where this stage has the next event
abbrev pub lost_next : BookView → ℕ → Stage → ℕ
lost_next book session (stage.Querying (step.Ending reply work)) = act_lost book.options (log_tree book.log) (progress_of session (log_tree book.log)) (Ends (code_of reply))
lost_next book session _ = 0

abbrev pub CountsAt : BookView → BookView → ℕ → Stage → ℕ → ℕ → Type 0
CountsAt old new session stage.Between before after = CountsStart old new before after
CountsAt old new session (stage.Reading read) before after = CountsStart old new before after
CountsAt old new session at before after = CountsOn old new before after (lost_next old session at)

-- as a session does an event, which counts the work that was done
pub record CountsInside (old new : BookView) (x y : Session) (before after : ℕ) : Type 0 where
  pub done : done_by y ≡ done_by x
  pub counts : CountsAt old new x.number x.stage before after
