-- A session whose query is open while workers run its instructions.
use Rattle.std.specs.Prelude.{◌≡◌, ℕ, ◌<◌, List, [], ◌∷◌, ◌++◌, length, Bool, true, false, ◌&&◌, not, Option, Some, None, slice_get, Result, OnOk}
use Rattle.std.specs.Borrow.{MutBor}
use Rattle.std.specs.Fn.{Shared}
use Rattle.cell_core.specs.declared.memory.Memory.{Memory}
use Rattle.std.specs.Option.{option_map_or}
use Rattle.cell_core.specs.declared.operator.Instr.{Instr}
use Rattle.cell_core.specs.declared.operator.Op.{Op}
use Rattle.cell_core.specs.declared.operator.Op.TheVariants.{Bind}
use Rattle.bat_core.specs.declared.shared.Obj.{Obj}
use Rattle.pool_policy.specs.declared.options.PoolOptions.{PoolOptions}
use Rattle.run_log.specs.declared.event.Event.{Event}
use Rattle.turn_hall.specs.declared.hall.Hall.{Hall}
use Rattle.turn_hall.specs.Passes.{IsPassOf}
use Rattle.dataflow.specs.declared.basis.Basis.{Basis}
use Rattle.dataflow.specs.declared.task.Task.{Task}
use Rattle.dataflow.specs.Plans.{has, has_all}
use Rattle.dataflow.specs.Rules.{IsTask}
use Rattle.query_run.specs.declared.step.RunningQuery.{RunningQuery}
use Rattle.query_run.specs.declared.step.Step.{Step}
use Rattle.query_run.specs.declared.step.Step.TheVariants as step
use Rattle.query_run.specs.Queries.{HasArgs, HasGained, has_result, was_asked}
use Rattle.session_run.specs.declared.session.Session.{Session}
use Rattle.session_run.specs.declared.stage.Stage.{Stage}
use Rattle.session_run.specs.declared.stage.Stage.TheVariants as stage
use Rattle.session_run.specs.Stages.{Follows, IsAside, IsReady, at_stage}
use Rattle.thread_sessions.specs.declared.crew.Gone.{Gone}
use Rattle.thread_sessions.specs.declared.crew.Gone.TheVariants.{On, Out}
use Rattle.thread_sessions.specs.declared.runner.Runner.{Runner}
use Rattle.thread_sessions.specs.Runners.{IsWith}

-- ## What is run

-- the plan of a query, and the tables that it sees
abbrev pub basis_in : RunningQuery → Basis
basis_in q = record { plan = q.plan; database = q.snap.db }

abbrev pub no_basis : Basis
no_basis = record { plan = record { instrs = []; out = record { cols = []; keep = None; order = []; limit = None } }; database = record { tables = [] } }

abbrev pub basis_of : Stage → Basis
basis_of (stage.Querying (step.Open q)) = basis_in q
basis_of _ = no_basis

-- whether an instruction has its result
abbrev pub valued_in : Stage → ℕ → Bool
valued_in (stage.Querying (step.Open q)) n = has_result q n
valued_in _ n = false

abbrev pub is_bind : Op → Bool
is_bind Bind = true
is_bind _ = false

-- whether an instruction needs a worker: it has no result, and is no bind
abbrev pub needs : RunningQuery → ℕ → Bool
needs q n = option_map_or (λ (instr : Instr). not (is_bind instr.op)) (slice_get q.plan.instrs n) false && not (has_result q n)

abbrev pub needed_in : Stage → ℕ → Bool
needed_in (stage.Querying (step.Open q)) n = needs q n
needed_in _ n = false

-- ## What is out

-- the results that are out: those that were handed out and aren't there, but for some; an instruction that was handed out has its arguments, and its result exactly if it is done
pub record IsOut (b : Basis) (q : RunningQuery) (handed finished : List ℕ) (but : ℕ → Type 0) : Type 0 where
  pub basis : basis_in q ≡ b
  pub out : (n : ℕ) → (but n → ⊥) → has_result q n ≡ false → was_asked q n ≡ has handed n
  pub only : (n : ℕ) → has handed n ≡ true → has_result q n ≡ true → has finished n ≡ true
  pub done : (n : ℕ) → has finished n ≡ true → has_result q n ≡ true
  pub within : (n : ℕ) → has finished n ≡ true → has handed n ≡ true
  pub ready : (n : ℕ) → has handed n ≡ true → (instr : Instr) × (slice_get q.plan.instrs n ≡ Some instr) × HasArgs q instr

-- a query with the result of an instruction, and with all that it had
abbrev pub HasNow : RunningQuery → ℕ → RunningQuery → Type 0
HasNow q n to = (result : Obj) × (id work : ℕ) × HasGained q n result id work to

-- no result is lost
abbrev pub Gains : RunningQuery → RunningQuery → Type 0
Gains q to = (n : ℕ) → has_result q n ≡ true → has_result to n ≡ true

-- the task is of an instruction that has its arguments, has no result and wasn't handed out
pub record IsNew (b : Basis) (q : RunningQuery) (handed finished : List ℕ) (task : Task) : Type 0 where
  pub is_task : IsTask b task
  pub needed : needs q task.instr ≡ true
  pub ready : (instr : Instr) → slice_get b.plan.instrs task.instr ≡ Some instr → has_all (has_result q) instr.args ≡ true
  pub new : has handed task.instr ≡ false
  pub due : has finished task.instr ≡ false

-- a query asks the pool, or offers to it
abbrev pub AsksOrOffers : Step → Type 0
AsksOrOffers (step.Asking q n key) = Unit {0}
AsksOrOffers (step.Offering q n offer) = Unit {0}
AsksOrOffers at = ⊥

-- ## The session

module _ {V : Type 0} where
  -- a session in another stage, with its pass
  abbrev pub with_stage : Runner V Event → Stage → Runner V Event
  with_stage runner next = record runner { session = at_stage runner.session next }

  -- ## Its events

  -- it may do its next event
  pub record CanDo (options : PoolOptions) (hall : Hall V Event) (runner : Runner V Event) : Type 0 where
    pub ours : IsPassOf hall runner.pass
    pub stands : IsWith options runner.pass runner.session
    pub more : runner.session.ended < length runner.session.pieces
    pub ready : IsReady runner.session.stage

  -- it did it, and agrees with all that its pass has seen then
  pub record HasDone (options : PoolOptions) (hall : Hall V Event) (old new : Runner V Event) : Type 0 where
    pub ours : IsPassOf hall new.pass
    pub stands : IsWith options new.pass new.session
    pub number : new.session.number ≡ old.session.number
    pub pieces : new.session.pieces ≡ old.session.pieces
    pub wide : new.session.wide ≡ old.session.wide
    pub follows : Follows old.session.stage new.session.stage

  -- a closure may be called for an event that may be done, and does it
  pub record DoesEvents {F : Type 0} (g : Shared F (MutBor (Runner V Event) × Unit {0}) (Result (Unit {0}) Memory × (MutBor (Runner V Event) × Unit {0}))) (options : PoolOptions) (hall : Hall V Event) (f : F) : Type 0 where
    pub may : (given : MutBor (Runner V Event)) → CanDo options hall given.now → g.pre f (given, tt)
    pub does : (given left : MutBor (Runner V Event)) (result : Result (Unit {0}) Memory) → CanDo options hall given.now → g.post f (given, tt) (result, (left, tt)) → OnOk result (HasDone options hall given.now left.now)

  -- ## Its query

  -- a session that agrees with all that its pass has seen, if its query is in this step; it is the one that began
  pub record IsCrewed (options : PoolOptions) (hall : Hall V Event) (runner : Runner V Event) (began : Session) (at : Step) : Type 0 where
    pub ours : IsPassOf hall runner.pass
    pub stands : IsWith options runner.pass (at_stage runner.session (stage.Querying at))
    pub wide : runner.session.wide ≡ true
    pub number : runner.session.number ≡ began.number
    pub pieces : runner.session.pieces ≡ began.pieces

  -- its query is open, and what is handed out is out
  pub record IsCrew (options : PoolOptions) (hall : Hall V Event) (runner : Runner V Event) (began : Session) (handed finished : List ℕ) : Type 0 where
    pub query : RunningQuery
    pub open_ : runner.session.stage ≡ stage.Querying (step.Open query)
    pub crewed : IsCrewed options hall runner began (step.Open query)
    pub out : IsOut (basis_of began.stage) query handed finished (λ n. ⊥)

  -- its query is open, what is handed out is out, and a closure does its events
  pub record IsSound {F : Type 0} (g : Shared F (MutBor (Runner V Event) × Unit {0}) (Result (Unit {0}) Memory × (MutBor (Runner V Event) × Unit {0}))) (options : PoolOptions) (hall : Hall V Event) (f : F) (runner : Runner V Event) (began : Session) (handed finished : List ℕ) : Type 0 where
    pub does : DoesEvents g options hall f
    pub crew : IsCrew options hall runner began handed finished

  -- a query after one instruction: it goes on, or the instruction is handed out
  abbrev pub IsGone : PoolOptions → Hall V Event → Runner V Event → Session → RunningQuery → List ℕ → List ℕ → List ℕ → Gone → Type 0
  IsGone options hall runner began q before handed finished (On to) =
      IsCrewed options hall runner began (step.Open to) × IsOut (basis_of began.stage) to handed finished (λ n. ⊥) × Gains q to × (handed ≡ before)
  IsGone options hall runner began q before handed finished (Out to task) =
      IsCrewed options hall runner began (step.Open to) × IsOut (basis_of began.stage) to handed finished (λ n. ⊥) × Gains q to × (handed ≡ before ++ task.instr ∷ []) × IsNew (basis_of began.stage) to before finished task

  -- the query of the session that began ends: its End is the next event
  pub record HasEnded (options : PoolOptions) (hall : Hall V Event) (began : Session) (after : Runner V Event) : Type 0 where
    pub ours : IsPassOf hall after.pass
    pub stands : IsWith options after.pass after.session
    pub wide : after.session.wide ≡ true
    pub number : after.session.number ≡ began.number
    pub pieces : after.session.pieces ≡ began.pieces
    pub aside : IsAside after.session.stage
