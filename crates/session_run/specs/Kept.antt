-- What a session knows of the log.
use Rattle.std.specs.Prelude.{◌≡◌, ℕ, ◌+◌, ◌≤◌, ◌<◌, List, [], ◌++◌, length, take, Bool, true, false, if◌then◌else◌, Option, Some, None, Result, Ok, Err, slice_get}
use Rattle.cell_core.specs.declared.operator.Instr.{Instr}
use Rattle.mal_meaning.specs.declared.plan.Plan.{Plan}
use Rattle.mal_meaning.specs.Meaning.{plan_rows, plan_values}
use Rattle.mal_check.specs.Checked.{plan_fault}
use Rattle.mal_print.specs.Canon.{plan_text}
use Rattle.sql_tree.specs.declared.tree.Stmt.{Stmt}
use Rattle.sql_tree.specs.Tree.{stmt_tree}
use Rattle.sql_definitions.specs.declared.refusal.Refusal.{Refusal}
use Rattle.sql_grammar.specs.Formed.{IsFormed}
use Rattle.read_laws.specs.Answered.{Reads}
use Rattle.pool_policy.specs.declared.entry.Who.{Who}
use Rattle.pool_policy.specs.declared.options.PoolOptions.{PoolOptions}
use Rattle.pool_policy.specs.Keeps.{Face}
use Rattle.run_log.specs.Events.{EventTree, Ends}
use Rattle.run_log.specs.Fold.{LogState, run_of}
use Rattle.reply_layout.specs.declared.shown.Shown.{Shown}
use Rattle.reply_layout.specs.declared.shown.Shown.TheVariants as shown
use Rattle.reply_layout.specs.Doings.{Beginning, code_of, shown_rows}
use Rattle.reply_layout.specs.Layout.{reply_text}
use Rattle.answer_text.specs.Log.{Said, doing_over, shown_over, statement_place}
use Rattle.answer_text.specs.Layout.{replies_text}
use Rattle.book_core.specs.Versions.{HasVersions}
use Rattle.query_keys.specs.Keys.{AreIdsOf}
use Rattle.query_run.specs.declared.step.RunningQuery.{RunningQuery}
use Rattle.query_run.specs.declared.step.Step.{Step}
use Rattle.query_run.specs.declared.step.Step.TheVariants as step
use Rattle.query_run.specs.Queries.{AsksFor, HasArgs, HasBefore, HasMark, IsAt, IsOffered, IsUnderWay, Serves, has_result, id_at, was_asked}
use Rattle.query_run.specs.Steps.{IsFresh}
use Rattle.session_run.specs.declared.session.Session.{Session}
use Rattle.session_run.specs.declared.stage.Stage.{Stage}
use Rattle.session_run.specs.declared.stage.Stage.TheVariants as stage
use Rattle.session_run.specs.Progress.{Asked, Got, Has, Progress, Unasked, progress_of}
use Rattle.read_laws.specs.Readings.{AreReadings}
use Rattle.session_run.specs.Turns.{AsReady, InPlan, IsLaterAct, Order, state_before}

-- ## Queries

-- a query knows the tables over which it began, and its ids are worth its results
pub record Knows (seen : LogState) (given : List Face) (plan : Plan) (q : RunningQuery) : Type 0 where
  pub under : IsUnderWay q
  pub plan_is : q.plan ≡ plan
  pub db : q.snap.db ≡ seen.db
  pub versions : HasVersions seen.versions q.snap
  pub ids : AreIdsOf given q.ids.items (plan_values seen.db plan.instrs)

-- a query that has begun knows them too
pub record Began (seen : LogState) (plan : Plan) (q : RunningQuery) : Type 0 where
  pub fresh : IsFresh q
  pub plan_is : q.plan ≡ plan
  pub db : q.snap.db ≡ seen.db
  pub versions : HasVersions seen.versions q.snap

-- the log has a result as the query has it: whether it is marked, whether it is there, its id, and whether the pool was asked for it
abbrev pub IsNoted : Got → Bool → Bool → ℕ → Bool → Type 0
IsNoted got false there id asked = got ≡ Unasked
IsNoted got true true id asked = got ≡ Has id
IsNoted got true false id true = (at : ℕ) × (got ≡ Asked at)
IsNoted got true false id false = got ≡ Unasked

-- the log has each result as the query has it
abbrev pub AreNoted : (ℕ → Got) → RunningQuery → Type 0
AreNoted results q = (n : ℕ) (mark : Bool) → HasMark q n mark → IsNoted (results n) mark (has_result q n) (id_at q n) (was_asked q n)

-- in the order of the plan also: all results before an instruction are there
abbrev pub IsInTurn : Order → RunningQuery → ℕ → Type 0
IsInTurn InPlan q n = HasBefore q n
IsInTurn AsReady q n = Unit {0}

-- in the order of the plan also: no other result was asked for in vain
abbrev pub OwesNone : Order → RunningQuery → (ℕ → Type 0) → Type 0
OwesNone InPlan q but = (n : ℕ) → has_result q n ≡ false → (but n → ⊥) → was_asked q n ≡ false
OwesNone AsReady q but = Unit {0}

-- the step of a query that has these results by its events
abbrev pub IsStep : Order → LogState → List Face → Plan → (ℕ → Got) → Step → Type 0
IsStep order seen given plan results (step.Begun q) = Began seen plan q × ((n : ℕ) → results n ≡ Unasked)
IsStep order seen given plan results (step.Open q) = Knows seen given plan q × AreNoted results q × OwesNone order q (λ m. ⊥)
IsStep order seen given plan results (step.Asking q n key) = Knows seen given plan q × AreNoted results q × OwesNone order q (λ m. ⊥) × AsksFor q n key × (was_asked q n ≡ false) × IsInTurn order q n
IsStep order seen given plan results (step.Found q n found parts) = Knows seen given plan q × AreNoted results q × OwesNone order q (λ m. m ≡ n)
    × (was_asked q n ≡ true) × IsInTurn order q n × ((instr : Instr) × IsAt q n instr × HasArgs q instr × Serves q n instr found parts.items)
IsStep order seen given plan results (step.Offering q n offer) = Knows seen given plan q × AreNoted results q × OwesNone order q (λ m. m ≡ n) × (was_asked q n ≡ true) × IsInTurn order q n
    × ((instr : Instr) × IsAt q n instr × IsOffered q n instr offer)
IsStep order seen given plan results (step.Ending reply work) = ⊥

-- ## Statements that have begun

-- it ends with this reply, whatever other sessions do
pub record EndsWith (order : Order) (seen : LogState) (results : ℕ → Got) (said : Said) (reply : Shown) : Type 0 where
  pub act : (s : LogState) (who : Who) → IsLaterAct order s who seen results (doing_over seen.db said) (Ends (code_of reply))
  pub shows : reply ≡ shown_over seen.db said

-- its plan is run
pub record IsRun (order : Order) (seen : LogState) (given : List Face) (results : ℕ → Got) (said : Said) (at : Step) : Type 0 where
  pub plan : Plan
  pub does : doing_over seen.db said ≡ Beginning (Some plan) (shown_rows (plan_rows plan seen.db))
  pub step : IsStep order seen given plan results at

-- it shows a plan
pub record IsExplained (seen : LogState) (said : Said) (plan : Plan) : Type 0 where
  pub checked : plan_fault plan ≡ None
  pub does : doing_over seen.db said ≡ Beginning None (shown.Mal (plan_text plan))

abbrev pub IsUnder : Order → LogState → List Face → (ℕ → Got) → Said → Stage → Type 0
IsUnder order seen given results said (stage.Querying (step.Ending reply work)) = EndsWith order seen results said reply
IsUnder order seen given results said (stage.Querying at) = IsRun order seen given results said at
IsUnder order seen given results said (stage.Explaining plan) = IsExplained seen said plan
IsUnder order seen given results said _ = ⊥

-- the order in which a session goes through its plans
abbrev pub order_of : Session → Order
order_of x = if x.wide then AsReady else InPlan

-- the session's next statement has begun at a place of the log
pub record HasBegun (options : PoolOptions) (log : List EventTree) (x : Session) (p : Progress) : Type 0 where
  pub at : ℕ
  pub begun : p.begun ≡ Some at
  pub first : 1 ≤ at
  pub within : at ≤ length log
  pub place : statement_place x.number (x.ended + 1) log ≡ at
  pub piece : List ℕ
  pub here : slice_get x.pieces x.ended ≡ Some piece
  pub said : Said
  pub read : Reads piece said
  pub under : IsUnder (order_of x) (state_before options log at) (run_of options log).given p.results said x.stage

-- ## Sessions

-- the number of statements of the session that have a place in the log
abbrev pub opened : Progress → Option ℕ → ℕ
opened p None = p.ended
opened p (Some at) = p.ended + 1

-- the text of the statement after this many has this reading
abbrev pub HasRead : List (List ℕ) → ℕ → Result Stmt Refusal → Type 0
HasRead pieces ended (Ok statement) = (piece : List ℕ) × (slice_get pieces ended ≡ Some piece) × Reads piece (Ok (stmt_tree statement)) × IsFormed (stmt_tree statement)
HasRead pieces ended (Err refusal) = (piece : List ℕ) × (slice_get pieces ended ≡ Some piece) × Reads piece (Err refusal)

-- the facts of its stage
abbrev pub IsStage : PoolOptions → List EventTree → Session → Progress → Stage → Type 0
IsStage options log x p stage.Between = p.begun ≡ None
IsStage options log x p (stage.Reading read) = (p.begun ≡ None) × HasRead x.pieces x.ended read
IsStage options log x p (stage.Telling reply) = (p.begun ≡ None) × (1 ≤ x.ended)
IsStage options log x p _ = HasBegun options log x p

-- the text of the reply that isn't written yet
abbrev pub untold : ℕ → Stage → List ℕ
untold k (stage.Telling reply) = reply_text k reply
untold k _ = []

-- a session agrees with its events in the log: as many of its statements have ended, with these replies, and its stage is that of the next one
pub record Stands (options : PoolOptions) (log : List EventTree) (x : Session) : Type 0 where
  pub low : 1 ≤ x.number
  pub high : x.number ≤ 16
  pub short : length x.pieces ≤ 256
  pub ended : (progress_of x.number log).ended ≡ x.ended
  pub within : x.ended ≤ length x.pieces
  pub readings : List Said
  pub read : AreReadings (take x.ended x.pieces) readings
  pub text : x.text.items ++ untold x.ended x.stage ≡ replies_text log x.number readings
  pub placed : (k : ℕ) → 1 ≤ k → k ≤ opened (progress_of x.number log) (progress_of x.number log).begun → statement_place x.number k log ≤ length log
  pub open_ : (k : ℕ) → opened (progress_of x.number log) (progress_of x.number log).begun < k → statement_place x.number k log ≡ length log + 1
  pub stage : IsStage options log x (progress_of x.number log) x.stage
