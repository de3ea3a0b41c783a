-- How one stage of a session follows from another.
use Rattle.std.specs.Prelude.{◌≡◌, ℕ, ◌+◌, ◌≤◌, List, [], ◌∷◌, ◌++◌, length, Bool, false, None, Result, Ok, Err}
use Rattle.mal_meaning.specs.declared.plan.Plan.{Plan}
use Rattle.sql_definitions.specs.declared.refusal.Refusal.{Refusal}
use Rattle.table_store.specs.Content.{Content}
use Rattle.query_run.specs.declared.step.RunningQuery.{RunningQuery}
use Rattle.mal_check.specs.Checked.{plan_fault}
use Rattle.mal_print.specs.Canon.{plan_text}
use Rattle.run_log.specs.declared.event.Event.{Event}
use Rattle.run_log.specs.Events.{Ends, act_tree, event_tree, log_tree}
use Rattle.reply_layout.specs.declared.shown.Shown.{Shown}
use Rattle.reply_layout.specs.declared.shown.Shown.TheVariants as shown
use Rattle.reply_layout.specs.Layout.{reply_text}
use Rattle.reply_layout.specs.Doings.{code_of}
use Rattle.answer_text.specs.Log.{shown_over, tables_met}
use Rattle.book_core.specs.BookView.{BookView}
use Rattle.query_run.specs.declared.step.Step.{Step}
use Rattle.query_run.specs.declared.step.Step.TheVariants as step
use Rattle.query_run.specs.Steps.{Computes, IsSoundStep}
use Rattle.query_run.specs.Ready.{Moves}
use Rattle.query_run.specs.Queries.{HasGained, IsLooked}
use Rattle.bat_core.specs.declared.shared.Obj.TheVariants as obj
use Rattle.pool_policy.specs.Pool.{PoolState}
use Rattle.session_run.specs.declared.session.Session.{Session}
use Rattle.session_run.specs.declared.stage.Stage.{Stage}
use Rattle.session_run.specs.declared.stage.Stage.TheVariants as stage
use Rattle.session_run.specs.Kept.{HasRead, Stands, order_of}
use Rattle.session_run.specs.Turns.{IsNext}
use Rattle.session_run.specs.Works.{IsWorked}

-- ## Stages

-- no query is under way in its plan
abbrev pub IsAside : Stage → Type 0
IsAside (stage.Querying (step.Ending reply work)) = Unit {0}
IsAside (stage.Querying at) = ⊥
IsAside at = Unit {0}

-- or it has just begun
abbrev pub MayBegin : Stage → Type 0
MayBegin (stage.Querying (step.Begun q)) = Unit {0}
MayBegin at = IsAside at

-- what stays of a session: its number, its texts and the way in which it goes through plans
abbrev pub identity_of : Session → ℕ × List (List ℕ) × Bool
identity_of x = (x.number, x.pieces, x.wide)

-- a session is the same one
abbrev pub IsSameSession : Session → Session → Type 0
IsSameSession old new = identity_of new ≡ identity_of old

-- a session in another stage
abbrev pub at_stage : Session → Stage → Session
at_stage x next = record x { stage = next }

-- ## Outside

-- the facts that a stage needs to be computed
abbrev pub IsSoundStage : Stage → Type 0
IsSoundStage (stage.Querying at) = IsSoundStep at
IsSoundStage (stage.Explaining plan) = plan_fault plan ≡ None
IsSoundStage _ = Unit {0}

-- after this many statements have ended, the text of the next one is read, if there is one
abbrev pub ReadsOn : List (List ℕ) → ℕ → Stage → Type 0
ReadsOn pieces ended stage.Between = length pieces ≤ ended
ReadsOn pieces ended (stage.Reading read) = HasRead pieces ended read
ReadsOn pieces ended _ = ⊥

-- the stage to which a session's stage comes, with the text of its replies
abbrev pub ComesTo : Session → Stage → Stage → List ℕ → Type 0
ComesTo x (stage.Querying from) next text = (to : Step) × (next ≡ stage.Querying to) × Computes from to × (text ≡ x.text.items)
ComesTo x (stage.Explaining plan) next text = (next ≡ stage.Querying (step.Ending (shown.Mal (plan_text plan)) 0)) × (text ≡ x.text.items)
ComesTo x (stage.Telling reply) next text = ReadsOn x.pieces x.ended next × (text ≡ x.text.items ++ reply_text x.ended reply)
ComesTo x stage.Between next text = ReadsOn x.pieces x.ended next × (text ≡ x.text.items)
ComesTo x (stage.Reading read) next text = (next ≡ stage.Reading read) × (text ≡ x.text.items)

-- a session computes: only its stage and its text change
pub record HasComputed (old new : Session) : Type 0 where
  pub number : new.number ≡ old.number
  pub pieces : new.pieces ≡ old.pieces
  pub ended : new.ended ≡ old.ended
  pub work : new.work ≡ old.work
  pub wide : new.wide ≡ old.wide
  pub stage : ComesTo old old.stage new.stage new.text.items

-- a query goes through its plan in order, where its step computes
abbrev pub GoesInPlan : Session → Stage → Type 0
GoesInPlan x (stage.Querying (step.Begun q)) = x.wide ≡ false
GoesInPlan x (stage.Querying (step.Open q)) = x.wide ≡ false
GoesInPlan x (stage.Querying (step.Found q n what parts)) = x.wide ≡ false
GoesInPlan x _ = Unit {0}

-- ## As results are ready

-- a session's query moves by itself: only the session's stage changes
pub record HasMoved (old new : Session) : Type 0 where
  pub from : Step
  pub to : Step
  pub was : old.stage ≡ stage.Querying from
  pub is : new ≡ at_stage old (stage.Querying to)
  pub moves : Moves from to

-- ## Inside

-- the stage has its next event
abbrev pub IsReady : Stage → Type 0
IsReady (stage.Reading read) = Unit {0}
IsReady (stage.Querying (step.Asking q n key)) = Unit {0}
IsReady (stage.Querying (step.Offering q n offer)) = Unit {0}
IsReady (stage.Querying (step.Ending reply work)) = Unit {0}
IsReady _ = ⊥

-- the stage after an event: a query that asked has its result, or what that is computed from, and one that offered has its result; after any other event no query is under way in its plan
abbrev pub Follows : Stage → Stage → Type 0
Follows (stage.Querying (step.Asking q n key)) next = (to : Step) × (pool : PoolState) × (next ≡ stage.Querying to) × IsLooked q n pool key to
Follows (stage.Querying (step.Offering q n offer)) next = (to : RunningQuery) × (id : ℕ) × (next ≡ stage.Querying (step.Open to)) × HasGained q n (obj.Bat offer.value) id q.work to
Follows from next = MayBegin next

-- one more statement has ended, with this reply
abbrev pub with_reply : Session → Shown → Session
with_reply x reply = record x { ended = x.ended + 1; stage = stage.Telling reply }

-- a session does its next event, and then agrees with the log, with the work that its events count; an End has the code of the reply
pub record HasDone (old new : BookView) (before after : Session) : Type 0 where
  pub event : Event
  pub log : new.log ≡ old.log ++ event ∷ []
  pub next : IsNext (order_of before) old.options before.pieces before.number (log_tree old.log) (event_tree event)
  pub stands : Stands new.options (log_tree new.log) after
  pub worked : IsWorked new.options (log_tree new.log) after
  pub ends : (code : ℕ) → act_tree event.act ≡ Ends code → code ≡ code_of (shown_over (tables_met (log_tree old.log) event.session event.statement) next.reading)

-- ## A query begins

-- a query by this plan over this snapshot, without room for results yet
pub record IsNew (q : RunningQuery) (snap : Content) (plan : Plan) (marks : List Bool) : Type 0 where
  pub snap_is : q.snap ≡ snap
  pub plan_is : q.plan ≡ plan
  pub marks_are : q.marks.items ≡ marks
  pub work : q.work ≡ 0

-- the stage of a query that has begun with a plan, or that is refused
abbrev pub BeginsWith : Content → List Bool → Result Plan Refusal → Stage → Type 0
BeginsWith snap marks (Ok plan) next = (q : RunningQuery) × (next ≡ stage.Querying (step.Begun q)) × IsNew q snap plan marks
BeginsWith snap marks (Err refusal) next = next ≡ stage.Querying (step.Ending (shown.Refused refusal) 0)

-- the stage of an EXPLAIN that has begun with a plan, or that is refused
abbrev pub explained : Result Plan Refusal → Stage
explained (Ok plan) = stage.Explaining plan
explained (Err refusal) = stage.Querying (step.Ending (shown.Refused refusal) 0)
