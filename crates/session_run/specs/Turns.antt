-- The next event of a session, after a log.
use Rattle.std.specs.Prelude.{◌≡◌, ℕ, ◌+◌, ◌-◌, ◌≤◌, List, ◌∷◌, length, take, Bool, true, false, Option, Some, None, IsSome, slice_get}
use Rattle.std.specs.List.{AllByRecursion}
use Rattle.cell_core.specs.declared.operator.Arg.{Arg}
use Rattle.cell_core.specs.declared.operator.Arg.TheVariants.{Const, Var}
use Rattle.cell_core.specs.declared.operator.Instr.{Instr}
use Rattle.cell_core.specs.declared.operator.Value.{Value}
use Rattle.mal_meaning.specs.declared.plan.Plan.{Plan}
use Rattle.mal_meaning.specs.Meaning.{plan_rows, plan_values}
use Rattle.recycle_mark.specs.Marks.{marks_of}
use Rattle.lineage_key.specs.declared.key.Key.{Key}
use Rattle.sql_definitions.specs.Refusals.{refusal_number}
use Rattle.sql_definitions.specs.declared.refusal.Refusal.TheVariants.{Overflow}
use Rattle.read_laws.specs.Answered.{Reads}
use Rattle.pool_policy.specs.declared.entry.Who.{Who}
use Rattle.pool_policy.specs.declared.options.PoolOptions.{PoolOptions}
use Rattle.pool_policy.specs.Admits.{admit_of}
use Rattle.pool_policy.specs.Looks.{look_of}
use Rattle.pool_policy.specs.Versions.{Versions}
use Rattle.reply_layout.specs.Doings.{Doing, Beginning, code_of, shown_in}
use Rattle.run_log.specs.Events.{ActTree, Looks, Admits, Ends, EventTree, looked_of}
use Rattle.run_log.specs.Fold.{LogState, key_offer, run_of}
use Rattle.answer_text.specs.Log.{Said, acts_in, doing_over}
use Rattle.query_keys.specs.Keys.{instr_key}
use Rattle.session_run.specs.Progress.{Asked, Got, Has, Progress, Unasked, ids_before, progress_of}

-- ## A statement begins

-- the first of its acts
abbrev pub IsFirstAct : Doing Plan → ActTree → Type 0
IsFirstAct doing act = slice_get (acts_in doing) 0 ≡ Some act

-- ## A query goes on

abbrev pub overflow_code : ℕ
overflow_code = refusal_number Overflow

-- the key of an instruction's result, of a query that sees these versions and has these results
abbrev pub key_at : Versions → (ℕ → Got) → ℕ → Instr → Key
key_at versions results n instr = instr_key instr versions (ids_before results n)

-- it asks the pool for the result of an instruction, in a state
abbrev pub look_at : LogState → Versions → (ℕ → Got) → ℕ → Instr → ActTree
look_at s versions results n instr = let key = key_at versions results n instr in Looks (n + 1) key (looked_of (look_of s.pool key))

-- it offers that result
abbrev pub admit_at : LogState → Who → Versions → (ℕ → Got) → ℕ → Instr → ActTree
admit_at s who versions results n instr = let key = key_at versions results n instr in Admits (n + 1) key (admit_of who (s.at + 1) (key_offer key s) s.pool).0

-- ### In the order of the plan

-- the first instruction to which a query comes: it asks for its result, or offers its value, if there is one; or it has no value; or none is left
pub data Next : Type 0 where
  Asks : ℕ → Instr → Next
  Offers : ℕ → Instr → Option Value → Next
  Faults : Next
  Finishes : Next

-- by a marked instruction, before the rest
abbrev pub next_by : Got → ℕ → Instr → Option Value → Next → Next
next_by Unasked n instr value rest = Asks n instr
next_by (Asked at) n instr value rest = Offers n instr value
next_by (Has id) n instr value rest = rest

-- from instruction n on
abbrev pub next_from : (ℕ → Got) → ℕ → List Instr → List Bool → List (Option Value) → Next
next_from results n (instr ∷ instrs) (true ∷ marks) (value ∷ values) = next_by (results n) n instr value (next_from results (n + 1) instrs marks values)
next_from results n (instr ∷ instrs) (false ∷ marks) (Some value ∷ values) = next_from results (n + 1) instrs marks values
next_from results n (instr ∷ instrs) (false ∷ marks) (None ∷ values) = Faults
next_from results n _ _ _ = Finishes

abbrev pub act_of_next : LogState → Who → Versions → (ℕ → Got) → Next → ActTree
act_of_next s who versions results (Asks n instr) = look_at s versions results n instr
act_of_next s who versions results (Offers n instr (Some value)) = admit_at s who versions results n instr
act_of_next s who versions results (Offers n instr None) = Ends overflow_code
act_of_next s who versions results Faults = Ends overflow_code
act_of_next s who versions results Finishes = Ends 0

-- the next act, in a state, of a query that began in another and has these results
abbrev pub query_act : LogState → Who → LogState → Plan → (ℕ → Got) → ActTree
query_act s who seen plan results = act_of_next s who seen.versions results (next_from results 0 plan.instrs (marks_of plan) (plan_values seen.db plan.instrs))

-- ### As results are ready

-- the result that an argument names is there, where it is marked
abbrev pub IsKnown : Plan → (ℕ → Got) → Arg → Type 0
IsKnown plan results (Const cell) = Unit {0}
IsKnown plan results (Var m) = slice_get (marks_of plan) m ≡ Some true → (id : ℕ) × (results m ≡ Has id)

-- a query may ask for any result whose arguments are there, offer any that it asked for in vain, and end where all are there, or where one has no value
pub data MayDo (s : LogState) (who : Who) (seen : LogState) (plan : Plan) (results : ℕ → Got) (act : ActTree) : Type 0 where
  MayAsk : (n : ℕ) (instr : Instr) → slice_get plan.instrs n ≡ Some instr → slice_get (marks_of plan) n ≡ Some true → results n ≡ Unasked → AllByRecursion (IsKnown plan results) instr.args
      → act ≡ look_at s seen.versions results n instr → MayDo s who seen plan results act
  MayOffer : (n at : ℕ) (instr : Instr) (value : Value) → slice_get plan.instrs n ≡ Some instr → results n ≡ Asked at → slice_get (plan_values seen.db plan.instrs) n ≡ Some (Some value)
      → act ≡ admit_at s who seen.versions results n instr → MayDo s who seen plan results act
  MayOverflow : plan_rows plan seen.db ≡ None → act ≡ Ends overflow_code → MayDo s who seen plan results act
  MayFinish : ((n : ℕ) → slice_get (marks_of plan) n ≡ Some true → (id : ℕ) × (results n ≡ Has id)) → IsSome (plan_rows plan seen.db) → act ≡ Ends 0 → MayDo s who seen plan results act

-- ### In either order

-- the order in which a session goes through the plan of a query
pub data Order : Type 0 where
  InPlan : Order
  AsReady : Order

abbrev pub IsQueryAct : Order → LogState → Who → LogState → Plan → (ℕ → Got) → ActTree → Type 0
IsQueryAct InPlan s who seen plan results act = act ≡ query_act s who seen plan results
IsQueryAct AsReady s who seen plan results act = MayDo s who seen plan results act

-- the next act of a statement that began in some state and does this: its plan is run, or it ends
abbrev pub IsLaterAct : Order → LogState → Who → LogState → (ℕ → Got) → Doing Plan → ActTree → Type 0
IsLaterAct order s who seen results (Beginning (Some plan) shown) act = IsQueryAct order s who seen plan results act
IsLaterAct order s who seen results doing act = act ≡ Ends (code_of (shown_in doing))

-- ## The next event

-- the state before the event at a position
abbrev pub state_before : PoolOptions → List EventTree → ℕ → LogState
state_before options log at = run_of options (take (at - 1) log)

-- a statement does what its text does over the tables by which it begins
abbrev pub IsNextAct : Order → PoolOptions → List EventTree → Who → Progress → Option ℕ → Said → ActTree → Type 0
IsNextAct order options log who p None said act = IsFirstAct (doing_over (run_of options log).db said) act
IsNextAct order options log who p (Some at) said act = let seen = state_before options log at in IsLaterAct order (run_of options log) who seen p.results (doing_over seen.db said) act

-- the present statement of a session
abbrev pub who_at : ℕ → Progress → Who
who_at session p = record { session = session; statement = p.ended + 1 }

-- the event is the next one of a session whose script has these statements' texts
pub record IsNext (order : Order) (options : PoolOptions) (pieces : List (List ℕ)) (session : ℕ) (log : List EventTree) (event : EventTree) : Type 0 where
  pub piece : List ℕ
  pub here : slice_get pieces (progress_of session log).ended ≡ Some piece
  pub reading : Said
  pub read : Reads piece reading
  pub own : event.session ≡ session
  pub numbered : event.statement ≡ (progress_of session log).ended + 1
  pub act : IsNextAct order options log (who_at session (progress_of session log)) (progress_of session log) (progress_of session log).begun reading event.act

-- all its statements have ended
abbrev pub IsDone : List (List ℕ) → ℕ → List EventTree → Type 0
IsDone pieces session log = length pieces ≤ (progress_of session log).ended
