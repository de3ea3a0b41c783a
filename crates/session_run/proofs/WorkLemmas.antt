-- The stated work of a log with one more event, and of sessions to which it doesn't belong.
use Rattle.std.proofs.Common.{◌≡◌, ℕ, zero, suc, ◌+◌, ◌-◌, ◌≤◌, ◌<◌, List, [], ◌∷◌, ◌++◌, length, Bool, true, false, cond, Option, Some, None, refl, ap, sym, ◌∙◌, subst, arith}
use Rattle.std.specs.Prelude.{◌==◌, slice_get, unwrap_or}
use Rattle.std.specs.Option.{option_and_then, option_map_or}
use Rattle.std.proofs.lemmas.Bool.{eq-eqb}
use Rattle.std.proofs.lemmas.List.{append_assoc, append-nil}
use Rattle.std.proofs.lemmas.Option.{same_Some}
use Rattle.cell_core.proofs.ListLemmas.{slice_get-append_left}
use Rattle.cell_core.specs.declared.table.Db.{Db}
use Rattle.mal_meaning.specs.declared.plan.Plan.{Plan}
use Rattle.mal_meaning.specs.Meaning.{plan_load, plan_rows}
use Rattle.pool_policy.specs.declared.options.PoolOptions.{PoolOptions}
use Rattle.pool_policy.specs.Looks.{look_of}
use Rattle.pool_policy.specs.Pool.{PoolState}
use Rattle.store_changes.specs.Work.{lost_unless}
use Rattle.run_log.specs.declared.event.FoundLog.{FoundLog}
use Rattle.run_log.specs.declared.event.FoundLog.TheVariants.{Exact, Within, Across, Miss}
use Rattle.query_keys.specs.Laws.{id_given}
use Rattle.run_log.specs.Events.{ActTree, Begins, Looks, Admits, Writes, Ends, EventTree}
use Rattle.run_log.specs.Fold.{LogState}
use Rattle.run_log.proofs.LogLemmas.{each_log}
use Rattle.reply_layout.specs.Doings.{code_of}
use Rattle.query_run.specs.declared.step.RunningQuery.{RunningQuery}
use Rattle.query_run.specs.declared.step.Step.{Step}
use Rattle.query_run.specs.declared.step.Step.TheVariants as step
use Rattle.query_run.specs.Queries.{key_in, unmarked_work}
use Rattle.session_run.specs.declared.session.Session.{Session}
use Rattle.session_run.specs.declared.stage.Stage.{Stage}
use Rattle.session_run.specs.declared.stage.Stage.TheVariants as stage
use Rattle.session_run.specs.Progress.{Got, Has, Progress, got_by, noted, progress_after, progress_by, progress_of}
use Rattle.session_run.specs.Work.{act_lost, act_work, asked_by, event_lost, event_work, load_at, own_work, pairs_at, plan_begun, plan_in, pool_asked, run_lost, session_work, sum_behind, tables_begun, work_by}
use Rattle.session_run.specs.Works.{IsLookedUp, IsPlanned, IsWorked, IsWorkedStage, IsWorkedStep, OweLoads}
use Rattle.session_run.proofs.LogLemmas.{log_long, other_progress, progress_more, state_stays}

-- ## Sums

sum_on : (takes : List EventTree → EventTree → ℕ) (before log : List EventTree) (event : EventTree) → sum_behind takes before (log ++ event ∷ []) ≡ sum_behind takes before log + takes (before ++ log) event
sum_on takes before [] event = let here = ap (λ (es : List EventTree). takes es event) (append-nil before) in omega (arith, here)
sum_on takes before (e ∷ log) event =
    let more = sum_on takes (before ++ e ∷ []) log event in
    let same = ap (λ (es : List EventTree). takes es event) (append_assoc before (e ∷ []) log) in
    omega (arith, more, same)

-- a sum over a log with one more event
pub sum_more : (takes : List EventTree → EventTree → ℕ) (log : List EventTree) (event : EventTree) → sum_behind takes [] (log ++ event ∷ []) ≡ sum_behind takes [] log + takes log event
sum_more takes log event = sum_on takes [] log event

-- the work of a session whose own event comes next
pub own_more : (options : PoolOptions) (session : ℕ) (log : List EventTree) (event : EventTree) → event.session ≡ session → session_work options session (log ++ event ∷ []) ≡ session_work options session log + event_work options log event
own_more options session log event own =
    sum_more (own_work options session) log event ∙ ap (λ b. session_work options session log + cond b (event_work options log event) 0) (eq-eqb event.session session own)

-- and where another's does
pub other_more : (options : PoolOptions) (session : ℕ) (log : List EventTree) (event : EventTree) → (event.session == session) ≡ false → session_work options session (log ++ event ∷ []) ≡ session_work options session log
other_more options session log event other =
    let more = sum_more (own_work options session) log event in
    let none = ap (λ b. cond b (event_work options log event) 0) other in
    omega (arith, more, none)

-- the work that is lost up to one more event
pub lost_more : (options : PoolOptions) (log : List EventTree) (event : EventTree) → run_lost options (log ++ event ∷ []) ≡ run_lost options log + event_lost options log event
lost_more options log event = sum_more (event_lost options) log event

-- ## Positions

-- the positions that a session's progress has are those of the first n events
pub record IsWithin (n : ℕ) (p : Progress) : Type 0 where
  pub asked : (instr : ℕ) → asked_by (p.results instr) ≤ n
  pub begun : (at : ℕ) → p.begun ≡ Some at → (1 ≤ at) × (at ≤ n)

-- where no other query begins
goes_within : (n : ℕ) (p q : Progress) → q.begun ≡ p.begun → ((instr : ℕ) → asked_by (q.results instr) ≤ n + 1) → IsWithin n p → IsWithin (n + 1) q
goes_within n p q same asked w = record {
  asked = asked;
  begun = λ at is. let both = w.begun at (sym same ∙ is) in let high = both.1 in (both.0, omega (arith, high));
}

later_within : (n : ℕ) (p : Progress) → IsWithin n p → (instr : ℕ) → asked_by (p.results instr) ≤ n + 1
later_within n p w instr = let asked = w.asked instr in omega (arith, asked)

noted_within : (n : ℕ) (p : Progress) (place : ℕ) (got : Got) → asked_by got ≤ n + 1 → IsWithin n p → (instr : ℕ) → asked_by (noted place got p.results instr) ≤ n + 1
noted_within n p place got low w instr = go (instr == place)
  where
    go : (b : Bool) → asked_by (cond b got (p.results instr)) ≤ n + 1
    go true = low
    go false = later_within n p w instr

got_within : (n : ℕ) (found : FoundLog) → asked_by (got_by (n + 1) found) ≤ n + 1
got_within n (Exact id) = omega arith
got_within n (Within id) = omega arith
got_within n (Across pieces) = omega arith
got_within n Miss = omega arith

act_within : (n : ℕ) (act : ActTree) (p : Progress) → IsWithin n p → IsWithin (n + 1) (progress_by (n + 1) act p)
act_within n (Begins code plan) p w = record {
  asked = λ instr. omega arith;
  begun = λ at is. let same : n + 1 ≡ at = same_Some (n + 1) at is in (omega (arith, same), omega (arith, same));
}
act_within n (Looks instr key found) p w = goes_within n p (progress_by (n + 1) (Looks instr key found) p) refl (noted_within n p (instr - 1) (got_by (n + 1) found) (got_within n found) w) w
act_within n (Admits instr key result) p w = goes_within n p (progress_by (n + 1) (Admits instr key result) p) refl (noted_within n p (instr - 1) (Has (id_given result)) (omega arith) w) w
act_within n (Writes statement code count) p w = goes_within n p (progress_by (n + 1) (Writes statement code count) p) refl (later_within n p w) w
act_within n (Ends code) p w = record { asked = λ instr. omega arith; begun = λ at is. absurd (cc) }

event_within : (session n : ℕ) (event : EventTree) (p : Progress) → IsWithin n p → IsWithin (n + 1) (progress_after session (n + 1) p event)
event_within session n event p w = go (event.session == session)
  where
    go : (b : Bool) → IsWithin (n + 1) (cond b (progress_by (n + 1) event.act p) p)
    go true = act_within n event.act p w
    go false = goes_within n p p refl (later_within n p w) w

-- those of a session's progress are within the log
pub progress_within : (session : ℕ) (log : List EventTree) → IsWithin (length log) (progress_of session log)
progress_within session = each_log (λ log. IsWithin (length log) (progress_of session log)) (record { asked = λ instr. omega arith; begun = λ at is. absurd (cc) }) (λ log event w.
    subst (λ n. IsWithin n (progress_of session (log ++ event ∷ []))) (sym (log_long log event))
    (subst (IsWithin (length log + 1)) (sym (progress_more session log event)) (event_within session (length log) event (progress_of session log) w)))

-- ## What the work of an act reads

-- the plan that begins at a position
abbrev pub plan_at : List EventTree → ℕ → Option Plan
plan_at log at = option_and_then (λ (event : EventTree). plan_in event.act) (slice_get log (at - 1))

-- the work of an Admit and of an End, by the pool, the tables and the plan
abbrev admit_counts : PoolState → Db → Option Plan → ActTree → ℕ
admit_counts pool db plan (Admits instr key result) = option_map_or (λ plan. work_by pool (look_of pool key) (load_at plan db (instr - 1)) (pairs_at plan db (instr - 1))) plan 0
admit_counts pool db plan _ = 0

module _ (options : PoolOptions) (log : List EventTree) (event : EventTree) (p : Progress) (within : IsWithin (length log) p) where
  abbrev later : List EventTree
  later = log ++ event ∷ []

  plan_stays : plan_begun later p ≡ plan_begun log p
  plan_stays = go p.begun refl
    where
      go : (b : Option ℕ) → p.begun ≡ b → option_and_then (plan_at later) b ≡ option_and_then (plan_at log) b
      go None is = refl
      go (Some at) is =
          let both = within.begun at is in
          let low = both.0 in
          let high = both.1 in
          ap (option_and_then (λ (e : EventTree). plan_in e.act)) (slice_get-append_left log (event ∷ []) (at - 1) (omega (arith, low, high)))

  tables_stay : tables_begun options later p ≡ tables_begun options log p
  tables_stay = ap (λ (s : LogState). s.db) (state_stays options log event (unwrap_or p.begun 0) (go p.begun refl))
    where
      go : (b : Option ℕ) → p.begun ≡ b → unwrap_or b 0 ≤ length log + 1
      go None is = omega arith
      go (Some at) is = let high = (within.begun at is).1 in omega (arith, high)

  pub pool_stays : (instr : ℕ) → pool_asked options later (p.results instr) ≡ pool_asked options log (p.results instr)
  pool_stays instr = ap (λ (s : LogState). s.pool) (state_stays options log event (asked_by (p.results instr)) (let asked = within.asked instr in omega (arith, asked)))

  -- the work of an act of the session is the same after one more event
  pub act_work_stays : (act : ActTree) → act_work options later p act ≡ act_work options log p act
  act_work_stays (Begins code plan) = refl
  act_work_stays (Looks instr key found) = refl
  act_work_stays (Writes statement code count) = refl
  act_work_stays (Admits instr key result) =
      ap (λ pool. admit_counts pool (tables_begun options later p) (plan_begun later p) (Admits instr key result)) (pool_stays (instr - 1))
      ∙ ap (λ db. admit_counts (pool_asked options log (p.results (instr - 1))) db (plan_begun later p) (Admits instr key result)) tables_stay
      ∙ ap (λ plan. admit_counts (pool_asked options log (p.results (instr - 1))) (tables_begun options log p) plan (Admits instr key result)) plan_stays
  act_work_stays (Ends code) =
      ap (λ db. cond (code == 0) (option_map_or (λ plan. unmarked_work plan db) (plan_begun later p) 0) 0) tables_stay
      ∙ ap (λ plan. cond (code == 0) (option_map_or (λ plan. unmarked_work plan (tables_begun options log p)) plan 0) 0) plan_stays

  -- and the work that an End loses
  pub end_lost_stays : (code : ℕ) → act_lost options later p (Ends code) ≡ act_lost options log p (Ends code)
  end_lost_stays code =
      ap (λ db. option_map_or (λ plan. lost_unless (plan_rows plan db) (plan_load plan db)) (plan_begun later p) 0) tables_stay
      ∙ ap (λ plan. option_map_or (λ plan. lost_unless (plan_rows plan (tables_begun options log p)) (plan_load plan (tables_begun options log p))) plan 0) plan_stays

  planned_stays : (q : RunningQuery) → IsPlanned options log p q → IsPlanned options later p q
  planned_stays q k = record { plan = plan_stays ∙ k.plan; db = tables_stay ∙ k.db }

  -- a query of the same statement keeps its plan and its tables
  pub planned_next : (next : Progress) → next.begun ≡ p.begun → (q : RunningQuery) → IsPlanned options log p q → IsPlanned options later next q
  planned_next next same q k =
      let stays = planned_stays q k in record {
        plan = ap (option_and_then (plan_at later)) same ∙ stays.plan;
        db = ap (λ b. tables_begun options later (record p { begun = b })) same ∙ stays.db;
      }

  owes_stay : (q : RunningQuery) (but : ℕ → Type 0) → OweLoads options log p.results q but → OweLoads options later p.results q but
  owes_stay q but owes n instr at asked apart =
      let both = owes n instr at asked apart in
      (both.0, λ load pairs. subst (λ pool. work_by pool (look_of pool (key_in q n instr)) load pairs ≡ load) (sym (pool_stays n)) (both.1 load pairs))

  step_worked_stays : (at : Step) → IsWorkedStep options log p at → IsWorkedStep options later p at
  step_worked_stays (step.Begun q) is = planned_stays q is
  step_worked_stays (step.Open q) is = (planned_stays q is.0, owes_stay q (λ m. ⊥) is.1)
  step_worked_stays (step.Asking q n key) is = (planned_stays q is.0, owes_stay q (λ m. ⊥) is.1)
  step_worked_stays (step.Found q n found parts) is = (planned_stays q is.0, owes_stay q (λ m. m ≡ n) is.1, subst (λ pool. IsLookedUp pool q n found parts.items) (sym (pool_stays n)) is.2)
  step_worked_stays (step.Offering q n offer) is = (planned_stays q is.0, owes_stay q (λ m. m ≡ n) is.1, λ result. is.2 result ∙ sym (act_work_stays (Admits (n + 1) offer.key result)))
  step_worked_stays (step.Ending reply work) is = is ∙ sym (act_work_stays (Ends (code_of reply)))

  stage_worked_stays : (at : Stage) → IsWorkedStage options log p at → IsWorkedStage options later p at
  stage_worked_stays stage.Between is = tt
  stage_worked_stays (stage.Telling reply) is = tt
  stage_worked_stays (stage.Reading read) is = tt
  stage_worked_stays (stage.Querying at) is = step_worked_stays at is
  stage_worked_stays (stage.Explaining plan) is = plan_stays ∙ is

-- ## Others

-- a session's work is what its events count, whatever event of another session comes next
pub others_worked : (options : PoolOptions) (log : List EventTree) (x : Session) (event : EventTree) → (event.session == x.number) ≡ false → IsWorked options log x → IsWorked options (log ++ event ∷ []) x
others_worked options log x event other w = record {
  work = w.work ∙ sym (other_more options x.number log event other);
  stage = subst (λ (p : Progress). IsWorkedStage options (log ++ event ∷ []) p x.stage) (sym (other_progress x.number log event other))
      (stage_worked_stays options log event (progress_of x.number log) (progress_within x.number log) x.stage w.stage);
}
