-- The stated work of sessions, event by event.
use Rattle.std.specs.Prelude.{ℕ, ◌+◌, ◌-◌, ◌==◌, List, [], ◌∷◌, ◌++◌, length, sum_by, if◌then◌else◌, Option, Some, None, unwrap_or, slice_get}
use Rattle.std.specs.Option.{option_and_then, option_map_or}
use Rattle.cell_core.specs.declared.table.Db.{Db}
use Rattle.cell_core.specs.Pairs.{pair_count}
use Rattle.mal_meaning.specs.declared.plan.Plan.{Plan}
use Rattle.mal_meaning.specs.Meaning.{instr_load, plan_load, plan_rows, plan_values}
use Rattle.subsume.specs.Cutting.{Entry}
use Rattle.reuse_laws.specs.Reuse.{selected_in}
use Rattle.pool_policy.specs.declared.options.PoolOptions.{PoolOptions}
use Rattle.pool_policy.specs.Laws.{value_of}
use Rattle.pool_policy.specs.Looks.{Finding, look_of}
use Rattle.pool_policy.specs.Looks.Finding.{Within, Across}
use Rattle.pool_policy.specs.Pool.{PoolState}
use Rattle.store_changes.specs.Work.{lost_unless, write_lost}
use Rattle.run_log.specs.declared.event.Totals.{Totals}
use Rattle.run_log.specs.Events.{ActTree, Begins, Admits, Writes, Ends, EventTree}
use Rattle.run_log.specs.Fold.{run_of}
use Rattle.query_run.specs.Queries.{unmarked_work}
use Rattle.session_run.specs.Progress.{Asked, Got, Progress, progress_of}
use Rattle.session_run.specs.Turns.{state_before}

-- ## Results

-- the work of a piece of a cover: the pairs of the entry that is read, and those that are selected
abbrev pub piece_work : PoolState → Entry → ℕ
piece_work pool piece = length (value_of pool piece.0) + length (selected_in piece.1 (value_of pool piece.0))

-- the work to compute a result of this many pairs after a look. It is that of its instruction; or the pairs that are read and selected from a containing selection; or the work of each piece of a cover and the pairs that are merged
abbrev pub work_by : PoolState → Finding → ℕ → ℕ → ℕ
work_by pool (Within id) load pairs = length (value_of pool id) + pairs
work_by pool (Across pieces) load pairs = sum_by (piece_work pool) pieces + pairs
work_by pool _ load pairs = load

-- the load of an instruction of a plan, counted from 0, and the pairs of its value
abbrev pub load_at : Plan → Db → ℕ → ℕ
load_at plan db n = option_map_or (instr_load db (plan_values db plan.instrs)) (slice_get plan.instrs n) 0

abbrev pub pairs_at : Plan → Db → ℕ → ℕ
pairs_at plan db n = option_map_or pair_count (unwrap_or (slice_get (plan_values db plan.instrs) n) None) 0

-- ## Events

abbrev pub plan_in : ActTree → Option Plan
plan_in (Begins code plan) = plan
plan_in _ = None

-- the plan of the query that a session has begun, if any; its Begin has it in the log
abbrev pub plan_begun : List EventTree → Progress → Option Plan
plan_begun log p = option_and_then (λ at. option_and_then (λ (event : EventTree). plan_in event.act) (slice_get log (at - 1))) p.begun

-- the tables over which it began
abbrev pub tables_begun : PoolOptions → List EventTree → Progress → Db
tables_begun options log p = (state_before options log (unwrap_or p.begun 0)).db

-- the position of the look for a result for which the pool was asked in vain
abbrev pub asked_by : Got → ℕ
asked_by (Asked at) = at
asked_by got = 0

-- the pool as it was then
abbrev pub pool_asked : PoolOptions → List EventTree → Got → PoolState
pool_asked options log got = (state_before options log (asked_by got)).pool

-- the work that a session's next act after a log counts: an Admit counts that of its result, by the answer to its look; the End of a query that was run to its end counts that of its unmarked instructions
abbrev pub act_work : PoolOptions → List EventTree → Progress → ActTree → ℕ
act_work options log p (Admits instr key result) =
    let pool = pool_asked options log (p.results (instr - 1)) in
    let db = tables_begun options log p in
    option_map_or (λ plan. work_by pool (look_of pool key) (load_at plan db (instr - 1)) (pairs_at plan db (instr - 1))) (plan_begun log p) 0
act_work options log p (Ends code) = if code == 0 then option_map_or (λ plan. unmarked_work plan (tables_begun options log p)) (plan_begun log p) 0 else 0
act_work options log p _ = 0

-- the most that a counter may rise beyond that, up to this act: the load of a plan that overflows
abbrev pub act_lost : PoolOptions → List EventTree → Progress → ActTree → ℕ
act_lost options log p (Writes (Some stmt) code count) = write_lost stmt (run_of options log).db
act_lost options log p (Ends code) =
    let db = tables_begun options log p in
    option_map_or (λ plan. lost_unless (plan_rows plan db) (plan_load plan db)) (plan_begun log p) 0
act_lost options log p _ = 0

-- ## Logs

-- the sum of what each event of a log takes, after those before it
abbrev pub sum_behind : (List EventTree → EventTree → ℕ) → List EventTree → List EventTree → ℕ
sum_behind takes before [] = 0
sum_behind takes before (event ∷ log) = takes before event + sum_behind takes (before ++ event ∷ []) log

abbrev pub event_work : PoolOptions → List EventTree → EventTree → ℕ
event_work options log event = act_work options log (progress_of event.session log) event.act

abbrev pub event_lost : PoolOptions → List EventTree → EventTree → ℕ
event_lost options log event = act_lost options log (progress_of event.session log) event.act

-- the work that the events of one session count
abbrev pub own_work : PoolOptions → ℕ → List EventTree → EventTree → ℕ
own_work options session log event = if event.session == session then event_work options log event else 0

abbrev pub session_work : PoolOptions → ℕ → List EventTree → ℕ
session_work options session log = sum_behind (own_work options session) [] log

-- the work that the events of all sessions count
abbrev pub sessions_work : PoolOptions → List EventTree → ℕ
sessions_work options log = sum_behind (event_work options) [] log

-- the work of a run: that of its sessions, of its DELETEs and UPDATEs, and of entries that came back in its writes
abbrev pub run_work : PoolOptions → List EventTree → ℕ
run_work options log = sessions_work options log + (run_of options log).totals.work

-- the totals of a run
abbrev pub run_totals : PoolOptions → List EventTree → Totals
run_totals options log = record (run_of options log).totals { work = run_work options log }

-- the most that a counter may rise beyond a run's work: the loads of the plans that overflow
abbrev pub run_lost : PoolOptions → List EventTree → ℕ
run_lost options log = sum_behind (event_lost options) [] log
