-- The progress of a session, by its own events in the log.
use Rattle.std.specs.Prelude.{ℕ, ◌+◌, ◌-◌, ◌==◌, List, [], ◌∷◌, map, if◌then◌else◌, Option, Some, None}
use Rattle.std.specs.List.{range_with_len}
use Rattle.run_log.specs.declared.event.FoundLog.{FoundLog}
use Rattle.run_log.specs.declared.event.FoundLog.TheVariants.{Exact}
use Rattle.run_log.specs.Events.{ActTree, Begins, Looks, Admits, Writes, Ends, EventTree}
use Rattle.query_keys.specs.Laws.{id_given}

-- the state of a query's result
pub data Got : Type 0 where
  -- the pool was not asked for it
  Unasked : Got
  -- the pool was asked for it in vain, by the event at this position
  Asked : ℕ → Got
  -- it is there, with this id, 0 for none
  Has : ℕ → Got

pub record Progress : Type 0 where
  pub ended : ℕ  -- how many of its statements have ended
  pub begun : Option ℕ  -- the position of the Begin of the query that has not ended
  pub results : ℕ → Got  -- the results of that query's instructions, by their numbers from 0 on

abbrev pub nothing_got : ℕ → Got
nothing_got n = Unasked

abbrev pub not_begun : Progress
not_begun = record { ended = 0; begun = None; results = nothing_got }

-- the state by a look at a position
abbrev pub got_by : ℕ → FoundLog → Got
got_by at (Exact id) = Has id
got_by at found = Asked at

-- one of the results is in this state
abbrev pub noted : ℕ → Got → (ℕ → Got) → ℕ → Got
noted n got results m = if m == n then got else results m

-- after an act of the session, which has this position in the log; instructions count from 1 in acts
abbrev pub progress_by : ℕ → ActTree → Progress → Progress
progress_by at (Begins code plan) p = record p { begun = Some at; results = nothing_got }
progress_by at (Looks instr key found) p = record p { results = noted (instr - 1) (got_by at found) p.results }
progress_by at (Admits instr key result) p = record p { results = noted (instr - 1) (Has (id_given result)) p.results }
progress_by at (Writes statement code count) p = record p { ended = p.ended + 1 }
progress_by at (Ends code) p = record p { ended = p.ended + 1; begun = None; results = nothing_got }

-- after an event of any session
abbrev pub progress_after : ℕ → ℕ → Progress → EventTree → Progress
progress_after session at p event = if event.session == session then progress_by at event.act p else p

-- after the events of a log from a position on
abbrev pub progress_from : ℕ → ℕ → Progress → List EventTree → Progress
progress_from session at p [] = p
progress_from session at p (event ∷ log) = progress_from session (at + 1) (progress_after session at p event) log

abbrev pub progress_of : ℕ → List EventTree → Progress
progress_of session log = progress_from session 1 not_begun log

-- ## Ids

abbrev pub id_of : Got → ℕ
id_of (Has id) = id
id_of got = 0

-- the ids of the results before an instruction, 0 for none
abbrev pub ids_before : (ℕ → Got) → ℕ → List ℕ
ids_before results n = map (λ m. id_of (results m)) (range_with_len 0 n)
