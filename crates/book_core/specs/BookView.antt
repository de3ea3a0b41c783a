-- What contracts see of a book.
use Rattle.std.specs.Prelude.{ℕ, ◌+◌, ◌==◌, List, fold, length, Bool, true, false, if◌then◌else◌}
use Rattle.pool_policy.specs.declared.entry.Who.{Who}
use Rattle.pool_policy.specs.declared.options.PoolOptions.{PoolOptions}
use Rattle.run_log.specs.declared.event.Event.{Event}
use Rattle.run_log.specs.declared.event.Act.{Act}
use Rattle.run_log.specs.Events.{ActTree, Begins, Ends, EventTree, log_tree}
use Rattle.run_log.specs.Fold.{LogState, run_of}

pub record BookView : Type 0 where
  pub options : PoolOptions
  pub log : List Event

-- the state to which its log leads
abbrev pub state_of : BookView → LogState
state_of book = run_of book.options (log_tree book.log)

-- the position of the next event
abbrev pub now_of : BookView → ℕ
now_of book = length book.log + 1

abbrev pub event_of : Who → Act → Event
event_of who act = record { session = who.session; statement = who.statement; act = act }

-- a query begins or ends
abbrev pub opened_by : ActTree → Bool → Bool
opened_by (Begins code plan) up = true
opened_by (Ends code) up = false
opened_by _ up = up

abbrev pub and_opened : ℕ → Bool → EventTree → Bool
and_opened session up event = if event.session == session then opened_by event.act up else up

-- the session's last query has begun and not ended
abbrev pub is_open : ℕ → BookView → Bool
is_open session book = fold (and_opened session) false (log_tree book.log)
