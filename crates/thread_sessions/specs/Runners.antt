-- A session in a thread, and its pass.
use Rattle.std.specs.Prelude.{◌≡◌, ℕ, List, [], ◌∷◌, ◌++◌, take, slice_get, Some}
use Rattle.pool_policy.specs.declared.options.PoolOptions.{PoolOptions}
use Rattle.run_log.specs.declared.event.Event.{Event}
use Rattle.run_log.specs.Events.{EventTree, log_tree}
use Rattle.turn_hall.specs.declared.hall.Pass.{Pass}
use Rattle.turn_hall.specs.Entries.{StartsWith, entries_by}
use Rattle.turn_hall.specs.Passes.{IsFree, own_entries, pass_number, seen_by}
use Rattle.session_run.specs.declared.session.Session.{Session}
use Rattle.session_run.specs.Kept.{Stands, order_of}
use Rattle.session_run.specs.Turns.{IsNext}
use Rattle.session_run.specs.Works.{IsWorked}
use Rattle.run_sessions.specs.Ordered.{IsInOrder}

-- the session that did an event
abbrev pub session_of : Event → ℕ
session_of event = event.session

-- each event of a session in a log is the next one of the session, after those before it
abbrev pub DoesNext : PoolOptions → List EventTree → Session → Type 0
DoesNext options log x = (place : ℕ) (event : EventTree) → slice_get log place ≡ Some event → event.session ≡ x.number → IsNext (order_of x) options x.pieces x.number (take place log) event

-- a session agrees with a log, with its work, and its events are the next ones of its script, in order
pub record IsAt (options : PoolOptions) (log : List EventTree) (x : Session) : Type 0 where
  pub stands : Stands options log x
  pub worked : IsWorked options log x
  pub ordered : IsInOrder log x
  pub does : DoesNext options log x

-- a list of entries begins with a list that the session saw, and the entries after that are of others
pub record HasSeen (options : PoolOptions) (list : List Event) (x : Session) : Type 0 where
  pub seen : List Event
  pub begins : StartsWith list seen
  pub own : entries_by session_of x.number list ≡ entries_by session_of x.number seen
  pub at : IsAt options (log_tree seen) x

-- a list has one more entry, of this session
abbrev pub AddsEvent : List Event → ℕ → List Event → Type 0
AddsEvent old session new = (event : Event) × (new ≡ old ++ event ∷ []) × (event.session ≡ session)

module _ {V : Type 0} where
  -- a session agrees with all that its pass has seen, in which the pass's own entries are those of the session
  pub record IsWith (options : PoolOptions) (pass : Pass V Event) (x : Session) : Type 0 where
    pub free : IsFree pass
    pub number : x.number ≡ pass_number pass
    pub own : entries_by session_of (pass_number pass) (seen_by pass) ≡ own_entries pass
    pub at : IsAt options (log_tree (seen_by pass)) x

  -- a pass has one more entry of its own than before
  abbrev pub HasOneMore : Pass V Event → Pass V Event → Type 0
  HasOneMore old new = (event : Event) × (own_entries new ≡ own_entries old ++ event ∷ [])
