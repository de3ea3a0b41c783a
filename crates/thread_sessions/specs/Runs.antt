-- Sessions in threads, each of which runs to its end over one log.
use Rattle.std.specs.Prelude.{◌≡◌, ℕ, ◌+◌, ◌-◌, ◌<◌, ◌≤◌, List, [], map, Bool, IsSome, None, Some, if◌then◌else◌, nat_lt, slice_get}
use Rattle.pool_policy.specs.declared.options.PoolOptions.{PoolOptions}
use Rattle.run_log.specs.declared.event.Event.{Event}
use Rattle.run_log.specs.Events.{EventTree, log_tree}
use Rattle.turn_hall.specs.declared.hall.Hall.{Hall}
use Rattle.turn_hall.specs.declared.hall.Pass.{Pass}
use Rattle.turn_hall.specs.Entries.{StartsWith, entries_by, kept_under}
use Rattle.turn_hall.specs.Passes.{IsFree, IsPassOf, joined_passes, own_entries, pass_number, seen_by, split_count}
use Rattle.session_run.specs.declared.session.Session.{Session}
use Rattle.session_run.specs.Stages.{IsAside, MayBegin}
use Rattle.session_run.specs.Turns.{AsReady, InPlan, IsDone, Order}
use Rattle.run_sessions.specs.Played.{IsPlayed}
use Rattle.run_sessions.specs.Tables.{IsOver}
use Rattle.thread_sessions.specs.declared.runner.Runner.{Runner}
use Rattle.thread_sessions.specs.Runners.{HasSeen, IsAt, IsWith, session_of}

-- ## The run

-- sessions with these scripts, which go through their plans in this order, make this log by some turns, and then each is done
pub record IsRunOut (order : Order) (options : PoolOptions) (scripts : List (List (List ℕ))) (log : List EventTree) : Type 0 where
  pub turns : List ℕ
  pub played : IsPlayed order options scripts turns log
  pub done : (session : ℕ) (pieces : List (List ℕ)) → 1 ≤ session → slice_get scripts (session - 1) ≡ Some pieces → IsDone pieces session log

-- with this many workers a session goes through its plans as results are ready, or in their order
abbrev pub order_for : ℕ → Order
order_for workers = if nat_lt 1 workers then AsReady else InPlan

-- The rest is for the code alone: what is kept between the steps of a run. No public clause cites it.

-- ## Sessions with their passes

-- each goes through its plans in this order, and no query is under way in its plan, or one has just begun
abbrev pub AreSet : Bool → List Session → Type 0
AreSet wide sessions = (place : ℕ) (x : Session) → slice_get sessions place ≡ Some x → (x.wide ≡ wide) × MayBegin x.stage

module _ {V : Type 0} where
  -- the pass is of this hall, and its session agrees with all that it has seen
  pub record IsRunner (options : PoolOptions) (hall : Hall V Event) (runner : Runner V Event) : Type 0 where
    pub ours : IsPassOf hall runner.pass
    pub stands : IsWith options runner.pass runner.session

  -- each is such a runner, and the sessions are numbered from 1
  abbrev pub AreRunners : PoolOptions → Hall V Event → List (Runner V Event) → Type 0
  AreRunners options hall runners = (place : ℕ) (runner : Runner V Event) → slice_get runners place ≡ Some runner → (runner.session.number ≡ place + 1) × IsRunner options hall runner

  -- a session has run to its end, with its number and its script as before
  pub record HasRunOut (options : PoolOptions) (hall : Hall V Event) (before after : Runner V Event) : Type 0 where
    pub runner : IsRunner options hall after
    pub number : after.session.number ≡ before.session.number
    pub pieces : after.session.pieces ≡ before.session.pieces
    pub wide : after.session.wide ≡ before.session.wide
    pub over : IsOver after.session

  -- a session has run on, to a stage at which no query is under way in its plan
  pub record HasRunOn (options : PoolOptions) (hall : Hall V Event) (before after : Runner V Event) : Type 0 where
    pub runner : IsRunner options hall after
    pub number : after.session.number ≡ before.session.number
    pub pieces : after.session.pieces ≡ before.session.pieces
    pub wide : after.session.wide ≡ before.session.wide
    pub aside : IsAside after.session.stage

  -- the sessions of runners
  abbrev pub sessions_of : List (Runner V Event) → List Session
  sessions_of runners = map (λ (runner : Runner V Event). runner.session) runners

-- ## The first pass

module _ {V : Type 0} where
  -- the hall's first pass, from which this many passes were split, and to which those up to a number were joined
  pub record IsFirst (hall : Hall V Event) (pass : Pass V Event) (splits joined : ℕ) : Type 0 where
    pub ours : IsPassOf hall pass
    pub free : IsFree pass
    pub number : pass_number pass ≡ 0
    pub splits_are : split_count pass ≡ splits
    pub own : own_entries pass ≡ []
    pub under : (k : ℕ) → 0 < k → k ≤ joined → IsSome (kept_under k (joined_passes pass))
    pub beyond : (k : ℕ) → joined < k → kept_under k (joined_passes pass) ≡ None

  -- a session agrees with all that its pass had seen, which is a beginning of what the first pass has seen, and the first pass keeps its entries
  pub record IsJoined (options : PoolOptions) (first : Pass V Event) (x : Session) : Type 0 where
    pub seen : List Event
    pub begins : StartsWith (seen_by first) seen
    pub kept : kept_under x.number (joined_passes first) ≡ Some (entries_by session_of x.number seen)
    pub at : IsAt options (log_tree seen) x

  -- each is joined, and they are numbered from 1
  abbrev pub AreJoined : PoolOptions → Pass V Event → List Session → Type 0
  AreJoined options first sessions = (place : ℕ) (x : Session) → slice_get sessions place ≡ Some x → (x.number ≡ place + 1) × IsJoined options first x

-- ## The end

-- each session saw a beginning of the list, after which all entries are of others, and they are numbered from 1
abbrev pub HaveSeen : PoolOptions → List Event → List Session → Type 0
HaveSeen options list sessions = (place : ℕ) (x : Session) → slice_get sessions place ≡ Some x → (x.number ≡ place + 1) × HasSeen options list x

-- no entry is of another number than these, which count from 1
abbrev pub HasNoneBeside : ℕ → List Event → Type 0
HasNoneBeside many list = (entries_by session_of 0 list ≡ []) × ((number : ℕ) → many < number → entries_by session_of number list ≡ [])
