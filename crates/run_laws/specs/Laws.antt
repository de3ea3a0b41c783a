-- Laws of whole logs.
use Rattle.std.specs.Prelude.{◌≡◌, ℕ, ◌-◌, ◌≤◌, ◌<◌, List, ◌++◌, length, take, Bool, Some, slice_get}
use Rattle.sql_tree.specs.Tree.{StmtTree}
use Rattle.pool_policy.specs.declared.options.PoolOptions.{PoolOptions}
use Rattle.read_laws.specs.Readings.{AreAllRead}
use Rattle.run_log.specs.Events.{EventTree, commits}
use Rattle.answer_text.specs.Log.{IsOrdered, Said, statement_place}
use Rattle.answer_text.specs.Layout.{printed}
use Rattle.session_run.specs.Work.{run_totals}
use Rattle.run_sessions.specs.Played.{IsScheduled}

-- ## What a statement meets

-- an event of the log marks the statement's place
abbrev pub HasPlace : List EventTree → ℕ → ℕ → Type 0
HasPlace log session statement = statement_place session statement log ≤ length log

-- the commits before a statement's place
abbrev pub commits_met : List EventTree → ℕ → ℕ → List StmtTree
commits_met log session statement = commits (take (statement_place session statement log - 1) log)

-- the first list begins with the second
abbrev pub BeginsWith : List StmtTree → List StmtTree → Type 0
BeginsWith all front = (more : List StmtTree) × (all ≡ front ++ more)

-- the event at a position, which counts from 1, is of an earlier statement of the session
pub record IsEarlier (log : List EventTree) (session statement position : ℕ) : Type 0 where
  pub event : EventTree
  pub first : 1 ≤ position
  pub here : slice_get log (position - 1) ≡ Some event
  pub own : event.session ≡ session
  pub earlier : event.statement < statement

-- in an ordered log each event of an earlier statement of a session is before the place of a later one; the commits that the later one meets begin with all commits up to that event, its own among them, and with those that each earlier statement met
pub record SeesOwn : Type 0 where
  pub before : (scripts : List (List Said)) (log : List EventTree) → IsOrdered scripts log → (session statement position : ℕ) → HasPlace log session statement
      → IsEarlier log session statement position → position < statement_place session statement log
  pub committed : (scripts : List (List Said)) (log : List EventTree) → IsOrdered scripts log → (session statement position : ℕ) → HasPlace log session statement
      → IsEarlier log session statement position → BeginsWith (commits_met log session statement) (commits (take position log))
  pub met : (scripts : List (List Said)) (log : List EventTree) → IsOrdered scripts log → (session earlier later : ℕ) → earlier < later → HasPlace log session earlier → HasPlace log session later
      → BeginsWith (commits_met log session later) (commits_met log session earlier)

-- ## The log of a schedule

-- this is printed of a log of the schedule, under these names
pub record IsPrinted (options : PoolOptions) (with_events : Bool) (names : List (List ℕ)) (scripts : List (List (List ℕ))) (schedule text : List ℕ) : Type 0 where
  pub log : List EventTree
  pub scheduled : IsScheduled options scripts schedule log
  pub readings : List (List Said)
  pub read : AreAllRead scripts readings
  pub text_is : text ≡ printed with_events names readings log (run_totals options log)

-- options, scripts and schedule have at most one log, and with the names at most one printed text: each is a function of them
pub record OneLog : Type 0 where
  pub log : (options : PoolOptions) (scripts : List (List (List ℕ))) (schedule : List ℕ) (a b : List EventTree) → IsScheduled options scripts schedule a → IsScheduled options scripts schedule b → a ≡ b
  pub text : (options : PoolOptions) (with_events : Bool) (names : List (List ℕ)) (scripts : List (List (List ℕ))) (schedule a b : List ℕ)
      → IsPrinted options with_events names scripts schedule a → IsPrinted options with_events names scripts schedule b → a ≡ b
