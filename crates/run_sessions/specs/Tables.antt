-- The sessions of a run, after its log.
use Rattle.std.specs.Prelude.{◌≡◌, ℕ, ◌+◌, ◌≤◌, ◌<◌, List, [], ◌∷◌, ◌++◌, length, map, sum_by, Bool, true, false, slice_get, Some}
use Rattle.pool_policy.specs.declared.options.PoolOptions.{PoolOptions}
use Rattle.run_log.specs.Events.{EventTree, log_tree}
use Rattle.answer_text.specs.Layout.{replies_text}
use Rattle.answer_text.specs.Log.{AreStatements, Said, logged_of}
use Rattle.book_core.specs.BookView.{BookView, state_of}
use Rattle.session_run.specs.declared.session.Session.{Session}
use Rattle.session_run.specs.declared.stage.Stage.TheVariants.{Between}
use Rattle.session_run.specs.Kept.{Stands}
use Rattle.read_laws.specs.Readings.{AreReadings}
use Rattle.session_run.specs.Stages.{HasDone}
use Rattle.session_run.specs.Turns.{InPlan}
use Rattle.session_run.specs.Works.{IsWorked, done_by, lost_of}
use Rattle.run_sessions.specs.Ordered.{IsInOrder}
use Rattle.run_sessions.specs.Played.{IsPlayed, RiseFrom}

-- the texts of each session
abbrev pub scripts_of : List Session → List (List (List ℕ))
scripts_of sessions = map (λ (x : Session). x.pieces) sessions

-- they are numbered from 1, and each agrees with the log, with its work and with its events in order
abbrev pub AreStanding : PoolOptions → List EventTree → List Session → Type 0
AreStanding options log sessions = (place : ℕ) (x : Session) → slice_get sessions place ≡ Some x → (x.number ≡ place + 1) × Stands options log x × IsWorked options log x × IsInOrder log x

-- all statements of the session have ended, and their replies are written
pub record IsOver (x : Session) : Type 0 where
  pub between : x.stage ≡ Between
  pub all : length x.pieces ≤ x.ended

-- all sessions before a place are over
abbrev pub AreOver : ℕ → List Session → Type 0
AreOver n sessions = (place : ℕ) (x : Session) → place < n → slice_get sessions place ≡ Some x → IsOver x

-- ## Turns

-- each goes through its plans in their order
abbrev pub AreInPlan : List Session → Type 0
AreInPlan sessions = (place : ℕ) (x : Session) → slice_get sessions place ≡ Some x → x.wide ≡ false

-- a session's turn: it does its next event, or is over
abbrev pub HasTurned : BookView → BookView → Session → Session → Bool → Type 0
HasTurned old new before after true = HasDone old new before after
HasTurned old new before after false = (new ≡ old) × Stands old.options (log_tree old.log) after × IsWorked old.options (log_tree old.log) after × IsOver after

-- the work that is done by the sessions and by the writes
abbrev pub done_of : BookView → List Session → ℕ
done_of book sessions = (state_of book).totals.work + sum_by done_by sessions

-- as sessions take turns, a counter rises by the work that is done, and by no more beyond it than what is lost
pub record CountsTurns (old new : BookView) (before after : List Session) (from to : ℕ) : Type 0 where
  pub least : from + done_of new after ≤ to + done_of old before
  pub most : (to + done_of old before) + lost_of old ≤ (from + done_of new after) + lost_of new

-- sessions that agree with a book take these turns, and agree with the book as it is then
pub record HavePlayed (old new : BookView) (before after : List Session) (turns : List ℕ) : Type 0 where
  pub options : new.options ≡ old.options
  pub scripts : scripts_of after ≡ scripts_of before
  pub standing : AreStanding new.options (log_tree new.log) after
  pub in_plan : AreInPlan after
  pub played : (earlier : List ℕ) → IsPlayed InPlan old.options (scripts_of before) earlier (log_tree old.log) → IsPlayed InPlan old.options (scripts_of before) (earlier ++ turns) (log_tree new.log)

-- one session takes some turns
pub record HasRun (old new : BookView) (before after : List Session) (place : ℕ) : Type 0 where
  pub turns : List ℕ
  pub own : (low : ℕ) → low ≤ place + 1 → (later : List ℕ) → RiseFrom (place + 1) later → RiseFrom low (turns ++ later)
  pub played : HavePlayed old new before after turns

-- the sessions run to their ends, one after the other
pub record HaveEnded (old new : BookView) (before after : List Session) : Type 0 where
  pub rest : List ℕ
  pub rises : RiseFrom 1 rest
  pub played : HavePlayed old new before after rest
  pub over : AreOver (length after) after

-- ## Texts

-- the text of a session that did all its statements: the replies to them; each statement occurs once and in its order in the log
abbrev pub IsText : List EventTree → ℕ → List (List ℕ) → List ℕ → Type 0
IsText log session pieces text = (readings : List Said) × AreReadings pieces readings × (text ≡ replies_text log session readings) × AreStatements log session 1 readings (logged_of session log)

-- the texts of the sessions from a number on, each over the readings of its script
abbrev pub AreTexts : List EventTree → ℕ → List (List (List ℕ)) → List (List ℕ) → Type 0
AreTexts log session [] [] = Unit {0}
AreTexts log session (pieces ∷ scripts) (text ∷ texts) = IsText log session pieces text × AreTexts log (session + 1) scripts texts
AreTexts log session _ _ = ⊥
