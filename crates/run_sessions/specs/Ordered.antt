-- The events of a session, in the order of its statements.
use Rattle.std.specs.Prelude.{◌≡◌, ℕ, ◌+◌, List, [], ◌∷◌, ◌++◌, map, take, true, false, Option, Some, None, slice_get}
use Rattle.std.specs.List.{AllByRecursion}
use Rattle.read_laws.specs.Answered.{Reads}
use Rattle.run_log.specs.Events.{ActTree, Ends, EventTree}
use Rattle.reply_layout.specs.Doings.{code_of}
use Rattle.answer_text.specs.Log.{AreStatements, Said, acts_over, doing_over, is_of_pool, logged_of, runs_plan, shown_over, tables_met}
use Rattle.session_run.specs.declared.session.Session.{Session}
use Rattle.session_run.specs.Progress.{progress_of}
use Rattle.read_laws.specs.Readings.{AreReadings}

-- the first of a session's statements that have not ended has begun: the log has its Begin, followed by looks and admissions
pub record HasOpened (log : List EventTree) (x : Session) (acts : List (ℕ × ActTree)) : Type 0 where
  pub piece : List ℕ
  pub here : slice_get x.pieces x.ended ≡ Some piece
  pub reading : Said
  pub read : Reads piece reading
  pub first : ActTree
  pub opens : acts_over (tables_met log x.number (x.ended + 1)) reading ≡ first ∷ Ends (code_of (shown_over (tables_met log x.number (x.ended + 1)) reading)) ∷ []
  pub between : List ActTree
  pub pool : AllByRecursion (λ act. is_of_pool act ≡ true) between
  pub planned : runs_plan (doing_over (tables_met log x.number (x.ended + 1)) reading) ≡ false → between ≡ []
  pub acts_are : acts ≡ map {B = ℕ × ActTree} (λ act. (x.ended + 1, act)) (first ∷ between)

abbrev pub IsOpenedAs : List EventTree → Session → Option ℕ → List (ℕ × ActTree) → Type 0
IsOpenedAs log x None acts = acts ≡ []
IsOpenedAs log x (Some at) acts = HasOpened log x acts

-- its events are those of its statements that have ended, and of the one that has begun
pub record IsInOrder (log : List EventTree) (x : Session) : Type 0 where
  pub readings : List Said
  pub read : AreReadings (take x.ended x.pieces) readings
  pub finished : List (ℕ × ActTree)
  pub opened : List (ℕ × ActTree)
  pub logged : logged_of x.number log ≡ finished ++ opened
  pub statements : AreStatements log x.number 1 readings finished
  pub open_ : IsOpenedAs log x (progress_of x.number log).begun opened
