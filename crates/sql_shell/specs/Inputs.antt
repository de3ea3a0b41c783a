-- The scripts and the schedule, which a command reads before its first statement. A `generate` reads nothing.
use Rattle.std.specs.Prelude.{◌≡◌, ℕ, zero, suc, ◌-◌, ◌≤◌, ◌<◌, ◌⊎◌, List, [], length, take, slice_get, Option, Some, None, IfSome, IsUtf8}
use Rattle.std.specs.List.{AllByRecursion}
use Rattle.causes.specs.Faults.{Rose}
use Rattle.causes.specs.Limits.{most_bytes}
use Rattle.command_line.specs.declared.command.Command.{Command}
use Rattle.command_line.specs.declared.command.Command.TheVariants.{Run, Replay, Generate}
use Rattle.turn_lines.specs.Schedule.{Bad, Turns, schedule_of}
use Rattle.sql_shell.specs.declared.inputs.Course.{Course}
use Rattle.sql_shell.specs.declared.inputs.Course.TheVariants.{InThreads, ByTurns}
use Rattle.sql_shell.specs.Scripts.{AreRunnable, AreTexts, AreToldFirst, CanBeRun, IsFirstUnfit}

-- ## Schedules

-- a text for a file: its bytes, if they are known
abbrev pub IsText : (List ℕ → Option (List ℕ)) → List ℕ → List ℕ → Type 0
IsText bytes name text = IfSome (bytes name) (λ told. text ≡ told)

-- a schedule that has these turns
pub record IsSchedule (sessions : ℕ) (text turns : List ℕ) : Type 0 where
  pub short : length text ≤ most_bytes
  pub utf8 : IsUtf8 text
  pub turns_are : schedule_of sessions text ≡ Turns turns

-- why a schedule has no turns, with the status, and the first bad line, or 0
pub data IsBadSchedule (sessions : ℕ) (text : List ℕ) (status at : ℕ) : Type 0 where
  TooLong : most_bytes < length text → status ≡ 4 → at ≡ 0 → IsBadSchedule sessions text status at
  NotText : length text ≤ most_bytes → (IsUtf8 text → ⊥) → status ≡ 6 → at ≡ 0 → IsBadSchedule sessions text status at
  BadLine : length text ≤ most_bytes → IsUtf8 text → schedule_of sessions text ≡ Bad at → status ≡ 7 → IsBadSchedule sessions text status at

-- how a command's sessions are run: in threads under `run`, by the turns of its schedule under `replay`, and by no turns under `generate`
abbrev pub IsCourse : (List ℕ → Option (List ℕ)) → Command → Course → Type 0
IsCourse bytes (Run workers options files) course = course ≡ InThreads workers
IsCourse bytes (Replay options schedule files) course = (text turns : List ℕ) × (course ≡ ByTurns turns) × IsText bytes schedule text × IsSchedule (length files) text turns
IsCourse bytes (Generate seed) course = course ≡ ByTurns []

-- turns are of this many sessions
abbrev pub AreTurnsOf : ℕ → Course → Type 0
AreTurnsOf sessions (InThreads workers) = Unit {0}
AreTurnsOf sessions (ByTurns turns) = AllByRecursion (λ turn. (1 ≤ turn) × (turn ≤ sessions)) turns

-- ## The first fault of content

-- the schedule has no turns, with this status and place
abbrev pub HasBadSchedule : (List ℕ → Option (List ℕ)) → List ℕ → ℕ → ℕ → ℕ → Type 0
HasBadSchedule bytes schedule sessions status at = (text : List ℕ) × IsText bytes schedule text × IsBadSchedule sessions text status at

-- a command has a schedule
abbrev pub IsReplay : Command → Type 0
IsReplay (Run workers options files) = ⊥
IsReplay (Replay options schedule files) = Unit {0}
IsReplay (Generate seed) = ⊥

-- it has a schedule that has no turns
abbrev pub IsWrongSchedule : (List ℕ → Option (List ℕ)) → Command → ℕ → ℕ → Type 0
IsWrongSchedule bytes (Run workers options files) status at = ⊥
IsWrongSchedule bytes (Replay options schedule files) status at = HasBadSchedule bytes schedule (length files) status at
IsWrongSchedule bytes (Generate seed) status at = ⊥

-- the first script that isn't run, or else the schedule, has this status and place
abbrev pub IsFirstWrong : (List ℕ → Option (List ℕ)) → Command → ℕ → ℕ → Type 0
IsFirstWrong bytes (Run workers options files) status at = (texts : List (List ℕ)) × AreTexts bytes files texts × IsFirstUnfit 1 texts status at
IsFirstWrong bytes (Replay options schedule files) status at =
    (texts : List (List ℕ)) × AreTexts bytes files texts × (IsFirstUnfit 1 texts status at ⊎ (AreRunnable texts × HasBadSchedule bytes schedule (length files) status at))
IsFirstWrong bytes (Generate seed) status at = ⊥

-- the bytes of all files are known, and can be run
abbrev pub AreToldRunnable : (List ℕ → Option (List ℕ)) → List (List ℕ) → Type 0
AreToldRunnable bytes files = (texts : List (List ℕ)) × AreToldFirst bytes files texts × (length texts ≡ length files) × AreRunnable texts

-- all bytes up to the first that are wrong are known, and these have this status and place
abbrev pub IsToldWrong : (List ℕ → Option (List ℕ)) → Command → ℕ → ℕ → Type 0
IsToldWrong bytes (Run workers options files) status at = (texts : List (List ℕ)) × AreToldFirst bytes files texts × IsFirstUnfit 1 texts status at
IsToldWrong bytes (Replay options schedule files) status at =
    ((texts : List (List ℕ)) × AreToldFirst bytes files texts × IsFirstUnfit 1 texts status at)
    ⊎ (AreToldRunnable bytes files × ((text : List ℕ) × (bytes schedule ≡ Some text) × IsBadSchedule (length files) text status at))
IsToldWrong bytes (Generate seed) status at = ⊥

-- all bytes are known, and nothing is wrong
abbrev pub IsToldRight : (List ℕ → Option (List ℕ)) → Command → Type 0
IsToldRight bytes (Run workers options files) = AreToldRunnable bytes files
IsToldRight bytes (Replay options schedule files) = AreToldRunnable bytes files × ((text turns : List ℕ) × (bytes schedule ≡ Some text) × IsSchedule (length files) text turns)
IsToldRight bytes (Generate seed) = Unit {0}

-- reading came as far as this file, where the schedule is file 0 and comes last: those before it whose bytes are known can be run
abbrev pub IsReached : (List ℕ → Option (List ℕ)) → Command → ℕ → Type 0
IsReached bytes (Run workers options files) at = (1 ≤ at) × CanBeRun bytes (take (at - 1) files)
IsReached bytes (Replay options schedule files) zero = CanBeRun bytes files
IsReached bytes (Replay options schedule files) (suc at) = CanBeRun bytes (take at files)
IsReached bytes (Generate seed) at = ⊥

-- ## Faults

-- the file with this number: scripts are counted from 1, and the schedule is file 0
abbrev pub file_at : Command → ℕ → Option (List ℕ)
file_at (Run workers options files) zero = None
file_at (Run workers options files) (suc at) = slice_get files at
file_at (Replay options schedule files) zero = Some schedule
file_at (Replay options schedule files) (suc at) = slice_get files at
file_at (Generate seed) at = None

-- the count of faults rose, and the last fault was at the file with this number
pub record HasFailedAt (command : Command) (before now : ℕ) (failed : List ℕ → Type 0) (at : ℕ) : Type 0 where
  pub rose : Rose before now
  pub name : List ℕ
  pub named : file_at command at ≡ Some name
  pub failed_here : failed name

-- the count of faults rose, and the last fault was at one of the command's files
abbrev pub HasFailed : Command → ℕ → ℕ → (List ℕ → Type 0) → Type 0
HasFailed command before now failed = (at : ℕ) × HasFailedAt command before now failed at
