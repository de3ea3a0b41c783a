-- The outcome of the program: from words, files and a sink to a status, a log and the text that is written.
use Rattle.std.specs.Prelude.{◌≡◌, ℕ, ◌+◌, List, [], ◌∷◌, ◌++◌, map, Bool, nat_le, Option, Result}
use Rattle.sql_definitions.specs.declared.refusal.Refusal.{Refusal}
use Rattle.sql_tree.specs.Pieces.{pieces_of}
use Rattle.sql_tree.specs.Tree.{StmtTree}
use Rattle.pool_policy.specs.declared.options.PoolOptions.{PoolOptions}
use Rattle.run_log.specs.Events.{EventTree}
use Rattle.pool_sound.specs.Sound.{IsSoundAlong}
use Rattle.answer_text.specs.Log.{IsOrdered}
use Rattle.reply_layout.specs.Layout.{session_line}
use Rattle.answer_text.specs.Layout.{printed}
use Rattle.command_line.specs.declared.command.Command.{Command}
use Rattle.command_line.specs.declared.command.RunOptions.{RunOptions}
use Rattle.store_changes.specs.Work.{Counts}
use Rattle.read_laws.specs.Readings.{AreAllRead}
use Rattle.session_run.specs.Work.{run_lost, run_totals, run_work}
use Rattle.run_sessions.specs.Played.{IsScheduled}
use Rattle.command_line.specs.Command.{files_of, options_of}
use Rattle.thread_sessions.specs.Runs.{IsRunOut, order_for}
use Rattle.sql_shell.specs.declared.inputs.Course.{Course}
use Rattle.sql_shell.specs.declared.inputs.Course.TheVariants.{InThreads, ByTurns}
use Rattle.sql_shell.specs.Inputs.{IsCourse}
use Rattle.sql_shell.specs.Numbers.{AreShort}
use Rattle.sql_shell.specs.Scripts.{AreRunnable, AreTexts}

-- ## Runs

-- the most entries of a pool
abbrev pub most_entries : ℕ
most_entries = 1024

-- the pool of a run with these options
abbrev pub pool_of : RunOptions → PoolOptions
pool_of options = record { places = most_entries; budget = options.budget; evict = options.evict; weights = options.weights; admit = options.admit; credits = options.credits }

-- a run of scripts with these names and statements has this log and this printed text: the log has each statement once and in its session's order; each reply is the meaning of its statement over the tables as the commits before its place leave them; the history is the commits; the pool, its totals and each event are those of this log; after each event the pool is sound, so each pooled result is the value of its lineage; the numbers that are printed of the pool are short
pub record IsServed (options : RunOptions) (names : List (List ℕ)) (scripts : List (List (List ℕ))) (text : List ℕ) (log : List EventTree) (work : ℕ) : Type 0 where
  pub readings : List (List (Result StmtTree Refusal))
  pub read : AreAllRead scripts readings
  pub ordered : IsOrdered readings log
  pub printed_is : text ≡ printed options.events names readings log (run_totals (pool_of options) log)
  pub work_is : work ≡ run_work (pool_of options) log
  pub sound : IsSoundAlong (pool_of options) log
  pub short : AreShort log (run_totals (pool_of options) log)

-- how such a log is made, event by event. In threads: by some turns, until all sessions are done; each goes through its plans in their order, or, with more than one worker, as results are ready. Otherwise: by given turns, with this counter before and after
abbrev pub IsMade : PoolOptions → List (List (List ℕ)) → Course → List EventTree → ℕ → ℕ → Type 0
IsMade pool scripts (InThreads workers) log before after = IsRunOut (order_for workers) pool scripts log
IsMade pool scripts (ByTurns turns) log before after = IsScheduled pool scripts turns log × Counts before after (run_work pool log) (run_lost pool log)

-- a command's run: each of its files has a text, its bytes where they are known; these texts can be run, and what is printed, logged and counted is theirs
pub record IsRun (bytes : List ℕ → Option (List ℕ)) (command : Command) (text : List ℕ) (log : List EventTree) (work before after : ℕ) : Type 0 where
  pub scripts : List (List ℕ)
  pub told : AreTexts bytes (files_of command) scripts
  pub runnable : AreRunnable scripts
  pub course : Course
  pub course_is : IsCourse bytes command course
  pub served : IsServed (options_of command) (files_of command) (map pieces_of scripts) text log work
  pub made : IsMade (pool_of (options_of command)) (map pieces_of scripts) course log before after

-- a status: served, words, read fault, write fault, too long, memory, not text, bad line
abbrev pub is_status : ℕ → Bool
is_status s = nat_le s 7

-- ## For the code alone: no public clause names this

-- the texts of sessions under these names, from a number on
abbrev pub texts_under : ℕ → List (List ℕ) → List (List ℕ) → List ℕ
texts_under session (name ∷ names) (text ∷ texts) = session_line session name ++ text ++ texts_under (session + 1) names texts
texts_under session _ _ = []
