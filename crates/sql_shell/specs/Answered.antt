-- The answers to commands.
use Rattle.std.specs.Prelude.{ℕ, List, Option, Some, None}
use Rattle.run_log.specs.Events.{EventTree}
use Rattle.command_line.specs.declared.command.Command.{Command}
use Rattle.command_line.specs.declared.command.Command.TheVariants.{Run, Replay, Generate}
use Rattle.sql_shell.specs.Generated.{IsGenerated}
use Rattle.sql_shell.specs.Served.{IsRun}

-- a command is answered by this text, with this log and this counter before and after: a run or a replay by what is printed of its scripts, and `generate` by what is written of the scripts of its number
abbrev pub IsAnswered : (List ℕ → Option (List ℕ)) → Command → List ℕ → List EventTree → ℕ → ℕ → ℕ → Type 0
IsAnswered bytes (Run workers options files) text log work before after = IsRun bytes (Run workers options files) text log work before after
IsAnswered bytes (Replay options schedule files) text log work before after = IsRun bytes (Replay options schedule files) text log work before after
IsAnswered bytes (Generate seed) text log work before after = IsGenerated seed text log work before after

-- ## For the code alone: no public clause names these

-- the number of a `generate`
abbrev pub seed_of : Command → Option ℕ
seed_of (Run workers options files) = None
seed_of (Replay options schedule files) = None
seed_of (Generate seed) = Some seed
