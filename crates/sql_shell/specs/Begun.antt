-- The outcome of a command's part without a thread.
use Rattle.std.specs.Prelude.{◌≡◌, ℕ, List, Option}
use Rattle.command_line.specs.declared.command.Command.{Command}
use Rattle.command_line.specs.declared.command.Command.TheVariants.{Run, Replay, Generate}
use Rattle.sql_shell.specs.Scripts.{AreCut}
use Rattle.sql_shell.specs.declared.begun.ByTurns.{ByTurns}
use Rattle.sql_shell.specs.declared.begun.ByTurns.TheVariants.{Answered, ToRun}
use Rattle.sql_shell.specs.declared.begun.ThreadedRun.{ThreadedRun}
use Rattle.sql_shell.specs.declared.served.Served.{Served}

abbrev pub IfAnswered : ByTurns → (Served → Type 0) → Type 0
IfAnswered (Answered answer) P = P answer
IfAnswered (ToRun run) P = Unit {0}

abbrev pub IfToRun : ByTurns → (ThreadedRun → Type 0) → Type 0
IfToRun (Answered answer) P = Unit {0}
IfToRun (ToRun run) P = P run

-- the command is a `run`, and this has its workers, its options and the scripts of its files
abbrev pub IsToRun : (List ℕ → Option (List ℕ)) → Command → ThreadedRun → Type 0
IsToRun bytes (Run workers options files) run = (run.workers ≡ workers) × (run.options ≡ options) × AreCut bytes files run.scripts.items
IsToRun bytes (Replay options schedule files) run = ⊥
IsToRun bytes (Generate seed) run = ⊥
