-- What the code keeps of the files that it has read, which `top_by_turns` returns with a `run`; and the outcome of a run.
use Rattle.std.specs.Prelude.{ℕ, ◌≤◌, List, length}
use Rattle.std.specs.List.{AllByRecursion}
use Rattle.run_log.specs.Events.{EventTree}
use Rattle.command_line.specs.declared.command.RunOptions.{RunOptions}
use Rattle.command_line.specs.Command.{AreFit}
use Rattle.sql_shell.specs.Scripts.{names_of, pieces_in}
use Rattle.sql_shell.specs.Inputs.{AreTurnsOf}
use Rattle.sql_shell.specs.Served.{IsMade, IsServed, pool_of}
use Rattle.sql_shell.specs.declared.inputs.Course.{Course}
use Rattle.sql_shell.specs.declared.scripts.CutScript.{CutScript}

-- it can be run: fit options, at most 16 scripts of at most 256 statements each, and turns of these scripts
pub record AreReady (options : RunOptions) (scripts : List CutScript) (course : Course) : Type 0 where
  pub fit : AreFit options
  pub few : length scripts ≤ 16
  pub short : AllByRecursion (λ (pieces : List (List ℕ)). length pieces ≤ 256) (pieces_in scripts)
  pub turns : AreTurnsOf (length scripts) course

-- a run of scripts that were read has this log and this text; the counter has these values before and after
abbrev pub IsServedBy : RunOptions → List CutScript → Course → List ℕ → List EventTree → ℕ → ℕ → ℕ → Type 0
IsServedBy options scripts course text log work before after =
    IsServed options (names_of scripts) (pieces_in scripts) text log work × IsMade (pool_of options) (pieces_in scripts) course log before after
