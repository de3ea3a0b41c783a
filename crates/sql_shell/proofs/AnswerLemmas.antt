-- The answers to commands, which are a `generate` or not.
use Rattle.std.proofs.Common.{◌≡◌, ℕ, ◌≤◌, List, length, Option, Some, None, ap, sym, subst, arith}
use Rattle.std.proofs.lemmas.Option.{same_Some}
use Rattle.run_log.specs.Events.{EventTree}
use Rattle.command_line.specs.declared.command.Command.{Command}
use Rattle.command_line.specs.declared.command.Command.TheVariants.{Run, Replay, Generate}
use Rattle.command_line.specs.declared.command.RunOptions.{RunOptions}
use Rattle.command_line.specs.Command.{AreFit, IsFit, files_of, options_of}
use Rattle.sql_shell.specs.Answered.{IsAnswered, seed_of}
use Rattle.sql_shell.specs.Begun.{IsToRun}
use Rattle.sql_shell.specs.Generated.{IsGenerated}
use Rattle.sql_shell.specs.Inputs.{AreTurnsOf, IsCourse, IsToldWrong}
use Rattle.sql_shell.specs.Ready.{AreReady, IsServedBy}
use Rattle.sql_shell.specs.Scripts.{AreCut}
use Rattle.sql_shell.specs.Served.{IsRun}
use Rattle.sql_shell.specs.declared.begun.ThreadedRun.{ThreadedRun}
use Rattle.sql_shell.specs.declared.inputs.Course.{Course}
use Rattle.sql_shell.specs.declared.inputs.Course.TheVariants.{InThreads}
use Rattle.sql_shell.specs.declared.scripts.CutScript.{CutScript}
use Rattle.sql_shell.proofs.InputLemmas.{read_not_wrong}
use Rattle.sql_shell.proofs.PrintLemmas.{run_of}
use Rattle.sql_shell.proofs.ScriptLemmas.{all_short, as_many}

module _ (bytes : List ℕ → Option (List ℕ)) (text : List ℕ) (log : List EventTree) (work before after : ℕ) where
  -- a command that is no `generate` is answered by its run
  pub run_answers : (command : Command) → seed_of command ≡ None → IsRun bytes command text log work before after → IsAnswered bytes command text log work before after
  run_answers (Run workers options files) none run = run
  run_answers (Replay options schedule files) none run = run
  run_answers (Generate seed) none run = absurd (cc)

  -- a `generate` is answered by the run of the scripts of its number
  pub generated_answers : (command : Command) (seed : ℕ) → seed_of command ≡ Some seed → IsGenerated seed text log work before after → IsAnswered bytes command text log work before after
  generated_answers (Run workers options files) seed some run = absurd (cc)
  generated_answers (Replay options schedule files) seed some run = absurd (cc)
  generated_answers (Generate number) seed some run = subst (λ (n : ℕ). IsGenerated n text log work before after) (sym (same_Some number seed some)) run

-- its number is in its range
pub seed_fits : (command : Command) (seed : ℕ) → seed_of command ≡ Some seed → IsFit command → seed ≤ 1000000
seed_fits (Run workers options files) seed some fit = absurd (cc)
seed_fits (Replay options schedule files) seed some fit = absurd (cc)
seed_fits (Generate number) seed some fit = subst (λ n. n ≤ 1000000) (same_Some number seed some) fit.given.1

-- nothing is known to be wrong before it, as it reads nothing
pub nothing_wrong : (bytes : List ℕ → Option (List ℕ)) (command : Command) (seed status at : ℕ) → seed_of command ≡ Some seed → IsToldWrong bytes command status at → ⊥
nothing_wrong bytes (Run workers options files) seed status at some told = absurd (cc)
nothing_wrong bytes (Replay options schedule files) seed status at some told = absurd (cc)
nothing_wrong bytes (Generate number) seed status at some told = told

-- ## What is ready to run

pub are_ready : (bytes : List ℕ → Option (List ℕ)) (command : Command) (options : RunOptions) (scripts : List CutScript) (course : Course)
    → IsFit command → options ≡ options_of command → AreCut bytes (files_of command) scripts → AreTurnsOf (length (files_of command)) course → AreReady options scripts course
are_ready bytes command options scripts course fits same are turns =
    let many = as_many bytes (files_of command) scripts are in
    let most = fits.few in
    record {
      fit = subst AreFit (sym same) fits.options;
      few = omega (arith, many, most);
      short = all_short bytes (files_of command) scripts are;
      turns = subst (λ n. AreTurnsOf n course) (sym many) turns;
    }

-- ## A run that is still to be done in threads

-- the command of a run in threads is a `run`
pub is_to_run : (bytes : List ℕ → Option (List ℕ)) (command : Command) (run : ThreadedRun)
    → IsCourse bytes command (InThreads run.workers) → run.options ≡ options_of command → AreCut bytes (files_of command) run.scripts.items → IsToRun bytes command run
is_to_run bytes (Run workers options files) run course same are = let so : run.workers ≡ workers = cc in (so, same, are)
is_to_run bytes (Replay options schedule files) run (text, turns, is, said, of) same are = cc
is_to_run bytes (Generate seed) run course same are = cc

-- once it is served, its command is answered
pub threads_answer : (bytes : List ℕ → Option (List ℕ)) (text : List ℕ) (log : List EventTree) (work before after : ℕ) (command : Command) (run : ThreadedRun)
    → IsToRun bytes command run → IsServedBy run.options run.scripts.items (InThreads run.workers) text log work before after → IsAnswered bytes command text log work before after
threads_answer bytes text log work before after (Run workers options files) run is served =
    run_of bytes (Run workers options files) run.options run.scripts.items (InThreads run.workers) text log work before after is.2 (ap InThreads is.0) is.1 served
threads_answer bytes text log work before after (Replay options schedule files) run is served = absurd is
threads_answer bytes text log work before after (Generate seed) run is served = absurd is

-- nothing is known to be wrong before it
pub threads_not_wrong : (bytes : List ℕ → Option (List ℕ)) (command : Command) (run : ThreadedRun) (status at : ℕ) → IsToRun bytes command run → IsToldWrong bytes command status at → ⊥
threads_not_wrong bytes (Run workers options files) run status at is told = read_not_wrong bytes (Run workers options files) run.scripts.items (InThreads run.workers) status at is.2 (ap InThreads is.0) told
threads_not_wrong bytes (Replay options schedule files) run status at is told = absurd is
threads_not_wrong bytes (Generate seed) run status at is told = absurd is
