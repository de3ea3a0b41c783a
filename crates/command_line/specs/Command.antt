-- The commands that words name.
use Rattle.std.specs.Prelude.{◌≡◌, ◌≢◌, ℕ, ◌^◌, ◌≤◌, ◌==◌, List, [], ◌∷◌, length, Bool, true, false, ◌&&◌, nat_le, if◌then◌else◌, bytes_eq, Option, Some, None, codes}
use Rattle.std.specs.Option.{option_map, option_and_then}
use Rattle.score_hook.specs.declared.stats.Evict.{Evict}
use Rattle.score_hook.specs.declared.stats.Evict.TheVariants.{Lru, Benefit, History, Weighted}
use Rattle.score_hook.specs.Scores.{AreWeights}
use Rattle.pool_policy.specs.declared.options.Admit.{Admit}
use Rattle.pool_policy.specs.declared.options.Admit.TheVariants.{All, Credit}
use Rattle.command_line.specs.declared.command.RunOptions.{RunOptions}
use Rattle.command_line.specs.declared.command.Command.{Command}
use Rattle.command_line.specs.declared.command.Command.TheVariants.{Run, Replay, Generate}
use Rattle.command_line.specs.Numbers.{number_in}
use Rattle.command_line.specs.Weights.{even_weights, weights_in}
use Rattle.command_line.specs.Words.{Text, Uses, is_end, uses_named}

abbrev pub evict_in : Text → Option Evict
evict_in text =
    if bytes_eq text (codes "lru") then Some Lru
    else (if bytes_eq text (codes "benefit") then Some Benefit
    else (if bytes_eq text (codes "history") then Some History
    else (if bytes_eq text (codes "weighted") then Some Weighted else None)))

abbrev pub admit_in : Text → Option Admit
admit_in text =
    if bytes_eq text (codes "all") then Some All
    else (if bytes_eq text (codes "credit") then Some Credit else None)

-- the one value, as it is read, or the default where there is none
abbrev pub one_or : {X : Type 0} → X → (Text → Option X) → List Text → Option X
one_or default read [] = Some default
one_or default read (value ∷ []) = read value
one_or default read (value ∷ more ∷ values) = None

-- whether the option without a value occurs, at most once
abbrev pub flag_in : List Text → Option Bool
flag_in [] = Some false
flag_in (value ∷ []) = Some true
flag_in (value ∷ more ∷ values) = None

-- the weights of the 35 operators, by at most one list, where the policy is `weighted`; else none, without a list
abbrev pub weights_for : Evict → List Text → Option (List ℕ)
weights_for Weighted values = one_or even_weights weights_in values
weights_for _ [] = Some []
weights_for _ (value ∷ values) = None

-- the options, each at most once
abbrev pub options_in : Uses → Option RunOptions
options_in uses =
    option_and_then (λ budget.
    option_and_then (λ evict.
    option_and_then (λ admit.
    option_and_then (λ credits.
    option_and_then (λ weights.
    option_map (λ events. record { budget = budget; evict = evict; admit = admit; credits = credits; weights = weights; events = events })
    (flag_in uses.events))
    (weights_for evict uses.weights))
    (one_or 3 (number_in 1 1000000) uses.credits))
    (one_or All admit_in uses.admit))
    (one_or Lru evict_in uses.evict))
    (one_or 16777216 (number_in 0 (2 ^ 40)) uses.budget)

-- 1 to 16 files
abbrev pub are_files : List Text → Bool
are_files files = nat_le 1 (length files) && nat_le (length files) 16

-- the number of workers of a query
abbrev pub workers_in : Uses → Option ℕ
workers_in uses = one_or 4 (number_in 1 16) uses.workers

-- `run` with this many workers: all words that are no options are files
abbrev pub run_by : Uses → ℕ → Option Command
run_by uses workers = if are_files uses.files then option_map (λ options. Run workers options uses.files) (options_in uses) else None

abbrev pub run_in : Uses → Option Command
run_in uses = option_and_then (run_by uses) (workers_in uses)

-- `replay`: the first file is the schedule
abbrev pub replay_of : Uses → List Text → Option Command
replay_of uses [] = None
replay_of uses (schedule ∷ files) = if are_files files then option_map (λ options. Replay options schedule files) (options_in uses) else None

-- a replay has no workers: there `--workers` is outside the grammar, like any unknown option
abbrev pub replay_in : Uses → Option Command
replay_in uses = if length uses.workers == 0 then replay_of uses uses.files else None

-- no further word, but for an `--` that no file follows
abbrev pub ends_here : List Text → Bool
ends_here [] = true
ends_here (word ∷ []) = is_end word
ends_here (word ∷ more ∷ words) = false

-- `generate`: one word, which is a number. It has no options and no files
abbrev pub generate_in : List Text → Option Command
generate_in [] = None
generate_in (word ∷ words) = if ends_here words then option_map Generate (number_in 1 1000000 word) else None

-- the command that words name
abbrev pub command_named : List Text → Option Command
command_named [] = None
command_named (command ∷ words) =
    if bytes_eq command (codes "run") then option_and_then run_in (uses_named words)
    else (if bytes_eq command (codes "replay") then option_and_then replay_in (uses_named words)
    else (if bytes_eq command (codes "generate") then generate_in words else None))

-- ## What is promised of commands

-- the options where no word names one
abbrev pub default_options : RunOptions
default_options = record { budget = 16777216; evict = Lru; admit = All; credits = 3; weights = []; events = false }

abbrev pub options_of : Command → RunOptions
options_of (Run workers options files) = options
options_of (Replay options schedule files) = options
options_of (Generate seed) = default_options

abbrev pub files_of : Command → List Text
files_of (Run workers options files) = files
files_of (Replay options schedule files) = files
files_of (Generate seed) = []

-- options that are fit for a pool and its scorer
pub record AreFit (options : RunOptions) : Type 0 where
  pub budget : options.budget ≤ 2 ^ 40
  pub weighted : options.evict ≡ Weighted → AreWeights options.weights
  pub plain : options.evict ≢ Weighted → options.weights ≡ []

-- at least one file, or a number from 1 to 1,000,000
abbrev pub IsGiven : Command → Type 0
IsGiven (Run workers options files) = 1 ≤ length files
IsGiven (Replay options schedule files) = 1 ≤ length files
IsGiven (Generate seed) = (1 ≤ seed) × (seed ≤ 1000000)

-- 1 to 16 workers, where the command has them
abbrev pub HasWorkers : Command → Type 0
HasWorkers (Run workers options files) = (1 ≤ workers) × (workers ≤ 16)
HasWorkers (Replay options schedule files) = Unit {0}
HasWorkers (Generate seed) = Unit {0}

-- a command with such options and workers, with something to work on, and with at most 16 files
pub record IsFit (command : Command) : Type 0 where
  pub options : AreFit (options_of command)
  pub workers : HasWorkers command
  pub given : IsGiven command
  pub few : length (files_of command) ≤ 16
