-- The answer of `generate`: from a number to a log and the text that is written.
use Rattle.std.specs.Prelude.{◌≡◌, ℕ, List, [], ◌∷◌, ◌++◌, codes, decimal}
use Rattle.pool_policy.specs.declared.options.PoolOptions.{PoolOptions}
use Rattle.run_log.specs.declared.event.Totals.{Totals}
use Rattle.run_log.specs.Events.{EventTree}
use Rattle.pool_sound.specs.Sound.{IsSoundAlong}
use Rattle.answer_text.specs.Layout.{totals_text}
use Rattle.store_changes.specs.Work.{Counts}
use Rattle.session_run.specs.Work.{run_lost, run_totals, run_work}
use Rattle.run_sessions.specs.Played.{IsScheduled}
use Rattle.command_line.specs.Command.{default_options}
use Rattle.sample_scripts.specs.Scripts.{changes, queries}
use Rattle.sql_shell.specs.Numbers.{AreShort}
use Rattle.sql_shell.specs.Served.{pool_of}

-- the pool of a run with the default options
abbrev pub default_pool : PoolOptions
default_pool = pool_of default_options

-- the text that is written: the number, and the pool's totals
abbrev pub generated_text : ℕ → Totals → List ℕ
generated_text seed totals = codes "generated " ++ decimal seed ++ codes "\n" ++ totals_text totals

-- the two sample scripts of a number, a session each, one after the other and with the default options, have this log and this text: the totals are those of the log, the pool is sound after each of its events, and the numbers of looks, admissions and totals are short; the counter has these values before and after
pub record IsGenerated (seed : ℕ) (text : List ℕ) (log : List EventTree) (work before after : ℕ) : Type 0 where
  pub scheduled : IsScheduled default_pool (changes seed ∷ queries seed ∷ []) [] log
  pub written_is : text ≡ generated_text seed (run_totals default_pool log)
  pub work_is : work ≡ run_work default_pool log
  pub sound : IsSoundAlong default_pool log
  pub short : AreShort log (run_totals default_pool log)
  pub counted : Counts before after work (run_lost default_pool log)
