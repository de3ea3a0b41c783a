-- The run of the sample scripts of a number.
use Rattle.std.proofs.Common.{◌≡◌, ℕ, List, [], ◌∷◌, ◌++◌, ap, subst, ◌∙◌}
use Rattle.pool_policy.specs.declared.options.PoolOptions.{PoolOptions}
use Rattle.run_log.specs.declared.event.Totals.{Totals}
use Rattle.run_log.specs.Events.{EventTree}
use Rattle.pool_sound.specs.Sound.{IsSoundAlong}
use Rattle.store_changes.specs.Work.{Counts}
use Rattle.session_run.specs.Work.{run_lost, run_totals}
use Rattle.run_sessions.specs.Played.{IsScheduled}
use Rattle.sample_scripts.specs.Scripts.{changes, queries}
use Rattle.sql_shell.specs.Generated.{IsGenerated, default_pool, generated_text}
use Rattle.sql_shell.specs.Numbers.{AreShort}

-- a run of these scripts over this pool is the one that is meant, where this is written of it
pub generated_of : (seed : ℕ) (pool : PoolOptions) (scripts : List (List (List ℕ))) (turns text : List ℕ) (log : List EventTree) (totals : Totals) (before after : ℕ)
    → pool ≡ default_pool → scripts ≡ changes seed ∷ queries seed ∷ [] → turns ≡ [] → IsScheduled pool scripts turns log
    → totals ≡ run_totals pool log → Counts before after totals.work (run_lost pool log) → text ≡ generated_text seed totals → IsSoundAlong pool log → AreShort log totals
    → IsGenerated seed text log totals.work before after
generated_of seed pool scripts turns text log totals before after is scripts_are none scheduled totals_are counted written sound short =
    let same : totals ≡ run_totals default_pool log = totals_are ∙ ap (λ (o : PoolOptions). run_totals o log) is in
    record {
      scheduled = subst (λ (o : PoolOptions). IsScheduled o (changes seed ∷ queries seed ∷ []) [] log) is
          (subst (λ (ss : List (List (List ℕ))). IsScheduled pool ss [] log) scripts_are
          (subst (λ (ts : List ℕ). IsScheduled pool scripts ts log) none scheduled));
      written_is = written ∙ ap (generated_text seed) same;
      work_is = ap (λ (t : Totals). t.work) same;
      sound = subst (λ (o : PoolOptions). IsSoundAlong o log) is sound;
      short = subst (AreShort log) same short;
      counted = subst (λ (o : PoolOptions). Counts before after totals.work (run_lost o log)) is counted;
    }

-- two things that are pushed to an empty list
pub two_pushed : {X : Type 0} (first second : X) (none one two : List X) → none ≡ [] → one ≡ none ++ first ∷ [] → two ≡ one ++ second ∷ [] → two ≡ first ∷ second ∷ []
two_pushed {X} first second none one two empty pushed more = more ∙ ap (λ (things : List X). things ++ second ∷ []) (pushed ∙ ap (λ (things : List X). things ++ first ∷ []) empty)
