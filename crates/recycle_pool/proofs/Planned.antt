-- A plan lists what the policy gives up.
use Rattle.std.proofs.Common.{◌≡◌, ℕ, ◌-◌, List, [], ◌∷◌, Bool, true, ap, sym, ◌∙◌, subst, length}
use Rattle.score_hook.specs.declared.stats.Stats.{Stats}
use Rattle.score_hook.specs.declared.stats.Evict.{Evict}
use Rattle.score_hook.specs.declared.stats.Score.{Score}
use Rattle.score_hook.specs.Scores.{score_of}
use Rattle.evict_admit.specs.declared.plan.Row.{Row}
use Rattle.evict_admit.specs.Evictions.{GivesUp, is_enough, next_of, without}
use Rattle.evict_admit.specs.Runs.{Run, given_up, run_of, run_step}
use Rattle.evict_admit.proofs.Runs.{runs_are_functions_hold}
use Rattle.pool_policy.specs.declared.options.PoolOptions.{PoolOptions}
use Rattle.pool_policy.specs.Pool.{score_at}

pub planned : (options : PoolOptions) (kind : Evict) (weights : List ℕ) (now : ℕ) (rows shown : List Row) (need slots bytes places : ℕ) (gone : List ℕ) (enough : Bool) → kind ≡ options.evict → weights ≡ options.weights → shown ≡ rows → need ≡ bytes → slots ≡ places
    → GivesUp (λ (stats : Stats). score_of kind weights stats now) shown need slots gone enough → (let run : Run = (gone, enough) in run) ≡ given_up (score_at options now) rows bytes places
planned options kind weights now rows shown need slots bytes places gone enough same_kind same_weights same_rows same_bytes same_places run =
    let one = subst (λ k. GivesUp (λ (stats : Stats). score_of k weights stats now) shown need slots gone enough) same_kind run in
    let two = subst (λ ws. GivesUp (λ (stats : Stats). score_of options.evict ws stats now) shown need slots gone enough) same_weights one in
    let three = subst (λ rs. GivesUp (score_at options now) rs need slots gone enough) same_rows two in
    let four = subst (λ n. GivesUp (score_at options now) rows n slots gone enough) same_bytes three in
    let five = subst (λ n. GivesUp (score_at options now) rows bytes n gone enough) same_places four in
    sym ((runs_are_functions_hold (score_at options now) rows bytes places gone enough).0.0 five)

-- where nothing is wanted, nothing is given up
pub nothing_given : (score : Stats → Score) (rows : List Row) (bytes places : ℕ) (gone : List ℕ) → gone ≡ [] → is_enough bytes places ≡ true → (let run : Run = (gone, true) in run) ≡ given_up score rows bytes places
nothing_given score rows bytes places gone none enough = ap (λ ids. let run : Run = (ids, true) in run) none ∙ go rows
  where
    go : (rs : List Row) → (let run : Run = ([], true) in run) ≡ given_up score rs bytes places
    go [] = ap (λ b. let run : Run = ([], b) in run) (sym enough)
    go (r ∷ rs) = sym (ap (λ b. run_step b (next_of score (r ∷ rs)) (λ (row : Row). run_of (length rs) score (without row.id (r ∷ rs)) (bytes - row.bytes) (places - 1))) enough)
