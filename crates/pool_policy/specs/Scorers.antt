-- Which scorer a pool's options ask for.
use Rattle.std.specs.Prelude.{◌≡◌, ℕ, List}
use Rattle.score_hook.specs.declared.stats.Evict.{Evict}
use Rattle.pool_policy.specs.declared.options.PoolOptions.{PoolOptions}

-- the kind of scorer that the options name, and its weights
abbrev pub rule_of : PoolOptions → Evict × List ℕ
rule_of options = (options.evict, options.weights)

-- a scorer of this kind and with these weights is the one that the options ask for
abbrev pub IsScorerOf : Evict → List ℕ → PoolOptions → Type 0
IsScorerOf kind weights options = let rule : Evict × List ℕ = (kind, weights) in rule ≡ rule_of options
