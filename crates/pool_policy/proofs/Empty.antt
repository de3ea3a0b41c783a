-- An empty pool is a pool, and nothing was given out for it.
use Rattle.std.proofs.Common.{[], refl, arith}
use Rattle.pool_policy.specs.declared.options.PoolOptions.{PoolOptions}
use Rattle.pool_policy.specs.Pool.{empty_pool}
use Rattle.pool_policy.specs.Keeps.{IsPool}
use Rattle.pool_policy.specs.Worths.{IsGiven}

pub empty_is : (options : PoolOptions) → IsPool (empty_pool options)
empty_is options = record {
  rising = omega arith;
  own_keys = tt;
  rooted = tt;
  bytes = omega arith;
  places = omega arith;
  counted = tt;
  funded = record { each = λ shape some low. absurd (omega arith); numbered = tt };
  shapes = refl;
  plain = λ off. refl;
  marked = λ on. tt;
}

pub empty_given : (options : PoolOptions) → IsGiven [] (empty_pool options)
empty_given options = record { rising = omega arith; rooted = tt; pooled = λ f c. c }
