-- What holds of each admission that takes nothing.
use Rattle.std.specs.Prelude.{◌≡◌, ℕ, true}
use Rattle.pool_policy.specs.declared.entry.Who.{Who}
use Rattle.pool_policy.specs.Pool.{PoolState}
use Rattle.pool_policy.specs.Admits.{Offer, admit_of}
use Rattle.pool_policy.specs.Keeps.{IsPool}
use Rattle.admit_laws.specs.Left.{IsAsBefore, IsLeft, is_refusal}

-- each answer leaves what `IsLeft` says; so a refusal leaves all as before
pub record RefusalsLeave : Type 0 where
  pub by_answer : (who : Who) (now : ℕ) (offer : Offer) (pool : PoolState) → IsPool pool → IsLeft who now offer pool (admit_of who now offer pool).0 (admit_of who now offer pool).1
  pub as_before : (who : Who) (now : ℕ) (offer : Offer) (pool : PoolState) → IsPool pool → is_refusal (admit_of who now offer pool).0 ≡ true → IsAsBefore now pool (admit_of who now offer pool).1
