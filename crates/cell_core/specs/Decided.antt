-- Tests that decide equality.
use Rattle.std.specs.Prelude.{◌≡◌, Bool, true}
use Rattle.std.specs.Bool.{Decides}
use Rattle.std.proofs.Common.{subst}

module _ {X : Type 0} (same : X → X → Bool) where
  -- a test decides equality where it is true of each value beside itself, and true of equal values alone
  pub decides_by : ((a : X) → same a a ≡ true) → ((a b : X) → same a b ≡ true → a ≡ b) → (a b : X) → Decides (same a b) (a ≡ b)
  decides_by itself one a b = (one a b, λ e. subst (λ x. same a x ≡ true) e (itself a))
