-- Orders in general, and orderings of numbers.
use Rattle.std.proofs.Common.{◌≡◌, ℕ, ◌<◌, Bool, true, false, refl}
use Rattle.std.specs.Ordering.{nat_cmp, ordering_then, MatchOrdering}
use Rattle.std.specs.declared.cmp.Ordering.{Ordering}
use Rattle.std.specs.declared.cmp.Ordering.TheVariants.{Less, Equal, Greater}
use Rattle.std.specs.Cmp.{IsStrictWeakOrder}
use Rattle.std.proofs.lemmas.Cmp.{ranked}

pub never_itself : {X : Type 0} {lt : X → X → Bool} → IsStrictWeakOrder lt → (x : X) → lt x x ≡ false
never_itself {X} {lt} order x = elim (lt x x) as (λ b. lt x x ≡ b → lt x x ≡ false) [ true ↦ λ e. order.one_way x x e | false ↦ λ e. e ] refl

pub second_equal : (r s : Ordering) → ordering_then r s ≡ Equal → s ≡ Equal
second_equal Less s e = cc
second_equal Equal s e = e
second_equal Greater s e = cc

pub same_number : (m n : ℕ) → nat_cmp m n ≡ Equal → m ≡ n
same_number m n e = go (nat_cmp m n) e (ranked m n (nat_cmp m n) refl)
  where
    go : (r : Ordering) → r ≡ Equal → MatchOrdering r (m < n) (m ≡ n) (n < m) → m ≡ n
    go Less e h = cc
    go Equal e h = h
    go Greater e h = cc
