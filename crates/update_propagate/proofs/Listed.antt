-- Pairs from a place on.
use Rattle.std.proofs.Common.{◌≡◌, ℕ, zero, suc, [], ◌∷◌, ap, drop, refl}
use Rattle.std.specs.List.{zip}
use Rattle.cell_core.specs.Pairs.{Pairs, heads_of, tails_of}

-- both columns from a place on are the pairs from there on
pub pairs_behind : (n : ℕ) (b : Pairs) → zip (drop n (heads_of b)) (drop n (tails_of b)) ≡ drop n b
pairs_behind zero [] = refl
pairs_behind zero (p ∷ b) = ap (λ rest. p ∷ rest) (pairs_behind zero b)
pairs_behind (suc n) [] = refl
pairs_behind (suc n) (p ∷ b) = pairs_behind n b
