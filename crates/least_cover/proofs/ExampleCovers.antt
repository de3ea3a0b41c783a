-- The cheapest cover of a worked case: of the rows 3, 4, 6 and 9 the selections from 5 to 8 (one row), from 1 to 5 (two) and from 4 to 9 (three) cover the one from 2 to 8.
use Rattle.std.proofs.Common.{◌≡◌, ℕ, List, [], ◌∷◌, Some, None, true, false, pos, refl, map, arith}
use Rattle.cell_core.specs.declared.cell.Cell.TheVariants.{Int}
use Rattle.cell_core.specs.declared.cut.Cut.TheVariants.{Low, Before, After, High}
use Rattle.cell_core.specs.declared.cut.Span.{Span}
use Rattle.cell_core.specs.Cuts.{covers}
use Rattle.subsume.specs.Greedy.{cutting_of}
use Rattle.least_cover.specs.Chosen.{chain_of, cheapest_of}
use Rattle.least_cover.specs.Covers.{Priced, span_at, cost_of, IsChain, comes_before}

-- both included
abbrev between : ℕ → ℕ → Span
between low high = record { low = Before (Int (pos low)); high = After (Int (pos high)) }

abbrev spans : List Priced
spans = (1, between 5 8) ∷ (2, between 1 5) ∷ (3, between 4 9) ∷ []

abbrev target : Span
target = between 2 8

-- the second and then the first cover it at the cost of 3 rows; the second and the third, which the greedy cutting takes, cost 5
chosen : IsChain spans target target.low (1 ∷ 0 ∷ [])
chosen = (refl, omega arith, refl, (refl, omega arith, refl, refl))

costs : (cost_of spans (1 ∷ 0 ∷ []) ≡ 3) × (cost_of spans (1 ∷ 2 ∷ []) ≡ 5)
costs = (refl, refl)

before : (comes_before spans (1 ∷ 0 ∷ []) (1 ∷ 2 ∷ []) ≡ true) × (comes_before spans (1 ∷ 2 ∷ []) (1 ∷ 0 ∷ []) ≡ false)
before = (refl, refl)

-- neither the second alone nor the other two cover it
less : (covers target (map (span_at spans) (1 ∷ [])) ≡ false) × (covers target (map (span_at spans) (0 ∷ 2 ∷ [])) ≡ false) × (covers target (map (span_at spans) (1 ∷ 0 ∷ [])) ≡ true)
less = (refl, refl, refl)

-- ## What the function returns, beside an independent implementation

-- the spans of these selections, of the ids 31, 40 and 52: the greedy cutting takes 40 and 52
cheaper : cheapest_of target ((31, (1, between 5 8)) ∷ (40, (2, between 1 5)) ∷ (52, (3, between 4 9)) ∷ []) ≡ Some (
    (40, record { low = Before (Int (pos 2)); high = After (Int (pos 5)) })
    ∷ (31, record { low = After (Int (pos 5)); high = After (Int (pos 8)) })
    ∷ []
    )
cheaper = refl

greedy : cutting_of target ((31, between 5 8) ∷ (40, between 1 5) ∷ (52, between 4 9) ∷ []) ≡ Some (
    (40, record { low = Before (Int (pos 2)); high = After (Int (pos 5)) })
    ∷ (52, record { low = After (Int (pos 5)); high = After (Int (pos 8)) })
    ∷ []
    )
greedy = refl

-- of two chains of one cost the shorter
shorter : chain_of (between 1 9) ((2, between 1 5) ∷ (2, between 5 9) ∷ (4, between 1 9) ∷ []) ≡ Some (2 ∷ [])
shorter = refl

-- of two of one cost and one length the one with the earlier place, also where it reaches less far
earlier : chain_of (between 1 9) ((1, between 4 9) ∷ (2, between 1 5) ∷ (2, between 1 6) ∷ []) ≡ Some (1 ∷ 0 ∷ [])
earlier = refl

-- three spans where one would do, but at a greater cost
three : chain_of (between 1 9) ((9, between 1 9) ∷ (2, between 1 3) ∷ (3, between 3 6) ∷ (1, between 2 4) ∷ (2, between 4 9) ∷ (2, between 6 9) ∷ []) ≡ Some (1 ∷ 3 ∷ 4 ∷ [])
three = refl

-- what is below 5 and what is above 5 leave 5 out
gap : chain_of (between 4 6) ((1, record { low = Low; high = Before (Int (pos 5)) }) ∷ (1, record { low = After (Int (pos 5)); high = High }) ∷ []) ≡ None
gap = refl
