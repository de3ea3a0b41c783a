-- The piece of a selection that is read at a place.
use Rattle.std.proofs.Common.{◌≡◌, ℕ, zero, suc, ◌<◌, List, [], ◌∷◌, refl, ap, ◌∙◌, arith, length}
use Rattle.std.specs.Prelude.{get_or}
use Rattle.cell_core.specs.declared.cut.Cut.{Cut}
use Rattle.cell_core.specs.declared.cut.Span.{Span}
use Rattle.subsume.specs.Cutting.{Entry, least_cut, piece_of}
use Rattle.least_cover.specs.Chosen.{Selection, entry_at, entry_of}

at_default : {X : Type 0} (xs : List X) (i : ℕ) (d e : X) → i < length xs → get_or xs i d ≡ get_or xs i e
at_default [] i d e low = absurd (omega (arith, low))
at_default (x ∷ xs) zero d e low = refl
at_default (x ∷ xs) (suc i) d e low = at_default xs i d e (omega (arith, low))

pub piece_is : (target : Span) (cut : Cut) (selections : List Selection) (place : ℕ) (s : Selection) (upper : Cut) → place < length selections → s ≡ get_or selections place s → upper ≡ least_cut s.1.1.high target.high
    → (let piece : Entry = (s.0, record { low = cut; high = upper }) in piece) ≡ piece_of target cut (entry_at selections place)
piece_is target cut selections place s upper low is upper_is =
    ap (λ h. let piece : Entry = (s.0, record { low = cut; high = h }) in piece) upper_is ∙ ap (λ (x : Selection). piece_of target cut (entry_of x)) (is ∙ at_default selections place s _ low)
