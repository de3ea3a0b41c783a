-- Flags of results: one set at a place, and those that arguments set.
use Rattle.std.proofs.Common.{◌≡◌, ℕ, suc, zero, Bool, true, false, List, [], ◌∷◌, ◌++◌, length, refl, ap, sym, ◌∙◌, arith}
use Rattle.std.specs.Prelude.{◌==◌, ◌||◌, ◌<◌, get_or, slice_set}
use Rattle.std.proofs.Math.Dec.{eqb-suc-zero, eqb-zero-suc, eqb-suc-suc}

pub or_moved : (a b c : Bool) → b || (a || c) ≡ (a || b) || c
or_moved true true c = refl
or_moved true false c = refl
or_moved false b c = refl

pub or_none : (a : Bool) → a || false ≡ a
or_none true = refl
or_none false = refl

pub set_flag : (flags : List Bool) (place n : ℕ) → n < length flags → get_or (slice_set flags place true) n false ≡ n == place || get_or flags n false
set_flag [] place n low = absurd (omega arith)
set_flag (b ∷ flags) zero zero low = refl
set_flag (b ∷ flags) zero (suc n) low = sym (ap (λ x. x || get_or flags n false) (eqb-suc-zero n))
set_flag (b ∷ flags) (suc place) zero low = sym (ap (λ x. x || b) (eqb-zero-suc place))
set_flag (b ∷ flags) (suc place) (suc n) low = set_flag flags place n (omega arith) ∙ sym (ap (λ x. x || get_or flags n false) (eqb-suc-suc n place))
