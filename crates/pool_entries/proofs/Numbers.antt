-- The number of a shape that is new.
use Rattle.std.proofs.Common.{◌≡◌, ℕ, ◌+◌, List, [], ◌∷◌, ◌++◌, true, false, Some, None, refl, ap, ◌∙◌, arith, length}
use Rattle.std.specs.Prelude.{if◌then◌else◌}
use Rattle.lineage_key.specs.declared.shape.Shape.{Shape}
use Rattle.lineage_key.specs.Same.{same_shape, same_shape_decides}
use Rattle.pool_policy.specs.Admits.{number_from}

pub number_last : (n : ℕ) (shape : Shape) (shapes : List Shape) → None ≡ number_from n shape shapes → number_from n shape (shapes ++ shape ∷ []) ≡ Some (n + length shapes)
number_last n shape [] none = ap (λ b. if b then Some n else None) ((same_shape_decides shape shape).1 refl) ∙ ap Some (omega arith)
number_last n shape (s ∷ shapes) none = elim (same_shape s shape) as (λ b. None ≡ (if b then Some n else number_from (n + 1) shape shapes) → (if b then Some n else number_from (n + 1) shape (shapes ++ shape ∷ [])) ≡ Some (n + length (s ∷ shapes))) [
  | true ↦ λ e. cc
  | false ↦ λ e. number_last (n + 1) shape shapes e ∙ ap Some (omega arith)
] none
