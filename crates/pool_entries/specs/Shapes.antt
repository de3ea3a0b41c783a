-- The shapes with numbers, and their credits, once a shape has a number.
use Rattle.std.specs.Prelude.{ℕ, List, [], ◌∷◌, ◌++◌}
use Rattle.std.specs.Option.{option_map_or}
use Rattle.lineage_key.specs.declared.shape.Shape.{Shape}
use Rattle.pool_policy.specs.Admits.{number_from}

-- a shape that has no number comes last
abbrev pub shapes_with : Shape → List Shape → List Shape
shapes_with shape shapes = option_map_or (λ n. shapes) (number_from 1 shape shapes) (shapes ++ shape ∷ [])

-- and has a credit to start with
abbrev pub credit_with : Shape → List Shape → ℕ → List ℕ → List ℕ
credit_with shape shapes start credit = option_map_or (λ n. credit) (number_from 1 shape shapes) (credit ++ start ∷ [])
