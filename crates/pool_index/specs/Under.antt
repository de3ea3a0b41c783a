-- Ids under those of their first parents.
use Rattle.std.specs.Prelude.{ℕ, List, Bool, ◌==◌, filter}
use Rattle.std.specs.List.{list_any}
use Rattle.std.specs.declared.vec.Vec.{Vec}
use Rattle.std.specs.Vec.{vec_capacity}

-- pairs of a parent and a child, and how many fit
pub record ChildrenView : Type 0 where
  pub pairs : List (ℕ × ℕ)
  pub room : ℕ

-- what children show
abbrev pub children_in : {Z : Type 0} → Vec (ℕ × ℕ) Z → ChildrenView
children_in pairs = record { pairs = pairs.items; room = vec_capacity pairs }

-- the pairs of one parent
abbrev pub under : ℕ → List (ℕ × ℕ) → List (ℕ × ℕ)
under parent pairs = filter (λ (p : ℕ × ℕ). p.0 == parent) pairs

-- an id is one of these
abbrev pub is_in : List ℕ → ℕ → Bool
is_in ids id = list_any (λ i. i == id) ids
