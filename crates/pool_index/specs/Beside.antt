-- Ids with their parents.
use Rattle.std.specs.Prelude.{ℕ, List}
use Rattle.std.specs.declared.vec.Vec.{Vec}
use Rattle.std.specs.Vec.{vec_capacity}
use Rattle.pool_index.specs.declared.parents.Kin.{Kin}

-- ids with their parents, and how many fit
pub record ParentsView : Type 0 where
  pub kin : List Kin
  pub room : ℕ

-- what parents show
abbrev pub parents_in : {Z : Type 0} → Vec Kin Z → ParentsView
parents_in kin = record { kin = kin.items; room = vec_capacity kin }
