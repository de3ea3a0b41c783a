-- The credits of numbered shapes.
use Rattle.std.specs.Prelude.{ℕ, ◌-◌, List, vec_len}
use Rattle.std.specs.declared.vec.Vec.{Vec}
use Rattle.std.specs.Vec.{vec_capacity}

-- the credit that a shape starts with, the credit of each shape by its number, and the room for more shapes
pub record Credits : Type 0 where
  pub start : ℕ
  pub each : List ℕ
  pub room : ℕ

-- what a ledger shows
abbrev pub credits_of : {Z : Type 0} → ℕ → Vec ℕ Z → Credits
credits_of start credits = record { start = start; each = credits.items; room = vec_capacity credits - vec_len credits }
