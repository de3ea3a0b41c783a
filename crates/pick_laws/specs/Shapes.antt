-- The values of the middle of a plan, over picks: one cell for all of them, or one for each.
use Rattle.std.specs.Prelude.{List, map, Bool, true, false, cond, Option, Some, None, unwrap_or, is_none}
use Rattle.std.specs.List.{list_any}
use Rattle.cell_core.specs.declared.cell.Cell.{Cell}
use Rattle.cell_core.specs.declared.cell.Cell.TheVariants.{Nil}
use Rattle.cell_core.specs.declared.operator.Value.{Value}
use Rattle.cell_core.specs.declared.operator.Value.TheVariants.{Bat, One}
use Rattle.cell_core.specs.Pairs.{numbered}

pub data Shape (P : Type 0) : Type 0 where
  Alone : Cell → Shape P
  Each : (P → Cell) → Shape P

module _ {P : Type 0} where
  -- the cell for a pick
  abbrev pub at : Shape P → P → Cell
  at (Alone cell) p = cell
  at (Each f) p = f p

  abbrev pub is_each : Shape P → Bool
  is_each (Alone cell) = false
  is_each (Each f) = true

  abbrev pub any_each : List (Shape P) → Bool
  any_each shapes = list_any is_each shapes

  -- as the value of an instruction: a scalar, or a BAT with the cells of the picks in order
  abbrev pub as_value : List P → Shape P → Value
  as_value picks (Alone cell) = One cell
  as_value picks (Each f) = Bat (numbered (map f picks))

  -- the cells for a pick
  abbrev pub cells_at : List (Shape P) → P → List Cell
  cells_at shapes p = map (λ s. at s p) shapes

  -- a cell for each pick, or nothing where one of them has none
  abbrev pub each_or_none : (P → Option Cell) → List P → Option (Shape P)
  each_or_none h picks = cond (list_any (λ p. is_none (h p)) picks) None (Some (Each (λ p. unwrap_or (h p) Nil)))
