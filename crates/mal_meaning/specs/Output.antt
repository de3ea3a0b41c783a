-- The rows that the output of a plan makes of the values of its instructions.
use Rattle.std.specs.Prelude.{ℕ, List, [], map, take, Bool, true, false, if◌then◌else◌, Option, unwrap_or, slice_index_or}
use Rattle.std.specs.Option.{option_map_or}
use Rattle.cell_core.specs.declared.cell.Cell.{Cell}
use Rattle.cell_core.specs.declared.cell.Cell.TheVariants.{Nil}
use Rattle.cell_core.specs.declared.operator.Arg.{Arg}
use Rattle.cell_core.specs.declared.operator.Arg.TheVariants.{Const, Var}
use Rattle.cell_core.specs.declared.operator.Value.{Value}
use Rattle.cell_core.specs.declared.operator.Value.TheVariants.{Bat, One}
use Rattle.cell_core.specs.Pairs.{is_true, shortest, rows_of}
use Rattle.cell_core.specs.Keys.{is_keyed_below}
use Rattle.cell_core.specs.Sorted.{sorted_by}
use Rattle.mal_meaning.specs.declared.plan.Out.{Out}

-- the value of an argument, where all instructions have values
abbrev pub value_in : List Value → Arg → Value
value_in values (Const cell) = One cell
value_in values (Var n) = slice_index_or values n (One Nil)

-- a scalar that is true
abbrev pub is_yes : Value → Bool
is_yes (One cell) = is_true cell
is_yes (Bat b) = false

-- rows are shown where `keep` is true or absent
abbrev pub is_shown : List Value → Option Arg → Bool
is_shown values keep = option_map_or (λ arg. is_yes (value_in values arg)) keep true

-- the first rows, where there is a limit
abbrev pub limited : Option ℕ → List (List Cell) → List (List Cell)
limited limit rows = option_map_or (λ n. take n rows) limit rows

-- in the order of the keys, then of all cells, and then the first rows
abbrev pub arranged : Out → List (List Cell) → List (List Cell)
arranged out rows = limited out.limit (sorted_by (is_keyed_below out.order) rows)

-- as many rows as the shortest BAT has pairs, or one; in a row the tails at its place, and each scalar
abbrev pub unordered : List Value → List (List Cell)
unordered columns = rows_of columns (unwrap_or (shortest columns) 1)

-- the rows of an output
abbrev pub output_rows : Out → List Value → List (List Cell)
output_rows out values =
    if is_shown values out.keep then arranged out (unordered (map (value_in values) out.cols)) else []
