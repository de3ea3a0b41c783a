-- The value of each function of two cells.
use Rattle.std.specs.Prelude.{ℕ, ◌≤◌, List, length, map, Option, Some, ◌+ℤ◌, ◌-ℤ◌, ◌*ℤ◌}
use Rattle.std.specs.List.{range_with_len}
use Rattle.std.specs.Ordering.{is_eq, is_ne, is_lt, is_le, is_gt, is_ge}
use Rattle.cell_core.specs.declared.cell.Cell.{Cell}
use Rattle.cell_core.specs.declared.operator.Value.{Value}
use Rattle.cell_core.specs.declared.operator.Value.TheVariants.{Bat, One}
use Rattle.cell_core.specs.Pairs.{Pairs, cell_at}
use Rattle.cell_core.specs.Calc.{arithmetic, comparison, conjunction, disjunction, negation, nil_test, all_or_none}
use Rattle.bat_calc.specs.declared.function.Function.{Function}
use Rattle.bat_calc.specs.declared.function.Function.TheVariants as function

-- a function of two cells, where None is an overflow; Not and IsNil ignore the second
abbrev pub function_of : Function → Cell → Cell → Option Cell
function_of function.Plus = arithmetic (λ x y. x +ℤ y)
function_of function.Minus = arithmetic (λ x y. x -ℤ y)
function_of function.Times = arithmetic (λ x y. x *ℤ y)
function_of function.Eq = λ x y. Some (comparison is_eq x y)
function_of function.Ne = λ x y. Some (comparison is_ne x y)
function_of function.Lt = λ x y. Some (comparison is_lt x y)
function_of function.Le = λ x y. Some (comparison is_le x y)
function_of function.Gt = λ x y. Some (comparison is_gt x y)
function_of function.Ge = λ x y. Some (comparison is_ge x y)
function_of function.And = λ x y. Some (conjunction x y)
function_of function.Or = λ x y. Some (disjunction x y)
function_of function.Not = λ x y. Some (negation x)
function_of function.IsNil = λ x y. Some (nil_test x)

-- a value has a cell at each of the first places
abbrev pub Reaches : ℕ → Value → Type 0
Reaches count (Bat b) = count ≤ length b
Reaches count (One cell) = Unit {0}

-- the first cells of a value
abbrev pub column : ℕ → Value → List Cell
column count v = map (λ k. cell_at k v) (range_with_len 0 count)

-- the values of a function of pairs of cells
abbrev pub applied : Function → Pairs → Option (List Cell)
applied function pairs = all_or_none (map (λ p. function_of function p.0 p.1) pairs)
