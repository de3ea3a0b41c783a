-- What the functions of cells return, and the same functions over BATs. None is an overflow.
use Rattle.std.specs.Prelude.{ℕ, ◌-◌, ◌^◌, List, [], ◌∷◌, map, zip, Bool, true, false, not, ◌&&◌, ◌||◌, if◌then◌else◌, ℤ, ◌+ℤ◌, ◌-ℤ◌, ◌*ℤ◌, pos, negsuc, int_le, Option, Some, None}
use Rattle.std.specs.Option.{option_map, option_and_then}
use Rattle.std.specs.declared.cmp.Ordering.{Ordering}
use Rattle.std.specs.Ordering.{is_eq, is_ne, is_lt, is_le, is_gt, is_ge}
use Rattle.cell_core.specs.declared.cell.Cell.{Cell}
use Rattle.cell_core.specs.declared.cell.Cell.TheVariants.{Nil, Int, Bit}
use Rattle.cell_core.specs.declared.operator.Op.{Op}
use Rattle.cell_core.specs.declared.operator.Op.TheVariants as op
use Rattle.cell_core.specs.declared.operator.Value.{Value}
use Rattle.cell_core.specs.declared.operator.Value.TheVariants.{Bat, One}
use Rattle.cell_core.specs.Order.{number, cell_cmp}
use Rattle.cell_core.specs.Pairs.{Pairs, heads_of, is_nil, is_true, bats_in, shortest, row_at, rows_of}

-- a number from -2^63 to 2^63 - 1
abbrev pub fits_int : ℤ → Bool
fits_int n = int_le (negsuc (2 ^ 63 - 1)) n && int_le n (pos (2 ^ 63 - 1))

-- the number as a cell, or an overflow
abbrev pub as_int : ℤ → Option Cell
as_int n = if fits_int n then Some (Int n) else None

-- a function of two numbers; of Nil it is Nil
abbrev pub arithmetic : (ℤ → ℤ → ℤ) → Cell → Cell → Option Cell
arithmetic f x y = if is_nil x || is_nil y then Some Nil else as_int (f (number x) (number y))

-- a test of how two cells compare; of Nil it is Nil
abbrev pub comparison : (Ordering → Bool) → Cell → Cell → Cell
comparison test x y = if is_nil x || is_nil y then Nil else Bit (test (cell_cmp x y))

-- false, and neither true nor Nil
abbrev pub is_false : Cell → Bool
is_false (Bit b) = not b
is_false _ = false

-- both are true, where Nil is unknown
abbrev pub conjunction : Cell → Cell → Cell
conjunction x y = if is_false x || is_false y then Bit false else if is_true x && is_true y then Bit true else Nil

-- one is true, where Nil is unknown
abbrev pub disjunction : Cell → Cell → Cell
disjunction x y = if is_true x || is_true y then Bit true else if is_false x && is_false y then Bit false else Nil

-- the opposite, where Nil is unknown
abbrev pub negation : Cell → Cell
negation (Bit b) = Bit (not b)
negation _ = Nil

-- whether there is no value, which is never unknown
abbrev pub nil_test : Cell → Cell
nil_test x = Bit (is_nil x)

-- a function of two cells, and of one cell, over lists of that many
abbrev pub over_two : (Cell → Cell → Option Cell) → List Cell → Option Cell
over_two f (x ∷ y ∷ []) = f x y
over_two f _ = None

abbrev pub over_one : (Cell → Option Cell) → List Cell → Option Cell
over_one f (x ∷ []) = f x
over_one f _ = None

-- the function of cells that an operator names, over a row of arguments; other operators name none
abbrev pub row_function : Op → List Cell → Option Cell
row_function op.Plus = over_two (arithmetic (λ x y. x +ℤ y))
row_function op.Minus = over_two (arithmetic (λ x y. x -ℤ y))
row_function op.Times = over_two (arithmetic (λ x y. x *ℤ y))
row_function op.Eq = over_two (λ x y. Some (comparison is_eq x y))
row_function op.Ne = over_two (λ x y. Some (comparison is_ne x y))
row_function op.Lt = over_two (λ x y. Some (comparison is_lt x y))
row_function op.Le = over_two (λ x y. Some (comparison is_le x y))
row_function op.Gt = over_two (λ x y. Some (comparison is_gt x y))
row_function op.Ge = over_two (λ x y. Some (comparison is_ge x y))
row_function op.And = over_two (λ x y. Some (conjunction x y))
row_function op.Or = over_two (λ x y. Some (disjunction x y))
row_function op.Not = over_one (λ x. Some (negation x))
row_function op.IsNil = over_one (λ x. Some (nil_test x))
row_function _ = λ row. None

-- all of them, or an overflow where one is
abbrev pub all_or_none : {X : Type 0} → List (Option X) → Option (List X)
all_or_none [] = Some []
all_or_none (x ∷ xs) = option_and_then (λ y. option_map (λ ys. y ∷ ys) (all_or_none xs)) x

-- the heads of the first BAT
abbrev pub first_heads : List Pairs → List Cell
first_heads [] = []
first_heads (b ∷ bs) = heads_of b

-- a function over scalars, or by position up to the shortest BAT, with the heads of the first BAT
abbrev pub calculated_at : Option ℕ → (List Cell → Option Cell) → List Value → Option Value
calculated_at None f values = option_map (λ cell. One cell) (f (row_at values 0))
calculated_at (Some count) f values =
    option_map (λ cells. Bat (zip (first_heads (bats_in values)) cells)) (all_or_none (map f (rows_of values count)))

abbrev pub calculated : (List Cell → Option Cell) → List Value → Option Value
calculated f values = calculated_at (shortest values) f values
