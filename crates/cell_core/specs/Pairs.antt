-- BATs as lists of pairs of a head and a tail, and the values of plans: a BAT or a scalar.
use Rattle.std.specs.Prelude.{ℕ, min, List, [], ◌∷◌, length, map, Bool, true, false, get_or, Option, Some, None}
use Rattle.std.specs.List.{enumerate_from, filter_map, range_with_len}
use Rattle.std.specs.Option.{option_map_or}
use Rattle.cell_core.specs.declared.cell.Cell.{Cell}
use Rattle.cell_core.specs.declared.cell.Cell.TheVariants.{Nil, Int, Huge, Text, Day, Bit, Oid}
use Rattle.cell_core.specs.declared.operator.Value.{Value}
use Rattle.cell_core.specs.declared.operator.Value.TheVariants.{Bat, One}

-- a BAT: pairs of a head and a tail
abbrev pub Pairs : Type 0
Pairs = List (Cell × Cell)

abbrev pub heads_of : Pairs → List Cell
heads_of b = map (λ p. p.0) b

abbrev pub tails_of : Pairs → List Cell
tails_of b = map (λ p. p.1) b

-- no value
abbrev pub is_nil : Cell → Bool
is_nil Nil = true
is_nil (Int n) = false
is_nil (Huge n) = false
is_nil (Text bs) = false
is_nil (Day n) = false
is_nil (Bit b) = false
is_nil (Oid n) = false

-- true, and neither false nor Nil
abbrev pub is_true : Cell → Bool
is_true (Bit b) = b
is_true _ = false

-- the cells beside the oids 0, 1, 2 and so on
abbrev pub numbered : List Cell → Pairs
numbered cells = map (λ c. (Oid c.0, c.1)) (enumerate_from 0 cells)

-- the BATs among values
abbrev pub as_bat : Value → Option Pairs
as_bat (Bat b) = Some b
as_bat (One cell) = None

abbrev pub bats_in : List Value → List Pairs
bats_in values = filter_map as_bat values

-- how many pairs a value has; a scalar counts 0
abbrev pub pair_count : Value → ℕ
pair_count (Bat b) = length b
pair_count (One cell) = 0

-- the length of the shortest BAT, if there is one
abbrev pub least_length : List Pairs → Option ℕ
least_length [] = None
least_length (b ∷ bs) = Some (option_map_or (λ n. min (length b) n) (least_length bs) (length b))

abbrev pub shortest : List Value → Option ℕ
shortest values = least_length (bats_in values)

-- the cell of a value at a place: the tail there, or the scalar
abbrev pub cell_at : ℕ → Value → Cell
cell_at i (Bat b) = get_or (tails_of b) i Nil
cell_at i (One cell) = cell

-- the cells of the values at a place, side by side
abbrev pub row_at : List Value → ℕ → List Cell
row_at values i = map (cell_at i) values

-- the cells of the values at the first places
abbrev pub rows_of : List Value → ℕ → List (List Cell)
rows_of values count = map (row_at values) (range_with_len 0 count)
