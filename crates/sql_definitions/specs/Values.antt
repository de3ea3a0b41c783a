-- The values of expressions over a choice, which is one row for each table, and over a group of choices.
use Rattle.std.specs.Prelude.{ℕ, List, [], ◌∷◌, length, map, Bool, false, ◌&&◌, ◌||◌, pos, ◌+ℤ◌, ◌-ℤ◌, ◌*ℤ◌, Option, Some, unwrap_or, slice_get, slice_index_or, is_none}
use Rattle.std.specs.Option.{option_and_then}
use Rattle.cell_core.specs.declared.cell.Cell.{Cell}
use Rattle.cell_core.specs.declared.cell.Cell.TheVariants.{Nil, Int}
use Rattle.cell_core.specs.Calc.{arithmetic}
use Rattle.cell_core.specs.Groups.{counted, summed, least, greatest}
use Rattle.sql_tree.specs.Tree.{ExprTree}
use Rattle.sql_tree.specs.Tree.ExprTree.{Literal, ColumnOf, Operator, AggregateAll, Aggregate}
use Rattle.sql_tree.specs.declared.tree.AggOp.{AggOp}
use Rattle.sql_tree.specs.declared.tree.AggOp.TheVariants as aggregate
use Rattle.sql_tree.specs.declared.tree.ArithOp.{ArithOp}
use Rattle.sql_tree.specs.declared.tree.ArithOp.TheVariants as op
use Rattle.sql_tree.specs.declared.tree.ColRef.{ColRef}
use Rattle.sql_definitions.specs.Sources.{NamedSource, place_of}
use Rattle.sql_definitions.specs.References.{is_constant}

-- one row for each table, in the order of FROM
abbrev pub Choice : Type 0
Choice = List (List Cell)

-- ## Over a choice

-- the cell at a place of a choice
abbrev pub cell_at : Choice → ℕ × ℕ → Option Cell
cell_at choice place = option_and_then (λ row. slice_get row place.1) (slice_get choice place.0)

-- the cell of the column that a reference means
abbrev pub column_cell : List NamedSource → Choice → ColRef → Cell
column_cell sources choice ref = unwrap_or (option_and_then (cell_at choice) (place_of sources ref)) Nil

-- the result of an operator: Nil where an operand is Nil, None where a number leaves the signed 64-bit range
abbrev pub result_of : ArithOp → Cell → Cell → Option Cell
result_of op.Plus x y = arithmetic (λ a b. a +ℤ b) x y
result_of op.Minus x y = arithmetic (λ a b. a -ℤ b) x y
result_of op.Times x y = arithmetic (λ a b. a *ℤ b) x y

-- the value of an expression over a choice, or None where an operator in it leaves the range; an aggregate has no cell there
abbrev pub value : List NamedSource → Choice → ExprTree → Option Cell
value sources choice (Literal cell) = Some cell
value sources choice (ColumnOf ref) = Some (column_cell sources choice ref)
value sources choice (Operator op left right) =
    option_and_then (λ x. option_and_then (λ y. result_of op x y) (value sources choice right)) (value sources choice left)
value sources choice (AggregateAll f) = Some Nil
value sources choice (Aggregate f of) = Some Nil

-- the cell of an expression over a choice
abbrev pub cell_over : List NamedSource → Choice → ExprTree → Cell
cell_over sources choice expr = unwrap_or (value sources choice expr) Nil

-- ## Over a group

-- an aggregate of cells, which skips those that are Nil: COUNT of none is 0, and the others of none are Nil
abbrev pub aggregated : AggOp → List Cell → Cell
aggregated aggregate.Count cells = counted cells
aggregated aggregate.Sum cells = summed cells
aggregated aggregate.Min cells = least cells
aggregated aggregate.Max cells = greatest cells

-- the first choice of a group, or no rows
abbrev pub first_choice : List Choice → Choice
first_choice group = slice_index_or group 0 []

-- the cell of an item or of a side of a test over a group: COUNT(*) is the group's length, another aggregate folds the cells of its argument, and anything else is the same for each choice of the group
abbrev pub group_cell : List NamedSource → List Choice → ExprTree → Cell
group_cell sources group (Literal cell) = cell
group_cell sources group (ColumnOf ref) = column_cell sources (first_choice group) ref
group_cell sources group (Operator op left right) = cell_over sources (first_choice group) (Operator op left right)
group_cell sources group (AggregateAll f) = Int (pos (length group))
group_cell sources group (Aggregate f of) = aggregated f (map (λ choice. cell_over sources choice of) group)

-- ## Overflow

-- arithmetic over constants alone leaves the range somewhere in the expression
abbrev pub constant_overflows : ExprTree → Bool
constant_overflows (Literal cell) = false
constant_overflows (ColumnOf ref) = false
constant_overflows (Operator op left right) =
    constant_overflows left || constant_overflows right || (is_constant (Operator op left right) && is_none (value [] [] (Operator op left right)))
constant_overflows (AggregateAll f) = false
constant_overflows (Aggregate f of) = constant_overflows of

-- what an item or a side of a test computes over single choices: itself, or the argument of an aggregate
abbrev pub over_choices : ExprTree → List ExprTree
over_choices (Literal cell) = Literal cell ∷ []
over_choices (ColumnOf ref) = ColumnOf ref ∷ []
over_choices (Operator op left right) = Operator op left right ∷ []
over_choices (AggregateAll f) = []
over_choices (Aggregate f of) = of ∷ []
