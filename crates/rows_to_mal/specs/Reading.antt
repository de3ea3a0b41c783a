-- Which conditions are column conditions: of one column, with constants.
use Rattle.std.specs.Prelude.{ℕ, List, Bool, true, false, not, ◌&&◌, ◌==◌, Option, Some, None, if◌then◌else◌}
use Rattle.std.specs.Option.{option_map, option_and_then}
use Rattle.cell_core.specs.Pairs.{is_nil}
use Rattle.sql_tree.specs.Tree.{ExprTree, CondTree}
use Rattle.sql_tree.specs.Tree.ExprTree.{Literal, ColumnOf, Operator}
use Rattle.sql_tree.specs.Tree.{CondTree as tree}
use Rattle.sql_tree.specs.declared.tree.CmpOp.{CmpOp}
use Rattle.sql_tree.specs.declared.tree.CmpOp.TheVariants as cmp
use Rattle.sql_definitions.specs.Sources.{NamedSource, place_of}
use Rattle.rows_to_mal.specs.Candidates.{Leaf, Least, Most, Same, Between, ColumnCond, Within, Outside, Either}

-- the place of an expression that is a column
abbrev pub column_of : List NamedSource → ExprTree → Option (ℕ × ℕ)
column_of sources (ColumnOf ref) = place_of sources ref
column_of sources _ = None

-- it has no column, no aggregate and no NULL
abbrev pub is_known : ExprTree → Bool
is_known (Literal cell) = not (is_nil cell)
is_known (Operator operator left right) = is_known left && is_known right
is_known _ = false

-- the range of a column on the left of a constant, and on its right
abbrev pub left_leaf : CmpOp → ExprTree → Option Leaf
left_leaf cmp.Eq of = Some (Same of)
left_leaf cmp.Ne of = None
left_leaf cmp.Lt of = Some (Most of false)
left_leaf cmp.Le of = Some (Most of true)
left_leaf cmp.Gt of = Some (Least of false)
left_leaf cmp.Ge of = Some (Least of true)

abbrev pub right_leaf : CmpOp → ExprTree → Option Leaf
right_leaf cmp.Eq of = Some (Same of)
right_leaf cmp.Ne of = None
right_leaf cmp.Lt of = Some (Least of false)
right_leaf cmp.Le of = Some (Least of true)
right_leaf cmp.Gt of = Some (Most of false)
right_leaf cmp.Ge of = Some (Most of true)

abbrev pub both : {X Y : Type 0} → Option X → Option Y → Option (X × Y)
both o p = option_and_then (λ x. option_map (λ y. (x, y)) p) o

-- the column and the range of a range leaf
abbrev pub read_compare : List NamedSource → CmpOp → ExprTree → ExprTree → Option ((ℕ × ℕ) × Leaf)
read_compare sources operator left right =
    if is_known right then both (column_of sources left) (left_leaf operator right)
    else if is_known left then both (column_of sources right) (right_leaf operator left) else None

abbrev pub read_leaf : List NamedSource → CondTree → Option ((ℕ × ℕ) × Leaf)
read_leaf sources (tree.Compare operator left right) = read_compare sources operator left right
read_leaf sources (tree.Within of low high) = if is_known low && is_known high then both (column_of sources of) (Some (Between low high)) else None
read_leaf sources _ = None

-- a condition made of a leaf, of the same column
abbrev pub placed : (Leaf → ColumnCond) → (ℕ × ℕ) × Leaf → (ℕ × ℕ) × ColumnCond
placed make at = (at.0, make at.1)

-- the same column twice
abbrev pub of_one_column : Option ((ℕ × ℕ) × ColumnCond) → Option ((ℕ × ℕ) × ColumnCond) → Option ((ℕ × ℕ) × ColumnCond)
of_one_column (Some a) (Some b) = if (a.0.0 == b.0.0) && (a.0.1 == b.0.1) then Some (a.0, Either a.1 b.1) else None
of_one_column _ _ = None

-- the column condition that a comparison is; `<>` is NOT of `=`
abbrev pub read_test : List NamedSource → CmpOp → ExprTree → ExprTree → Option ((ℕ × ℕ) × ColumnCond)
read_test sources cmp.Ne left right = option_map (placed Outside) (read_compare sources cmp.Eq left right)
read_test sources operator left right = option_map (placed Within) (read_compare sources operator left right)

abbrev pub read_cond : List NamedSource → CondTree → Option ((ℕ × ℕ) × ColumnCond)
read_cond sources (tree.Compare operator left right) = read_test sources operator left right
read_cond sources (tree.Within of low high) = option_map (placed Within) (read_leaf sources (tree.Within of low high))
read_cond sources (tree.IsNull of) = None
read_cond sources (tree.Negation of) = option_map (placed Outside) (read_leaf sources of)
read_cond sources (tree.Both left right) = None
read_cond sources (tree.Either left right) = of_one_column (read_cond sources left) (read_cond sources right)
