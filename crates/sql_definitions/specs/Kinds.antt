-- The kinds of expressions, and where they don't fit. The kind None is that of Nil, which fits every kind.
use Rattle.std.specs.Prelude.{ℕ, List, Bool, false, ◌||◌, not, Option, Some, slice_get}
use Rattle.std.specs.Option.{option_map, option_and_then}
use Rattle.cell_core.specs.declared.cell.Kind.{Kind}
use Rattle.cell_core.specs.declared.cell.Kind.TheVariants as kind
use Rattle.cell_core.specs.declared.table.Column.{Column}
use Rattle.cell_core.specs.Kinds.{kind_of, agrees, are_comparable}
use Rattle.sql_tree.specs.Tree.{ExprTree, CondTree}
use Rattle.sql_tree.specs.Tree.ExprTree.{Literal, ColumnOf, Operator, AggregateAll, Aggregate}
use Rattle.sql_tree.specs.Tree.CondTree.{Compare, Within, IsNull, Negation, Both, Either}
use Rattle.sql_tree.specs.declared.tree.AggOp.{AggOp}
use Rattle.sql_tree.specs.declared.tree.AggOp.TheVariants as aggregate
use Rattle.sql_tree.specs.declared.tree.ColRef.{ColRef}
use Rattle.sql_definitions.specs.Sources.{NamedSource, place_of}

-- the column at a place
abbrev pub column_at : List NamedSource → ℕ × ℕ → Option Column
column_at sources place = option_and_then (λ (source : NamedSource). slice_get source.columns place.1) (slice_get sources place.0)

-- the kind of the column that a reference means
abbrev pub kind_of_column : List NamedSource → ColRef → Option Kind
kind_of_column sources ref =
    option_map (λ (column : Column). column.kind) (option_and_then (column_at sources) (place_of sources ref))

-- the kind of an aggregate over cells of a kind
abbrev pub kind_of_aggregate : AggOp → Option Kind → Option Kind
kind_of_aggregate aggregate.Count k = Some kind.Int
kind_of_aggregate aggregate.Sum k = Some kind.Huge
kind_of_aggregate aggregate.Min k = k
kind_of_aggregate aggregate.Max k = k

-- the kind of an expression
abbrev pub kind_of_expr : List NamedSource → ExprTree → Option Kind
kind_of_expr sources (Literal cell) = kind_of cell
kind_of_expr sources (ColumnOf ref) = kind_of_column sources ref
kind_of_expr sources (Operator op left right) = Some kind.Int
kind_of_expr sources (AggregateAll f) = Some kind.Int
kind_of_expr sources (Aggregate f of) = kind_of_aggregate f (kind_of_expr sources of)

-- not an Int, which arithmetic and SUM need
abbrev pub is_no_int : Option Kind → Bool
is_no_int k = not (agrees k (Some kind.Int))

abbrev pub refuses : AggOp → Option Kind → Bool
refuses aggregate.Sum k = is_no_int k
refuses _ k = false

-- arithmetic or SUM in the expression is taken of another kind than Int
abbrev pub is_misfit : List NamedSource → ExprTree → Bool
is_misfit sources (Literal cell) = false
is_misfit sources (ColumnOf ref) = false
is_misfit sources (Operator op left right) =
    is_misfit sources left || is_misfit sources right || is_no_int (kind_of_expr sources left) || is_no_int (kind_of_expr sources right)
is_misfit sources (AggregateAll f) = false
is_misfit sources (Aggregate f of) = is_misfit sources of || refuses f (kind_of_expr sources of)

-- the two sides of a test are of kinds that can be compared
abbrev pub compares : List NamedSource → ExprTree → ExprTree → Bool
compares sources left right = are_comparable (kind_of_expr sources left) (kind_of_expr sources right)

-- kinds don't fit somewhere in the condition
abbrev pub is_cond_misfit : List NamedSource → CondTree → Bool
is_cond_misfit sources (Compare op left right) =
    is_misfit sources left || is_misfit sources right || not (compares sources left right)
is_cond_misfit sources (Within of low high) =
    is_misfit sources of || is_misfit sources low || is_misfit sources high || not (compares sources of low) || not (compares sources of high)
is_cond_misfit sources (IsNull of) = is_misfit sources of
is_cond_misfit sources (Negation cond) = is_cond_misfit sources cond
is_cond_misfit sources (Both left right) = is_cond_misfit sources left || is_cond_misfit sources right
is_cond_misfit sources (Either left right) = is_cond_misfit sources left || is_cond_misfit sources right
