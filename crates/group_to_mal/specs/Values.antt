-- The values of expressions and of tests over all rows so far, or over the groups of these rows.
use Rattle.std.specs.Prelude.{List, [], ◌∷◌, Bool, true, false, not, ◌||◌, Option, Some, None, get_or}
use Rattle.cell_core.specs.declared.cell.Cell.TheVariants.{Nil}
use Rattle.cell_core.specs.declared.operator.Op.{Op}
use Rattle.cell_core.specs.declared.operator.Op.TheVariants as op
use Rattle.cell_core.specs.declared.operator.Arg.{Arg}
use Rattle.cell_core.specs.declared.operator.Arg.TheVariants.{Const}
use Rattle.sql_tree.specs.Tree.{ExprTree, CondTree}
use Rattle.sql_tree.specs.Tree.ExprTree.{AggregateAll, Aggregate}
use Rattle.sql_tree.specs.Tree.CondTree.{Compare, Within, IsNull, Negation, Both, Either}
use Rattle.sql_tree.specs.declared.tree.AggOp.{AggOp}
use Rattle.sql_tree.specs.declared.tree.AggOp.TheVariants as aggregate
use Rattle.mal_emit.specs.Emitters.{Emitter, emits, gives, followed}
use Rattle.rows_to_mal.specs.Conjuncts.{Scope, expr_value, comparison_of, is_alone}
use Rattle.group_to_mal.specs.Columns.{spread_by}

-- ## Tests

-- one value and another
abbrev pub both_by : (ExprTree → Emitter Arg) → ExprTree → ExprTree → Op → Emitter Arg
both_by value left right operator = followed (value left) (λ x. followed (value right) (λ y. emits operator (x ∷ y ∷ [])))

-- the truth of a condition, where expressions have these values; BETWEEN takes its middle value twice
abbrev pub test_by : (ExprTree → Emitter Arg) → CondTree → Emitter Arg
test_by value (Compare operator left right) = both_by value left right (comparison_of operator)
test_by value (Within of low high) =
    followed (both_by value of low op.Ge) (λ a. followed (both_by value of high op.Le) (λ b. emits op.And (a ∷ b ∷ [])))
test_by value (IsNull of) = followed (value of) (λ x. emits op.IsNil (x ∷ []))
test_by value (Negation of) = followed (test_by value of) (λ x. emits op.Not (x ∷ []))
test_by value (Both left right) = followed (test_by value left) (λ x. followed (test_by value right) (λ y. emits op.And (x ∷ y ∷ [])))
test_by value (Either left right) = followed (test_by value left) (λ x. followed (test_by value right) (λ y. emits op.Or (x ∷ y ∷ [])))

-- it is a BAT where one of its sides is
abbrev pub test_bat : (ExprTree → Bool) → CondTree → Bool
test_bat is_bat (Compare operator left right) = is_bat left || is_bat right
test_bat is_bat (Within of low high) = (is_bat of || is_bat low) || (is_bat of || is_bat high)
test_bat is_bat (IsNull of) = is_bat of
test_bat is_bat (Negation of) = test_bat is_bat of
test_bat is_bat (Both left right) = test_bat is_bat left || test_bat is_bat right
test_bat is_bat (Either left right) = test_bat is_bat left || test_bat is_bat right

-- ## Aggregates

abbrev pub total_of : AggOp → Op
total_of aggregate.Count = op.Count
total_of aggregate.Sum = op.Sum
total_of aggregate.Min = op.Min
total_of aggregate.Max = op.Max

abbrev pub sub_of : AggOp → Op
sub_of aggregate.Count = op.Subcount
sub_of aggregate.Sum = op.Subsum
sub_of aggregate.Min = op.Submin
sub_of aggregate.Max = op.Submax

-- the oids of the first table's rows, one for each row so far
abbrev pub first_of : List Arg → Arg
first_of rows = get_or rows 0 (Const Nil)

-- the argument of an aggregate, with a cell for each row so far
abbrev pub argument : Scope → List Arg → ExprTree → Emitter Arg
argument scope rows of = followed (expr_value scope rows of) (λ v. spread_by (first_of rows) (not (is_alone of)) v)

-- ## Grouped without GROUP BY

-- a value over all rows so far
abbrev pub whole_value : Scope → List Arg → ExprTree → Emitter Arg
whole_value scope rows (AggregateAll f) = emits op.Count (first_of rows ∷ [])
whole_value scope rows (Aggregate f of) = followed (argument scope rows of) (λ v. emits (total_of f) (v ∷ []))
whole_value scope rows expr = expr_value scope rows expr

-- the truth of HAVING, which shows the one row or doesn't
abbrev pub whole_test : Scope → List Arg → Option CondTree → Emitter (Option Arg)
whole_test scope rows None = gives None
whole_test scope rows (Some cond) = followed (test_by (whole_value scope rows) cond) (λ v. gives (Some v))

-- ## GROUP BY

-- it has a cell for each group, and not one for all of them
abbrev pub is_grouped : ExprTree → Bool
is_grouped (AggregateAll f) = true
is_grouped (Aggregate f of) = true
is_grouped expr = not (is_alone expr)

-- the cell of each group's first row; a scalar stays
abbrev pub of_first : Arg → Bool → Arg → Emitter Arg
of_first h true v = gives v
of_first h false v = emits op.Join (h ∷ v ∷ [])

-- a value over each group of g, whose first rows are h
abbrev pub group_value : Scope → List Arg → Arg → Arg → ExprTree → Emitter Arg
group_value scope rows g h (AggregateAll f) = emits op.Subcount (first_of rows ∷ g ∷ [])
group_value scope rows g h (Aggregate f of) = followed (argument scope rows of) (λ v. emits (sub_of f) (v ∷ g ∷ []))
group_value scope rows g h expr = followed (expr_value scope rows expr) (λ v. of_first h (is_alone expr) v)
