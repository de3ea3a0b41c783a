-- What the parts of the code stand for: ranges that are lent, and candidates so far.
use Rattle.std.specs.Prelude.{ℕ, ◌==◌, List, Bool, true, false, Option, Some, None}
use Rattle.std.specs.List.{list_any}
use Rattle.cell_core.specs.declared.operator.Arg.{Arg}
use Rattle.cell_core.specs.declared.operator.Arg.TheVariants.{Var}
use Rattle.sql_tree.specs.Tree.{CondTree, expr_tree}
use Rattle.sql_tree.specs.Tree.{CondTree as tree}
use Rattle.sql_tree.specs.declared.tree.CmpOp.TheVariants as cmp
use Rattle.sql_definitions.specs.declared.source.Source.{Source}
use Rattle.mal_emit.specs.Emitters.{Emitter}
use Rattle.rows_to_mal.specs.declared.reading.ColumnRange.{ColumnRange}
use Rattle.rows_to_mal.specs.declared.reading.ColumnRange.TheVariants as range
use Rattle.rows_to_mal.specs.Candidates.{Leaf, Least, Most, Same, Between, ColumnCond, Within, Outside, Either, narrowed, candidates}

abbrev pub leaf_of : ColumnRange → Leaf
leaf_of (range.Least of included) = Least (expr_tree of.now) included
leaf_of (range.Most of included) = Most (expr_tree of.now) included
leaf_of (range.Same of) = Same (expr_tree of.now)
leaf_of (range.Between low high) = Between (expr_tree low.now) (expr_tree high.now)

-- a column and its range
abbrev pub placed_leaf : (ℕ × ℕ) × ColumnRange → (ℕ × ℕ) × Leaf
placed_leaf at = (at.0, leaf_of at.1)

-- a range itself
abbrev pub is_one_range : ColumnCond → Bool
is_one_range (Within leaf) = true
is_one_range (Outside leaf) = false
is_one_range (Either left right) = false

-- a condition that is a range itself where it is of one column
abbrev pub is_ranged : CondTree → Bool
is_ranged (tree.Compare cmp.Ne left right) = false
is_ranged (tree.Compare operator left right) = true
is_ranged (tree.Within of low high) = true
is_ranged _ = false

-- the candidates by these column conditions and by those met before them, whose candidates have this number; None where none was met
abbrev pub candidates_from : Source → Option ℕ → List (ℕ × ColumnCond) → Emitter Arg
candidates_from source None conds = candidates source conds
candidates_from source (Some number) conds = narrowed source (Var number) conds

-- these tables have their link
abbrev pub used_by : List ℕ → ℕ → Bool
used_by tables n = list_any (λ m. m == n) tables
