-- When a condition holds. Truth is three-valued: true and false are the bits, and Nil is unknown.
use Rattle.std.specs.Prelude.{Bool, true, Option, Some, None}
use Rattle.std.specs.Ordering.{is_eq, is_ne, is_lt, is_le, is_gt, is_ge}
use Rattle.cell_core.specs.declared.cell.Cell.{Cell}
use Rattle.cell_core.specs.declared.cell.Cell.TheVariants.{Bit}
use Rattle.cell_core.specs.Pairs.{is_nil, is_true}
use Rattle.cell_core.specs.Calc.{comparison, conjunction, disjunction, negation}
use Rattle.sql_tree.specs.Tree.{ExprTree, CondTree}
use Rattle.sql_tree.specs.Tree.CondTree.{Compare, Within, IsNull, Negation, Both, Either}
use Rattle.sql_tree.specs.declared.tree.CmpOp.{CmpOp}
use Rattle.sql_tree.specs.declared.tree.CmpOp.TheVariants as cmp

-- a comparison of two cells, which is unknown where one of them is Nil
abbrev pub compared : CmpOp → Cell → Cell → Cell
compared cmp.Eq x y = comparison is_eq x y
compared cmp.Ne x y = comparison is_ne x y
compared cmp.Lt x y = comparison is_lt x y
compared cmp.Le x y = comparison is_le x y
compared cmp.Gt x y = comparison is_gt x y
compared cmp.Ge x y = comparison is_ge x y

-- the truth of a condition, where its expressions have these cells; BETWEEN is both of its comparisons, and IS NULL is never unknown
abbrev pub truth : (ExprTree → Cell) → CondTree → Cell
truth cell (Compare op left right) = compared op (cell left) (cell right)
truth cell (Within of low high) = conjunction (compared cmp.Ge (cell of) (cell low)) (compared cmp.Le (cell of) (cell high))
truth cell (IsNull of) = Bit (is_nil (cell of))
truth cell (Negation cond) = negation (truth cell cond)
truth cell (Both left right) = conjunction (truth cell left) (truth cell right)
truth cell (Either left right) = disjunction (truth cell left) (truth cell right)

-- the condition is true, and neither false nor unknown, or there is none
abbrev pub holds : (ExprTree → Cell) → Option CondTree → Bool
holds cell None = true
holds cell (Some cond) = is_true (truth cell cond)
