-- What the code asks of conjuncts is what the definition shares out.
use Rattle.std.proofs.Common.{◌≡◌, ℕ, List, Bool, true, false, if◌then◌else◌, Option, Some, None, ◌⊎◌, refl, arith}
use Rattle.std.specs.Option.{option_map}
use Rattle.std.specs.Prelude.{◌&&◌, ◌==◌}
use Rattle.sql_tree.specs.Tree.{ExprTree, CondTree}
use Rattle.sql_tree.specs.Tree.{CondTree as tree}
use Rattle.sql_tree.specs.declared.tree.CmpOp.{CmpOp}
use Rattle.sql_tree.specs.declared.tree.CmpOp.TheVariants as cmp
use Rattle.sql_definitions.specs.Sources.{NamedSource}
use Rattle.rows_to_mal.specs.Candidates.{ColumnCond, Within, Outside, Either, Leaf}
use Rattle.rows_to_mal.specs.Lent.{is_one_range, is_ranged}
use Rattle.rows_to_mal.specs.Reading.{read_compare, read_leaf, read_test, read_cond, of_one_column, placed}

-- ## Comparisons

-- another comparison than `<>`
abbrev pub Ranged : CmpOp → Type 0
Ranged operator = (operator ≡ cmp.Eq) ⊎ ((operator ≡ cmp.Lt) ⊎ ((operator ≡ cmp.Le) ⊎ ((operator ≡ cmp.Gt) ⊎ (operator ≡ cmp.Ge))))

pub test_ranged : (sources : List NamedSource) (operator : CmpOp) (left right : ExprTree) → Ranged operator
    → read_test sources operator left right ≡ option_map (placed Within) (read_compare sources operator left right)
test_ranged sources cmp.Eq left right ranged = refl
test_ranged sources cmp.Ne left right ranged = grind arith
test_ranged sources cmp.Lt left right ranged = refl
test_ranged sources cmp.Le left right ranged = refl
test_ranged sources cmp.Gt left right ranged = refl
test_ranged sources cmp.Ge left right ranged = refl

pub placed_keeps : (make : Leaf → ColumnCond) (found : Option ((ℕ × ℕ) × Leaf)) → option_map (λ at. at.0) (option_map (placed make) found) ≡ option_map (λ at. at.0) found
placed_keeps make None = refl
placed_keeps make (Some at) = refl

-- a range that is read is one itself
within_is : (found : Option ((ℕ × ℕ) × Leaf)) (at : (ℕ × ℕ) × ColumnCond) → option_map (placed Within) found ≡ Some at → true ≡ is_one_range at.1
within_is None at e = cc
within_is (Some leaf) at e = grind (arith, e)

outside_is : (found : Option ((ℕ × ℕ) × Leaf)) (at : (ℕ × ℕ) × ColumnCond) → option_map (placed Outside) found ≡ Some at → false ≡ is_one_range at.1
outside_is None at e = cc
outside_is (Some leaf) at e = grind (arith, e)

either_made : (same : Bool) (place : ℕ × ℕ) (left right : ColumnCond) (at : (ℕ × ℕ) × ColumnCond) → (if same then Some (place, Either left right) else None) ≡ Some at → false ≡ is_one_range at.1
either_made true place left right at e = grind (arith, e)
either_made false place left right at e = cc

either_is : (left right : Option ((ℕ × ℕ) × ColumnCond)) (at : (ℕ × ℕ) × ColumnCond) → of_one_column left right ≡ Some at → false ≡ is_one_range at.1
either_is None right at e = cc
either_is (Some left) None at e = cc
either_is (Some left) (Some right) at e = either_made ((left.0.0 == right.0.0) && (left.0.1 == right.0.1)) left.0 left.1 right.1 at e

pub ranged_is : (sources : List NamedSource) (cond : CondTree) (at : (ℕ × ℕ) × ColumnCond) → read_cond sources cond ≡ Some at → is_ranged cond ≡ is_one_range at.1
ranged_is sources (tree.Compare cmp.Eq left right) at e = within_is (read_compare sources cmp.Eq left right) at e
ranged_is sources (tree.Compare cmp.Ne left right) at e = outside_is (read_compare sources cmp.Eq left right) at e
ranged_is sources (tree.Compare cmp.Lt left right) at e = within_is (read_compare sources cmp.Lt left right) at e
ranged_is sources (tree.Compare cmp.Le left right) at e = within_is (read_compare sources cmp.Le left right) at e
ranged_is sources (tree.Compare cmp.Gt left right) at e = within_is (read_compare sources cmp.Gt left right) at e
ranged_is sources (tree.Compare cmp.Ge left right) at e = within_is (read_compare sources cmp.Ge left right) at e
ranged_is sources (tree.Within of low high) at e = within_is (read_leaf sources (tree.Within of low high)) at e
ranged_is sources (tree.IsNull of) at e = cc
ranged_is sources (tree.Negation of) at e = outside_is (read_leaf sources of) at e
ranged_is sources (tree.Both left right) at e = cc
ranged_is sources (tree.Either left right) at e = either_is (read_cond sources left) (read_cond sources right) at e

pub compare_ranged : (operator : CmpOp) (left right : ExprTree) → Ranged operator → is_ranged (tree.Compare operator left right) ≡ true
compare_ranged cmp.Eq left right ranged = refl
compare_ranged cmp.Ne left right ranged = grind arith
compare_ranged cmp.Lt left right ranged = refl
compare_ranged cmp.Le left right ranged = refl
compare_ranged cmp.Gt left right ranged = refl
compare_ranged cmp.Ge left right ranged = refl
