-- Which conjuncts overflow: those whose column condition has no test.
use Rattle.std.proofs.Common.{◌≡◌, ℕ, ◌==◌, List, [], Bool, true, false, not, ◌&&◌, ◌||◌, cond, Option, Some, None, refl, ap, sym, ◌∙◌, subst}
use Rattle.std.specs.Prelude.{is_none, is_some}
use Rattle.std.specs.Option.{option_map, option_and_then}
use Rattle.std.proofs.lemmas.Option.{same_Some}
use Rattle.std.proofs.lemmas.Bool.{and_parts, and_from}
use Rattle.cell_core.specs.declared.cell.Cell.{Cell}
use Rattle.sql_tree.specs.Tree.{ExprTree, CondTree}
use Rattle.sql_tree.specs.Tree.ExprTree.{Literal, ColumnOf, Operator, AggregateAll, Aggregate}
use Rattle.sql_tree.specs.Tree.{CondTree as tree}
use Rattle.sql_tree.specs.Exprs.{cond_exprs}
use Rattle.sql_tree.specs.declared.tree.ArithOp.{ArithOp}
use Rattle.sql_tree.specs.declared.tree.CmpOp.{CmpOp}
use Rattle.sql_tree.specs.declared.tree.CmpOp.TheVariants as cmp
use Rattle.sql_definitions.specs.Sources.{NamedSource}
use Rattle.sql_definitions.specs.References.{is_constant}
use Rattle.sql_definitions.specs.Values.{value, result_of, constant_overflows}
use Rattle.pick_laws.proofs.ListLemmas.{any_append}
use Rattle.rows_to_mal.specs.Candidates.{Leaf, Least, Most, Same, Between, ColumnCond, Within, Outside, Either}
use Rattle.rows_to_mal.specs.Reading.{placed, column_of, is_known, left_leaf, right_leaf, both, read_compare, read_leaf, of_one_column, read_cond}
use Rattle.rows_to_mal.proofs.CandidateLemmas.{leaf_bounds, within, cond_test}
use Rattle.rows_to_mal.proofs.ReadLemmas.{both_parts, mapped, one_column}
use Rattle.rows_to_mal.proofs.SaidLemmas.{overflows}

-- ## Constants

known_constant : (expr : ExprTree) → is_known expr ≡ true → is_constant expr ≡ true
known_constant (Literal cell) e = refl
known_constant (ColumnOf ref) e = cc
known_constant (Operator operator left right) e =
    let parts = and_parts (is_known left) (is_known right) e in
    and_from (is_constant left) (is_constant right) (known_constant left parts.0) (known_constant right parts.1)
known_constant (AggregateAll f) e = cc
known_constant (Aggregate f of) e = cc

two_overflow : (operator : ArithOp) (o p : Option Cell) (a b c : Bool) → a ≡ is_none o → b ≡ is_none p → c ≡ true
    → (a || b) || (c && is_none (option_and_then (λ x. option_and_then (λ y. result_of operator x y) p) o)) ≡ is_none (option_and_then (λ x. option_and_then (λ y. result_of operator x y) p) o)
two_overflow operator None p a b c e f g = ap (λ x. (x || b) || (c && true)) e
two_overflow operator (Some x) None a b c e f g = ap (λ z. (z || b) || (c && true)) e ∙ ap (λ z. z || (c && true)) f
two_overflow operator (Some x) (Some y) a b c e f g =
    ap (λ z. (z || b) || (c && is_none (result_of operator x y))) e ∙ ap (λ z. z || (c && is_none (result_of operator x y))) f ∙ ap (λ z. z && is_none (result_of operator x y)) g

known_overflows : (expr : ExprTree) → is_known expr ≡ true → constant_overflows expr ≡ is_none (value [] [] expr)
known_overflows (Literal cell) e = refl
known_overflows (ColumnOf ref) e = cc
known_overflows (Operator operator left right) e =
    let parts = and_parts (is_known left) (is_known right) e in
    two_overflow operator (value [] [] left) (value [] [] right) (constant_overflows left) (constant_overflows right) (is_constant (Operator operator left right))
    (known_overflows left parts.0) (known_overflows right parts.1) (known_constant (Operator operator left right) e)
known_overflows (AggregateAll f) e = cc
known_overflows (Aggregate f of) e = cc

pub column_fine : (sources : List NamedSource) (expr : ExprTree) (place : ℕ × ℕ) → column_of sources expr ≡ Some place → constant_overflows expr ≡ false
column_fine sources (Literal cell) place e = refl
column_fine sources (ColumnOf ref) place e = refl
column_fine sources (Operator operator left right) place e = cc
column_fine sources (AggregateAll f) place e = refl
column_fine sources (Aggregate f of) place e = cc

-- ## Leaves

some_map : {X Y : Type 0} (f : X → Y) (o : Option X) → is_some (option_map f o) ≡ is_some o
some_map f None = refl
some_map f (Some x) = refl

not_none : {X : Type 0} (o : Option X) → not (is_none o) ≡ is_some o
not_none None = refl
not_none (Some x) = refl

left_some : (operator : CmpOp) (expr : ExprTree) (leaf : Leaf) → left_leaf operator expr ≡ Some leaf → is_some (leaf_bounds leaf) ≡ is_some (value [] [] expr)
left_some cmp.Eq expr leaf e = ap (λ l. is_some (leaf_bounds l)) (sym (same_Some (Same expr) leaf e)) ∙ some_map _ (value [] [] expr)
left_some cmp.Ne expr leaf e = cc
left_some cmp.Lt expr leaf e = ap (λ l. is_some (leaf_bounds l)) (sym (same_Some (Most expr false) leaf e)) ∙ some_map _ (value [] [] expr)
left_some cmp.Le expr leaf e = ap (λ l. is_some (leaf_bounds l)) (sym (same_Some (Most expr true) leaf e)) ∙ some_map _ (value [] [] expr)
left_some cmp.Gt expr leaf e = ap (λ l. is_some (leaf_bounds l)) (sym (same_Some (Least expr false) leaf e)) ∙ some_map _ (value [] [] expr)
left_some cmp.Ge expr leaf e = ap (λ l. is_some (leaf_bounds l)) (sym (same_Some (Least expr true) leaf e)) ∙ some_map _ (value [] [] expr)

right_some : (operator : CmpOp) (expr : ExprTree) (leaf : Leaf) → right_leaf operator expr ≡ Some leaf → is_some (leaf_bounds leaf) ≡ is_some (value [] [] expr)
right_some cmp.Eq expr leaf e = ap (λ l. is_some (leaf_bounds l)) (sym (same_Some (Same expr) leaf e)) ∙ some_map _ (value [] [] expr)
right_some cmp.Ne expr leaf e = cc
right_some cmp.Lt expr leaf e = ap (λ l. is_some (leaf_bounds l)) (sym (same_Some (Least expr false) leaf e)) ∙ some_map _ (value [] [] expr)
right_some cmp.Le expr leaf e = ap (λ l. is_some (leaf_bounds l)) (sym (same_Some (Least expr true) leaf e)) ∙ some_map _ (value [] [] expr)
right_some cmp.Gt expr leaf e = ap (λ l. is_some (leaf_bounds l)) (sym (same_Some (Most expr false) leaf e)) ∙ some_map _ (value [] [] expr)
right_some cmp.Ge expr leaf e = ap (λ l. is_some (leaf_bounds l)) (sym (same_Some (Most expr true) leaf e)) ∙ some_map _ (value [] [] expr)

or_right_false : (a b : Bool) → a ≡ false → a || (b || false) ≡ b
or_right_false true b e = cc
or_right_false false true e = refl
or_right_false false false e = refl

or_left_false : (a b : Bool) → b ≡ false → a || (b || false) ≡ a
or_left_false true b e = refl
or_left_false false true e = cc
or_left_false false false e = refl

module _ (sources : List NamedSource) where
  compare_fine : (operator operator' : CmpOp) (left right : ExprTree) (place : ℕ × ℕ) (leaf : Leaf) (b c : Bool) → is_known right ≡ b → is_known left ≡ c
      → cond b (both (column_of sources left) (left_leaf operator right)) (cond c (both (column_of sources right) (right_leaf operator left)) None) ≡ Some (place, leaf)
      → not (overflows (tree.Compare operator' left right)) ≡ is_some (leaf_bounds leaf)
  compare_fine operator operator' left right place leaf true c k l e =
      let parts = both_parts (column_of sources left) (left_leaf operator right) place leaf e in
      ap not (or_right_false (constant_overflows left) (constant_overflows right) (column_fine sources left place parts.0) ∙ known_overflows right k) ∙ not_none (value [] [] right) ∙ sym (left_some operator right leaf parts.1)
  compare_fine operator operator' left right place leaf false true k l e =
      let parts = both_parts (column_of sources right) (right_leaf operator left) place leaf e in
      ap not (or_left_false (constant_overflows left) (constant_overflows right) (column_fine sources right place parts.0) ∙ known_overflows left l) ∙ not_none (value [] [] left) ∙ sym (right_some operator left leaf parts.1)
  compare_fine operator operator' left right place leaf false false k l e = cc

  two_some : {X Y Z : Type 0} (f : X → Y → Z) (o : Option X) (p : Option Y) → is_some (option_and_then (λ x. option_map (λ y. f x y) p) o) ≡ is_some o && is_some p
  two_some f None p = refl
  two_some f (Some x) None = refl
  two_some f (Some x) (Some y) = refl

  not_or : (a b : Bool) → not (a || (b || false)) ≡ not a && not b
  not_or true b = refl
  not_or false true = refl
  not_or false false = refl

  between_fine : (of low high : ExprTree) (place : ℕ × ℕ) (leaf : Leaf) (b c : Bool) → is_known low ≡ b → is_known high ≡ c
      → cond (b && c) (both (column_of sources of) (Some (Between low high))) None ≡ Some (place, leaf) → not (overflows (tree.Within of low high)) ≡ is_some (leaf_bounds leaf)
  between_fine of low high place leaf true true k l e =
      let parts = both_parts (column_of sources of) (Some (Between low high)) place leaf e in
      ap (λ b. not (b || (constant_overflows low || (constant_overflows high || false)))) (column_fine sources of place parts.0)
      ∙ not_or (constant_overflows low) (constant_overflows high)
      ∙ ap (λ b. not b && not (constant_overflows high)) (known_overflows low k) ∙ ap (λ b. not (is_none (value [] [] low)) && not b) (known_overflows high l)
      ∙ ap (λ b. b && not (is_none (value [] [] high))) (not_none (value [] [] low)) ∙ ap (λ b. is_some (value [] [] low) && b) (not_none (value [] [] high))
      ∙ sym (two_some (λ x y. (x, y, true, true)) (value [] [] low) (value [] [] high))
      ∙ ap (λ l. is_some (leaf_bounds l)) (same_Some (Between low high) leaf parts.1)
  between_fine of low high place leaf true false k l e = cc
  between_fine of low high place leaf false c k l e = cc

  leaf_fine : (c : CondTree) (place : ℕ × ℕ) (leaf : Leaf) → read_leaf sources c ≡ Some (place, leaf) → not (overflows c) ≡ is_some (leaf_bounds leaf)
  leaf_fine (tree.Compare operator left right) place leaf e = compare_fine operator operator left right place leaf (is_known right) (is_known left) refl refl e
  leaf_fine (tree.Within of low high) place leaf e = between_fine of low high place leaf (is_known low) (is_known high) refl refl e
  leaf_fine (tree.IsNull of) place leaf e = cc
  leaf_fine (tree.Negation c) place leaf e = cc
  leaf_fine (tree.Both a b) place leaf e = cc
  leaf_fine (tree.Either a b) place leaf e = cc

  -- ## Column conditions

  abbrev pub Fine : CondTree → ColumnCond → Type 0
  Fine c column = not (overflows c) ≡ is_some (cond_test column)

  fine_along : (c : CondTree) (a b : ColumnCond) → a ≡ b → Fine c a → Fine c b
  fine_along c a b e h = subst (λ x. Fine c x) e h

  test_fine : (operator : CmpOp) (left right : ExprTree) (place : ℕ × ℕ) (column : ColumnCond) → option_map (placed Within) (read_compare sources operator left right) ≡ Some (place, column)
      → Fine (tree.Compare operator left right) column
  test_fine operator left right place column e =
      let found = mapped sources [] Within (read_compare sources operator left right) place column e in
      fine_along (tree.Compare operator left right) (Within found.0) column found.2
      (compare_fine operator operator left right place found.0 (is_known right) (is_known left) refl refl found.1 ∙ sym (some_map (λ r. within r) (leaf_bounds found.0)))

  outside_some : (leaf : Leaf) → is_some (leaf_bounds leaf) ≡ is_some (cond_test (Outside leaf))
  outside_some leaf = sym (some_map (λ r cell. not (Rattle.cell_core.specs.Pairs.is_nil cell) && not (within r cell)) (leaf_bounds leaf))

  not_both : (a b : Bool) → not (a || b) ≡ not a && not b
  not_both true b = refl
  not_both false b = refl

  either_fine : (left right : CondTree) (o p : Option ((ℕ × ℕ) × ColumnCond)) (place : ℕ × ℕ) (column : ColumnCond)
      → ((q : ℕ × ℕ) (c : ColumnCond) → o ≡ Some (q, c) → Fine left c) → ((q : ℕ × ℕ) (c : ColumnCond) → p ≡ Some (q, c) → Fine right c)
      → of_one_column o p ≡ Some (place, column) → Fine (tree.Either left right) column
  either_fine left right None p place column f g e = cc
  either_fine left right (Some a) None place column f g e = cc
  either_fine left right (Some a) (Some b) place column f g e =
      let parts = one_column sources [] a b place column ((a.0.0 == b.0.0) && (a.0.1 == b.0.1)) refl e in
      fine_along (tree.Either left right) (Either a.1 b.1) column parts.2
      (ap not (any_append constant_overflows (cond_exprs left) (cond_exprs right)) ∙ not_both (overflows left) (overflows right)
      ∙ ap (λ x. x && not (overflows right)) (f a.0 a.1 refl) ∙ ap (λ x. is_some (cond_test a.1) && x) (g b.0 b.1 refl)
      ∙ sym (two_some {Z = Cell → Bool} (λ (t u : Cell → Bool) cell. t cell || u cell) (cond_test a.1) (cond_test b.1)))

  -- a condition that is read as a column condition overflows just where that has no test
  pub cond_fine : (c : CondTree) (place : ℕ × ℕ) (column : ColumnCond) → read_cond sources c ≡ Some (place, column) → Fine c column
  cond_fine (tree.Compare cmp.Ne left right) place column e =
      let found = mapped sources [] Outside (read_compare sources cmp.Eq left right) place column e in
      fine_along (tree.Compare cmp.Ne left right) (Outside found.0) column found.2
      (compare_fine cmp.Eq cmp.Ne left right place found.0 (is_known right) (is_known left) refl refl found.1 ∙ outside_some found.0)
  cond_fine (tree.Compare cmp.Eq left right) place column e = test_fine cmp.Eq left right place column e
  cond_fine (tree.Compare cmp.Lt left right) place column e = test_fine cmp.Lt left right place column e
  cond_fine (tree.Compare cmp.Le left right) place column e = test_fine cmp.Le left right place column e
  cond_fine (tree.Compare cmp.Gt left right) place column e = test_fine cmp.Gt left right place column e
  cond_fine (tree.Compare cmp.Ge left right) place column e = test_fine cmp.Ge left right place column e
  cond_fine (tree.Within of low high) place column e =
      let found = mapped sources [] Within (read_leaf sources (tree.Within of low high)) place column e in
      fine_along (tree.Within of low high) (Within found.0) column found.2 (leaf_fine (tree.Within of low high) place found.0 found.1 ∙ sym (some_map (λ r. within r) (leaf_bounds found.0)))
  cond_fine (tree.IsNull of) place column e = cc
  cond_fine (tree.Negation c) place column e =
      let found = mapped sources [] Outside (read_leaf sources c) place column e in
      fine_along (tree.Negation c) (Outside found.0) column found.2 (leaf_fine c place found.0 found.1 ∙ outside_some found.0)
  cond_fine (tree.Both left right) place column e = cc
  cond_fine (tree.Either left right) place column e =
      either_fine left right (read_cond sources left) (read_cond sources right) place column (λ q c h. cond_fine left q c h) (λ q c h. cond_fine right q c h) e
