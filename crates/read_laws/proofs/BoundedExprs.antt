-- What is asked of an expression that is kept within its limit: whether it is past the limit, has a column,
-- arithmetic over columns, or a literal that could not be read.
use Rattle.std.proofs.Common.{◌≡◌, ℕ, ◌+◌, ◌<◌, ◌≤◌, Bool, true, false, not, ◌||◌, ◌&&◌, min, refl, ap, ◌∙◌, arith, nat_lt}
use Rattle.std.specs.Prelude.{if◌then◌else◌}
use Rattle.cell_core.specs.declared.cell.Cell.{Cell}
use Rattle.cell_core.specs.declared.cell.Cell.TheVariants as cell
use Rattle.sql_grammar.specs.Refused.{expr_nodes, has_column, is_column_arithmetic, has_wide_literal, is_wide_cell, is_out_of_range}
use Rattle.read_laws.proofs.Lists.{both, or_left, or_right, or_swapped, added, unchanged, of_choice, is_past, is_at_most, same_past}
use Rattle.read_laws.specs.Bounded.{number_cell, some_column, has_unread, with_column, with_unread, with_signs, bounded_operator, bounded}
use Rattle.read_laws.specs.DerivedExprs.{cell_with, expr_with}
use Rattle.read_laws.specs.Unread.{has_literal, unread_cell, is_unread_cell, cell_as_read, expr_as_read}
use Rattle.sql_tree.specs.Tree.{ExprTree}
use Rattle.sql_tree.specs.Tree.ExprTree.{Literal, ColumnOf, Operator, AggregateAll, Aggregate}
use Rattle.sql_tree.specs.declared.tree.ArithOp.{ArithOp}
use Rattle.sql_tree.specs.declared.tree.ArithOp.TheVariants as arith

-- ## Signs

column_of_unread : (other e : ExprTree) → has_column (with_unread other e) ≡ has_column e
column_of_unread other e = of_choice has_column (has_unread other && not (has_unread e)) _ _ ∙ unchanged _ (has_column e)

column_of_column : (other e : ExprTree) → has_column (with_column other e) ≡ (has_column e || has_column other)
column_of_column other e = of_choice has_column (has_column other && not (has_column e)) _ _ ∙ added (has_column e) (has_column other)

column_of_signs : (other e : ExprTree) → has_column (with_signs other e) ≡ (has_column e || has_column other)
column_of_signs other e = column_of_unread other (with_column other e) ∙ column_of_column other e

unread_of_column : (other e : ExprTree) → has_unread (with_column other e) ≡ has_unread e
unread_of_column other e = of_choice has_unread (has_column other && not (has_column e)) _ _ ∙ unchanged _ (has_unread e)

unread_of_unread : (other e : ExprTree) → has_unread (with_unread other e) ≡ (has_unread e || has_unread other)
unread_of_unread other e = of_choice has_unread (has_unread other && not (has_unread e)) _ _ ∙ added (has_unread e) (has_unread other)

unread_of_signs : (other e : ExprTree) → has_unread (with_signs other e) ≡ (has_unread e || has_unread other)
unread_of_signs other e = unread_of_unread other (with_column other e) ∙ ap (λ b. b || has_unread other) (unread_of_column other e)

nodes_of_choice : (b : Bool) (e more : ExprTree) → expr_nodes e ≤ expr_nodes (if b then Operator arith.Plus e more else e)
nodes_of_choice true e more = omega arith
nodes_of_choice false e more = omega arith

-- signs make no expression smaller
nodes_of_signs : (other e : ExprTree) → expr_nodes e ≤ expr_nodes (with_signs other e)
nodes_of_signs other e =
    let first = nodes_of_choice (has_column other && not (has_column e)) e some_column in
    let second = nodes_of_choice (has_unread other && not (has_unread (with_column other e))) (with_column other e) (Literal unread_cell) in omega (arith, first, second)

-- ## Operators

-- a fact for each of the three ways in which an operator is kept
module _ (P : ExprTree → Type 0) (op : ArithOp) (left right : ExprTree) where
  operator_cases : (64 < expr_nodes left → P (with_signs right left)) → (64 < expr_nodes right → P (with_signs left right)) → P (Operator op left right) → P (bounded_operator op left right)
  operator_cases large_left large_right small = go (nat_lt 64 (expr_nodes left)) refl (nat_lt 64 (expr_nodes right)) refl
    where
      go : (a : Bool) → nat_lt 64 (expr_nodes left) ≡ a → (b : Bool) → nat_lt 64 (expr_nodes right) ≡ b → P (if a then with_signs right left else (if b then with_signs left right else Operator op left right))
      go true h b k = large_left (is_past _ _ h)
      go false h true k = large_right (is_past _ _ k)
      go false h false k = small

column_of_operator : (op : ArithOp) (left right : ExprTree) → has_column (bounded_operator op left right) ≡ (has_column left || has_column right)
column_of_operator op left right =
    operator_cases (λ e. has_column e ≡ (has_column left || has_column right)) op left right
    (λ h. column_of_signs right left) (λ h. column_of_signs left right ∙ or_swapped (has_column right) (has_column left)) refl

unread_of_operator : (op : ArithOp) (left right : ExprTree) → has_unread (bounded_operator op left right) ≡ (has_unread left || has_unread right)
unread_of_operator op left right =
    operator_cases (λ e. has_unread e ≡ (has_unread left || has_unread right)) op left right
    (λ h. unread_of_signs right left) (λ h. unread_of_signs left right ∙ or_swapped (has_unread right) (has_unread left)) refl

-- past the limit an expression is an operator or an aggregate
arithmetic_of_large : (e : ExprTree) → 64 < expr_nodes e → is_column_arithmetic e ≡ has_column e
arithmetic_of_large (Literal literal) h = absurd (omega arith)
arithmetic_of_large (ColumnOf column) h = absurd (omega arith)
arithmetic_of_large (Operator op left right) h = refl
arithmetic_of_large (AggregateAll f) h = refl
arithmetic_of_large (Aggregate f of) h = refl

arithmetic_of_signs : (other e : ExprTree) → 64 < expr_nodes e → is_column_arithmetic (with_signs other e) ≡ (has_column e || has_column other)
arithmetic_of_signs other e h = arithmetic_of_large (with_signs other e) (let more = nodes_of_signs other e in omega arith) ∙ column_of_signs other e

arithmetic_of_operator : (op : ArithOp) (left right : ExprTree) → is_column_arithmetic (bounded_operator op left right) ≡ (has_column left || has_column right)
arithmetic_of_operator op left right =
    operator_cases (λ e. is_column_arithmetic e ≡ (has_column left || has_column right)) op left right
    (λ h. arithmetic_of_signs right left h) (λ h. arithmetic_of_signs left right h ∙ or_swapped (has_column right) (has_column left)) refl

nodes_of_operator : (op : ArithOp) (left right : ExprTree) → min 65 (expr_nodes (bounded_operator op left right)) ≡ min 65 (expr_nodes left + expr_nodes right + 1)
nodes_of_operator op left right =
    operator_cases (λ e. min 65 (expr_nodes e) ≡ min 65 (expr_nodes left + expr_nodes right + 1)) op left right
    (λ h. let more = nodes_of_signs right left in omega arith) (λ h. let more = nodes_of_signs left right in omega arith) refl

-- ## Expressions

pub column_kept : (e : ExprTree) → has_column (expr_with bounded e) ≡ has_column e
column_kept (Literal literal) = refl
column_kept (ColumnOf column) = refl
column_kept (Operator op left right) = column_of_operator op (expr_with bounded left) (expr_with bounded right) ∙ both _ _ _ _ (column_kept left) (column_kept right)
column_kept (AggregateAll f) = refl
column_kept (Aggregate f of) = refl

pub arithmetic_kept : (e : ExprTree) → is_column_arithmetic (expr_with bounded e) ≡ is_column_arithmetic e
arithmetic_kept (Literal literal) = refl
arithmetic_kept (ColumnOf column) = refl
arithmetic_kept (Operator op left right) = arithmetic_of_operator op (expr_with bounded left) (expr_with bounded right) ∙ both _ _ _ _ (column_kept left) (column_kept right)
arithmetic_kept (AggregateAll f) = refl
arithmetic_kept (Aggregate f of) = refl

-- the number of nodes is the same up to the limit
nodes_kept : (e : ExprTree) → min 65 (expr_nodes (expr_with bounded e)) ≡ min 65 (expr_nodes e)
nodes_kept (Literal literal) = refl
nodes_kept (ColumnOf column) = refl
nodes_kept (Operator op left right) =
    let here = nodes_of_operator op (expr_with bounded left) (expr_with bounded right) in
    let first = nodes_kept left in
    let second = nodes_kept right in joined _ _ _ _ _ here first second
  where
    joined : (all a b m n : ℕ) → min 65 all ≡ min 65 (a + b + 1) → min 65 a ≡ min 65 m → min 65 b ≡ min 65 n → min 65 all ≡ min 65 (m + n + 1)
    joined all a b m n e f g = omega arith
nodes_kept (AggregateAll f) = refl
nodes_kept (Aggregate f of) = nodes_kept of

pub large_kept : (e : ExprTree) → nat_lt 64 (expr_nodes (expr_with bounded e)) ≡ nat_lt 64 (expr_nodes e)
large_kept e = same_past 64 _ _ (nodes_kept e)

pub cell_kept : (c : Cell) → cell_with number_cell c ≡ cell_as_read c
cell_kept cell.Nil = refl
cell_kept (cell.Int n) = refl
cell_kept (cell.Huge n) = refl
cell_kept (cell.Text text) = refl
cell_kept (cell.Day day) = refl
cell_kept (cell.Bit b) = refl
cell_kept (cell.Oid n) = refl

pub unread_kept : (e : ExprTree) → has_literal is_unread_cell (expr_with bounded e) ≡ has_literal is_unread_cell (expr_as_read e)
unread_kept (Literal literal) = ap is_unread_cell (cell_kept literal)
unread_kept (ColumnOf column) = refl
unread_kept (Operator op left right) = unread_of_operator op (expr_with bounded left) (expr_with bounded right) ∙ both _ _ _ _ (unread_kept left) (unread_kept right)
unread_kept (AggregateAll f) = refl
unread_kept (Aggregate f of) = unread_kept of

-- ## Within the limits

-- an operator is as it is written where its operands are within the limit
pub operator_within : (op : ArithOp) (left right : ExprTree) → expr_nodes left ≤ 64 → expr_nodes right ≤ 64 → bounded_operator op left right ≡ Operator op left right
operator_within op left right h k = operator_cases (λ e. e ≡ Operator op left right) op left right (λ more. absurd (omega arith)) (λ more. absurd (omega arith)) refl

pub cell_whole : (c : Cell) → is_wide_cell c ≡ false → cell_with number_cell c ≡ c
cell_whole cell.Nil h = refl
cell_whole (cell.Int n) h = go (is_out_of_range n) h
  where
    go : (b : Bool) → b ≡ false → (if b then unread_cell else cell.Int n) ≡ cell.Int n
    go true e = cc
    go false e = refl
cell_whole (cell.Huge n) h = refl
cell_whole (cell.Text text) h = refl
cell_whole (cell.Day day) h = refl
cell_whole (cell.Bit b) h = refl
cell_whole (cell.Oid n) h = refl

within_whole : (e : ExprTree) → has_wide_literal e ≡ false → expr_nodes e ≤ 64 → expr_with bounded e ≡ e
within_whole (Literal literal) h k = ap Literal (cell_whole literal h)
within_whole (ColumnOf column) h k = refl
within_whole (Operator op left right) h k =
    ap (λ e. bounded_operator op e (expr_with bounded right)) (within_whole left (or_left _ _ h) (omega arith)) ∙ ap (bounded_operator op left) (within_whole right (or_right _ _ h) (omega arith))
    ∙ operator_within op left right (omega arith) (omega arith)
within_whole (AggregateAll f) h k = refl
within_whole (Aggregate f of) h k = ap (Aggregate f) (within_whole of h k)

-- an expression within its limits, without a number of more than 64 bits, is as it is written
pub expr_whole : (e : ExprTree) → (has_wide_literal e || nat_lt 64 (expr_nodes e)) ≡ false → expr_with bounded e ≡ e
expr_whole e h = within_whole e (or_left _ _ h) (is_at_most _ _ (or_right _ _ h))
