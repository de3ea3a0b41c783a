-- What is asked of a condition that is kept within its limit: whether it is past the limit, has arithmetic
-- over columns, or a literal that could not be read; and which expressions it has where it is within.
use Rattle.std.proofs.Common.{◌≡◌, ℕ, ◌+◌, ◌<◌, ◌≤◌, List, ◌++◌, Bool, true, false, not, ◌||◌, ◌&&◌, min, map, refl, ap, sym, ◌∙◌, arith, nat_lt}
use Rattle.std.specs.Prelude.{if◌then◌else◌}
use Rattle.std.specs.List.{list_any}
use Rattle.std.proofs.lemmas.List.{map-append}
use Rattle.std.proofs.lemmas.List.Folds.{list_any-append}
use Rattle.sql_tree.specs.Exprs.{cond_exprs}
use Rattle.sql_grammar.specs.Refused.{expr_nodes, cond_nodes, has_column_arithmetic, has_wide_literal}
use Rattle.read_laws.proofs.BoundedExprs.{arithmetic_kept, unread_kept, expr_whole}
use Rattle.read_laws.proofs.Lists.{both, or_left, or_right, or_swapped, or_false, added, unchanged, of_choice, is_past, is_at_most, same_past}
use Rattle.read_laws.specs.Bounded.{some_column, has_unread, cond_has_unread, with_arithmetic, with_unread_test, with_cond_signs, bounded_join, bounded}
use Rattle.read_laws.specs.DerivedExprs.{expr_with, cond_with}
use Rattle.read_laws.specs.Unread.{unread_cell, cond_as_read}
use Rattle.sql_tree.specs.Tree.{ExprTree, CondTree}
use Rattle.sql_tree.specs.Tree.ExprTree.{Literal, Operator}
use Rattle.sql_tree.specs.Tree.CondTree.{Compare, Within, IsNull, Negation, Both, Either}
use Rattle.sql_tree.specs.declared.tree.ArithOp.TheVariants as arith
use Rattle.sql_tree.specs.declared.tree.CmpOp.TheVariants as compare

-- ## Signs

-- a test of arithmetic over columns, and one of a literal that could not be read
abbrev column_test : CondTree
column_test = Compare compare.Eq (Operator arith.Plus some_column some_column) some_column

abbrev unread_test : CondTree
unread_test = IsNull (Literal unread_cell)

arithmetic_of_signs : (other c : CondTree) → has_column_arithmetic (with_cond_signs other c) ≡ (has_column_arithmetic c || has_column_arithmetic other)
arithmetic_of_signs other c =
    of_choice has_column_arithmetic (cond_has_unread other && not (cond_has_unread (with_arithmetic other c))) (Both (with_arithmetic other c) unread_test) (with_arithmetic other c)
    ∙ unchanged _ (has_column_arithmetic (with_arithmetic other c))
    ∙ of_choice has_column_arithmetic (has_column_arithmetic other && not (has_column_arithmetic c)) (Both c column_test) c ∙ added (has_column_arithmetic c) (has_column_arithmetic other)

unread_of_both : (c d : CondTree) → cond_has_unread (Both c d) ≡ (cond_has_unread c || cond_has_unread d)
unread_of_both c d = list_any-append has_unread (cond_exprs c) (cond_exprs d)

unread_of_arithmetic : (other c : CondTree) → cond_has_unread (with_arithmetic other c) ≡ cond_has_unread c
unread_of_arithmetic other c = go (has_column_arithmetic other && not (has_column_arithmetic c))
  where
    go : (b : Bool) → cond_has_unread (if b then Both c column_test else c) ≡ cond_has_unread c
    go true = unread_of_both c column_test ∙ or_false (cond_has_unread c)
    go false = refl

unread_of_test : (other c : CondTree) → cond_has_unread (with_unread_test other c) ≡ (cond_has_unread c || cond_has_unread other)
unread_of_test other c = go (cond_has_unread other && not (cond_has_unread c)) ∙ added (cond_has_unread c) (cond_has_unread other)
  where
    go : (b : Bool) → cond_has_unread (if b then Both c unread_test else c) ≡ (if b then (cond_has_unread c || true) else cond_has_unread c)
    go true = unread_of_both c unread_test
    go false = refl

unread_of_signs : (other c : CondTree) → cond_has_unread (with_cond_signs other c) ≡ (cond_has_unread c || cond_has_unread other)
unread_of_signs other c = unread_of_test other (with_arithmetic other c) ∙ ap (λ b. b || cond_has_unread other) (unread_of_arithmetic other c)

nodes_of_choice : (b : Bool) (c more : CondTree) → cond_nodes c ≤ cond_nodes (if b then Both c more else c)
nodes_of_choice true c more = omega arith
nodes_of_choice false c more = omega arith

nodes_of_signs : (other c : CondTree) → cond_nodes c ≤ cond_nodes (with_cond_signs other c)
nodes_of_signs other c =
    let first = nodes_of_choice (has_column_arithmetic other && not (has_column_arithmetic c)) c column_test in
    let second = nodes_of_choice (cond_has_unread other && not (cond_has_unread (with_arithmetic other c))) (with_arithmetic other c) unread_test in omega (arith, first, second)

-- ## Conditions joined

module _ (join : CondTree → CondTree → CondTree) where
  -- a fact for each of the three ways in which two conditions are joined
  module _ (P : CondTree → Type 0) (left right : CondTree) where
    join_cases : (128 < cond_nodes left → P (with_cond_signs right left)) → (128 < cond_nodes right → P (with_cond_signs left right)) → P (join left right) → P (bounded_join join left right)
    join_cases large_left large_right small = go (nat_lt 128 (cond_nodes left)) refl (nat_lt 128 (cond_nodes right)) refl
      where
        go : (a : Bool) → nat_lt 128 (cond_nodes left) ≡ a → (b : Bool) → nat_lt 128 (cond_nodes right) ≡ b → P (if a then with_cond_signs right left else (if b then with_cond_signs left right else join left right))
        go true h b k = large_left (is_past _ _ h)
        go false h true k = large_right (is_past _ _ k)
        go false h false k = small

  arithmetic_of_join : ((c d : CondTree) → has_column_arithmetic (join c d) ≡ (has_column_arithmetic c || has_column_arithmetic d)) → (c d : CondTree) → has_column_arithmetic (bounded_join join c d) ≡ (has_column_arithmetic c || has_column_arithmetic d)
  arithmetic_of_join joined c d =
      join_cases (λ e. has_column_arithmetic e ≡ (has_column_arithmetic c || has_column_arithmetic d)) c d
      (λ h. arithmetic_of_signs d c) (λ h. arithmetic_of_signs c d ∙ or_swapped (has_column_arithmetic d) (has_column_arithmetic c)) (joined c d)

  unread_of_join : ((c d : CondTree) → cond_has_unread (join c d) ≡ (cond_has_unread c || cond_has_unread d)) → (c d : CondTree) → cond_has_unread (bounded_join join c d) ≡ (cond_has_unread c || cond_has_unread d)
  unread_of_join joined c d =
      join_cases (λ e. cond_has_unread e ≡ (cond_has_unread c || cond_has_unread d)) c d
      (λ h. unread_of_signs d c) (λ h. unread_of_signs c d ∙ or_swapped (cond_has_unread d) (cond_has_unread c)) (joined c d)

  nodes_of_join : ((c d : CondTree) → cond_nodes (join c d) ≡ cond_nodes c + cond_nodes d + 1) → (c d : CondTree) → min 129 (cond_nodes (bounded_join join c d)) ≡ min 129 (cond_nodes c + cond_nodes d + 1)
  nodes_of_join joined c d =
      join_cases (λ e. min 129 (cond_nodes e) ≡ min 129 (cond_nodes c + cond_nodes d + 1)) c d
      (λ h. let more = nodes_of_signs d c in omega arith) (λ h. let more = nodes_of_signs c d in omega arith) (ap (min 129) (joined c d))

  -- conditions within the limit are joined as they are written
  join_within : (c d : CondTree) → cond_nodes c ≤ 128 → cond_nodes d ≤ 128 → bounded_join join c d ≡ join c d
  join_within c d h k = join_cases (λ e. e ≡ join c d) c d (λ more. absurd (omega arith)) (λ more. absurd (omega arith)) refl

-- ## Conditions

pub cond_arithmetic_kept : (c : CondTree) → has_column_arithmetic (cond_with bounded c) ≡ has_column_arithmetic c
cond_arithmetic_kept (Compare op left right) = both _ _ _ _ (arithmetic_kept left) (arithmetic_kept right)
cond_arithmetic_kept (Within of low high) = both _ _ _ _ (both _ _ _ _ (arithmetic_kept of) (arithmetic_kept low)) (arithmetic_kept high)
cond_arithmetic_kept (IsNull of) = arithmetic_kept of
cond_arithmetic_kept (Negation cond) = cond_arithmetic_kept cond
cond_arithmetic_kept (Both left right) = arithmetic_of_join Both (λ c d. refl) (cond_with bounded left) (cond_with bounded right) ∙ both _ _ _ _ (cond_arithmetic_kept left) (cond_arithmetic_kept right)
cond_arithmetic_kept (Either left right) = arithmetic_of_join Either (λ c d. refl) (cond_with bounded left) (cond_with bounded right) ∙ both _ _ _ _ (cond_arithmetic_kept left) (cond_arithmetic_kept right)

pub cond_unread_kept : (c : CondTree) → cond_has_unread (cond_with bounded c) ≡ cond_has_unread (cond_as_read c)
cond_unread_kept (Compare op left right) = both _ _ _ _ (unread_kept left) (ap (λ b. b || false) (unread_kept right))
cond_unread_kept (Within of low high) = both _ _ _ _ (unread_kept of) (both _ _ _ _ (unread_kept low) (ap (λ b. b || false) (unread_kept high)))
cond_unread_kept (IsNull of) = ap (λ b. b || false) (unread_kept of)
cond_unread_kept (Negation cond) = cond_unread_kept cond
cond_unread_kept (Both left right) =
    unread_of_join Both unread_of_both (cond_with bounded left) (cond_with bounded right) ∙ both _ _ _ _ (cond_unread_kept left) (cond_unread_kept right) ∙ sym (unread_of_both (cond_as_read left) (cond_as_read right))
cond_unread_kept (Either left right) =
    unread_of_join Either unread_of_both (cond_with bounded left) (cond_with bounded right) ∙ both _ _ _ _ (cond_unread_kept left) (cond_unread_kept right) ∙ sym (unread_of_both (cond_as_read left) (cond_as_read right))

joined_nodes : (all a b m n : ℕ) → min 129 all ≡ min 129 (a + b + 1) → min 129 a ≡ min 129 m → min 129 b ≡ min 129 n → min 129 all ≡ min 129 (m + n + 1)
joined_nodes all a b m n e f g = omega arith

one_more : (m n : ℕ) → min 129 m ≡ min 129 n → min 129 (m + 1) ≡ min 129 (n + 1)
one_more m n e = omega arith

-- the number of nodes is the same up to the limit
nodes_kept : (c : CondTree) → min 129 (cond_nodes (cond_with bounded c)) ≡ min 129 (cond_nodes c)
nodes_kept (Compare op left right) = refl
nodes_kept (Within of low high) = refl
nodes_kept (IsNull of) = refl
nodes_kept (Negation cond) = one_more _ _ (nodes_kept cond)
nodes_kept (Both left right) = joined_nodes _ _ _ _ _ (nodes_of_join Both (λ c d. refl) (cond_with bounded left) (cond_with bounded right)) (nodes_kept left) (nodes_kept right)
nodes_kept (Either left right) = joined_nodes _ _ _ _ _ (nodes_of_join Either (λ c d. refl) (cond_with bounded left) (cond_with bounded right)) (nodes_kept left) (nodes_kept right)

pub large_cond_kept : (c : CondTree) → nat_lt 128 (cond_nodes (cond_with bounded c)) ≡ nat_lt 128 (cond_nodes c)
large_cond_kept c = same_past 128 _ _ (nodes_kept c)

small_kept : (c : CondTree) → cond_nodes c ≤ 128 → cond_nodes (cond_with bounded c) ≤ 128
small_kept c h = let same = nodes_kept c in omega arith

-- ## Within the limits

joined_exprs : (left right : CondTree) → cond_exprs (cond_with bounded left) ≡ map (expr_with bounded) (cond_exprs left) → cond_exprs (cond_with bounded right) ≡ map (expr_with bounded) (cond_exprs right)
    → cond_exprs (cond_with bounded left) ++ cond_exprs (cond_with bounded right) ≡ map (expr_with bounded) (cond_exprs left ++ cond_exprs right)
joined_exprs left right e f = ap (λ xs. xs ++ cond_exprs (cond_with bounded right)) e ∙ ap (λ ys. map (expr_with bounded) (cond_exprs left) ++ ys) f ∙ sym (map-append (expr_with bounded) (cond_exprs left) (cond_exprs right))

within_exprs : (c : CondTree) → cond_nodes c ≤ 128 → cond_exprs (cond_with bounded c) ≡ map (expr_with bounded) (cond_exprs c)
within_exprs (Compare op left right) h = refl
within_exprs (Within of low high) h = refl
within_exprs (IsNull of) h = refl
within_exprs (Negation cond) h = within_exprs cond (omega arith)
within_exprs (Both left right) h =
    ap cond_exprs (join_within Both (cond_with bounded left) (cond_with bounded right) (small_kept left (omega arith)) (small_kept right (omega arith)))
    ∙ joined_exprs left right (within_exprs left (omega arith)) (within_exprs right (omega arith))
within_exprs (Either left right) h =
    ap cond_exprs (join_within Either (cond_with bounded left) (cond_with bounded right) (small_kept left (omega arith)) (small_kept right (omega arith)))
    ∙ joined_exprs left right (within_exprs left (omega arith)) (within_exprs right (omega arith))

-- a condition within its limit keeps its expressions
pub cond_exprs_kept : (c : CondTree) → nat_lt 128 (cond_nodes c) ≡ false → cond_exprs (cond_with bounded c) ≡ map (expr_with bounded) (cond_exprs c)
cond_exprs_kept c h = within_exprs c (is_at_most _ _ h)

-- an expression past a limit that it is asked for before it is taken as it is written
abbrev pub is_past_limits : ExprTree → Bool
is_past_limits e = has_wide_literal e || nat_lt 64 (expr_nodes e)

pub append_left : (xs ys : List ExprTree) → list_any is_past_limits (xs ++ ys) ≡ false → list_any is_past_limits xs ≡ false
append_left xs ys h = or_left _ _ (sym (list_any-append is_past_limits xs ys) ∙ h)

pub append_right : (xs ys : List ExprTree) → list_any is_past_limits (xs ++ ys) ≡ false → list_any is_past_limits ys ≡ false
append_right xs ys h = or_right (list_any is_past_limits xs) _ (sym (list_any-append is_past_limits xs ys) ∙ h)

within_whole : (c : CondTree) → list_any is_past_limits (cond_exprs c) ≡ false → cond_nodes c ≤ 128 → cond_with bounded c ≡ c
within_whole (Compare op left right) h k =
    ap (λ e. Compare op e (expr_with bounded right)) (expr_whole left (or_left _ _ h)) ∙ ap (Compare op left) (expr_whole right (or_left _ _ (or_right _ _ h)))
within_whole (Within of low high) h k =
    ap (λ e. Within e (expr_with bounded low) (expr_with bounded high)) (expr_whole of (or_left _ _ h)) ∙ ap (λ e. Within of e (expr_with bounded high)) (expr_whole low (or_left _ _ (or_right _ _ h)))
    ∙ ap (Within of low) (expr_whole high (or_left _ _ (or_right _ _ (or_right _ _ h))))
within_whole (IsNull of) h k = ap IsNull (expr_whole of (or_left _ _ h))
within_whole (Negation cond) h k = ap Negation (within_whole cond h (omega arith))
within_whole (Both left right) h k =
    ap (λ c. bounded_join Both c (cond_with bounded right)) (within_whole left (append_left (cond_exprs left) (cond_exprs right) h) (omega arith))
    ∙ ap (bounded_join Both left) (within_whole right (append_right (cond_exprs left) (cond_exprs right) h) (omega arith)) ∙ join_within Both left right (omega arith) (omega arith)
within_whole (Either left right) h k =
    ap (λ c. bounded_join Either c (cond_with bounded right)) (within_whole left (append_left (cond_exprs left) (cond_exprs right) h) (omega arith))
    ∙ ap (bounded_join Either left) (within_whole right (append_right (cond_exprs left) (cond_exprs right) h) (omega arith)) ∙ join_within Either left right (omega arith) (omega arith)

-- a condition within its limits is as it is written
pub cond_whole : (c : CondTree) → list_any is_past_limits (cond_exprs c) ≡ false → nat_lt 128 (cond_nodes c) ≡ false → cond_with bounded c ≡ c
cond_whole c h k = within_whole c h (is_at_most _ _ k)
