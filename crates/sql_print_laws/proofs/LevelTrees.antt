-- The levels of expressions and conditions as they are printed.
use Rattle.std.proofs.Common.{◌≡◌, ℕ, suc, ◌+◌, ◌-◌, ◌≤◌, List, [], ◌∷◌, false, Option, Some, None, pos, negsuc, arith}
use Rattle.std.specs.Prelude.{nat_lt, decimal}
use Rattle.std.specs.List.{AllByRecursion}
use Rattle.std.proofs.lemmas.Bool.Decides.{nat_tests}
use Rattle.cell_core.specs.declared.cell.Cell.{Cell}
use Rattle.cell_core.specs.declared.cell.Cell.TheVariants as cell
use Rattle.sql_grammar.specs.Grammar.{sign, NameRule, write_name, write_literal, write_column, FactorRule, write_expr, write_factor, aggregate_word, write_value, write_cmp, write_cond, write_unit, write_where}
use Rattle.sql_grammar.specs.Grammar.NameRule.{BareName, QuotedName}
use Rattle.sql_tree.specs.Exprs.{cond_exprs}
use Rattle.sql_grammar.specs.Refused.{expr_nodes, cond_nodes}
use Rattle.sql_grammar.specs.Written.{IsLiteral}
use Rattle.sql_print_laws.proofs.LevelLemmas.{Deep, flat, minus, denial, enclosed, deeper, both}
use Rattle.sql_print_laws.proofs.NamedLemmas.{all_parts}
use Rattle.sql_print_laws.specs.CanonRules.{canon_name, canon_literal, column_rule, canon_reference, factor_rule, operator_rule, canon_factor, canon_operand, canon_expr, canon_value, canon_value_operand, canon_cmp, compared_unit, within_unit, null_unit, canon_cond, canon_part, canon_where, canon_having}
use Rattle.sql_print_laws.specs.Printable.{IsPrintableExpr, IsPrintableValue, IsPrintableCond, IsPrintableWhere, IsPrintableHaving}
use Rattle.sql_tree.specs.Tree.{ExprTree, CondTree}
use Rattle.sql_tree.specs.Tree.ExprTree.{Literal, ColumnOf, Operator, AggregateAll, Aggregate}
use Rattle.sql_tree.specs.Tree.CondTree.{Compare, Within, IsNull, Negation, Both, Either}
use Rattle.sql_tree.specs.declared.token.Keyword.TheVariants as word
use Rattle.sql_tree.specs.declared.token.Symbol.TheVariants as symbol
use Rattle.sql_tree.specs.declared.token.Token.{Token}
use Rattle.sql_tree.specs.declared.token.Token.TheVariants.{Name, Quoted, Text, Digits, Key}
use Rattle.sql_tree.specs.declared.tree.AggOp.{AggOp}
use Rattle.sql_tree.specs.declared.tree.AggOp.TheVariants as aggregate
use Rattle.sql_tree.specs.declared.tree.ArithOp.{ArithOp}
use Rattle.sql_tree.specs.declared.tree.ArithOp.TheVariants as arithmetic
use Rattle.sql_tree.specs.declared.tree.CmpOp.{CmpOp}
use Rattle.sql_tree.specs.declared.tree.CmpOp.TheVariants as compare
use Rattle.sql_tree.specs.declared.tree.ColRef.{ColRef}

-- ## Names, literals and columns

rule_deep : (d : ℕ) (n : NameRule) → Deep d (write_name n)
rule_deep d (BareName name) = flat (Name name) (λ o r s h. h)
rule_deep d (QuotedName name) = flat (Quoted name) (λ o r s h. h)

pub name_deep : (d : ℕ) (name : List ℕ) → Deep d (write_name (canon_name name))
name_deep d name = rule_deep d (canon_name name)

pub literal_deep : (c : Cell) (is : IsLiteral c) → Deep 1 (write_literal (canon_literal c is))
literal_deep (cell.Int (pos n)) is = flat (Digits (decimal n)) (λ o r s h. h)
literal_deep (cell.Int (negsuc n)) is = minus (flat {d = 0} (Digits (decimal (suc n))) (λ o r s h. h))
literal_deep (cell.Text text) is = flat (Text text) (λ o r s h. h)
literal_deep (cell.Day day) is = both (flat (Key word.Date) (λ o r s h. h)) (flat (Text is.0) (λ o r s h. h))
literal_deep cell.Nil is = flat (Key word.Null) (λ o r s h. h)
literal_deep (cell.Huge n) is = absurd is
literal_deep (cell.Bit b) is = absurd is
literal_deep (cell.Oid n) is = absurd is

by_table_deep : (d : ℕ) (table : Option (List ℕ)) (column : List ℕ) → Deep d (write_column (column_rule table column))
by_table_deep d None column = name_deep d column
by_table_deep d (Some table) column = both (name_deep d table) (both (flat (sign symbol.Dot) (λ o r s h. h)) (name_deep d column))

pub reference_deep : (d : ℕ) (c : ColRef) → Deep d (write_column (canon_reference c))
reference_deep d c = by_table_deep d c.table c.column

-- ## Expressions

number_deep : (c : Cell) (is : IsLiteral c) → Deep 1 (write_factor (factor_rule (canon_literal c is)))
number_deep (cell.Int (pos n)) is = flat (Digits (decimal n)) (λ o r s h. h)
number_deep (cell.Int (negsuc n)) is = minus (flat {d = 0} (Digits (decimal (suc n))) (λ o r s h. h))
number_deep (cell.Text text) is = flat (Text text) (λ o r s h. h)
number_deep (cell.Day day) is = both (flat (Key word.Date) (λ o r s h. h)) (flat (Text is.0) (λ o r s h. h))
number_deep cell.Nil is = flat (Key word.Null) (λ o r s h. h)
number_deep (cell.Huge n) is = absurd is
number_deep (cell.Bit b) is = absurd is
number_deep (cell.Oid n) is = absurd is

operator_deep : (op : ArithOp) (f g : FactorRule) (a b : ℕ) → Deep a (write_factor f) → Deep b (write_factor g) → Deep (a + b + 1) (write_expr (operator_rule op f g))
operator_deep arithmetic.Plus f g a b x y = both (deeper x (omega arith)) (both (flat (sign symbol.Plus) (λ o r s h. h)) (deeper y (omega arith)))
operator_deep arithmetic.Minus f g a b x y = both (deeper x (omega arith)) (deeper (minus y) (omega arith))
operator_deep arithmetic.Times f g a b x y = both (deeper x (omega arith)) (both (flat (sign symbol.Star) (λ o r s h. h)) (deeper y (omega arith)))

factor_deep : (e : ExprTree) (is : IsPrintableExpr e) → Deep (expr_nodes e + expr_nodes e) (write_factor (canon_factor e is))
factor_deep (Literal literal) is = deeper (number_deep literal is) (omega arith)
factor_deep (ColumnOf column) is = reference_deep 2 column
factor_deep (Operator op left right) is =
    let a : ℕ = expr_nodes left + expr_nodes left in
    let b : ℕ = expr_nodes right + expr_nodes right in
    deeper (enclosed (operator_deep op (canon_factor left is.0) (canon_factor right is.1) a b (factor_deep left is.0) (factor_deep right is.1))) (omega arith)
factor_deep (AggregateAll f) is = absurd is
factor_deep (Aggregate f of) is = absurd is

pub expr_deep : (e : ExprTree) (is : IsPrintableExpr e) → Deep (expr_nodes e + expr_nodes e) (write_expr (canon_expr e is))
expr_deep (Literal literal) is = deeper (number_deep literal is) (omega arith)
expr_deep (ColumnOf column) is = reference_deep 2 column
expr_deep (Operator op left right) is =
    let a : ℕ = expr_nodes left + expr_nodes left in
    let b : ℕ = expr_nodes right + expr_nodes right in
    deeper (operator_deep op (canon_factor left is.0) (canon_factor right is.1) a b (factor_deep left is.0) (factor_deep right is.1)) (omega arith)
expr_deep (AggregateAll f) is = absurd is
expr_deep (Aggregate f of) is = absurd is

-- an expression within its limit
abbrev pub Small : ExprTree → Type 0
Small e = nat_lt 64 (expr_nodes e) ≡ false

small_at_most : (e : ExprTree) → Small e → expr_nodes e + expr_nodes e ≤ 128
small_at_most e h = let most : expr_nodes e ≤ 64 = grind (arith, nat_tests) in omega arith

aggregate_word_deep : (d : ℕ) (f : AggOp) → Deep d (λ ts. Key (aggregate_word f) ∷ ts)
aggregate_word_deep d aggregate.Count = flat (Key word.Count) (λ o r s h. h)
aggregate_word_deep d aggregate.Sum = flat (Key word.Sum) (λ o r s h. h)
aggregate_word_deep d aggregate.Min = flat (Key word.Min) (λ o r s h. h)
aggregate_word_deep d aggregate.Max = flat (Key word.Max) (λ o r s h. h)

all_rows_deep : Deep 129 (λ ts. Key word.Count ∷ sign symbol.Open ∷ sign symbol.Star ∷ sign symbol.Close ∷ ts)
all_rows_deep = both (flat (Key word.Count) (λ o r s h. h)) (deeper (enclosed (flat {d = 0} (sign symbol.Star) (λ o r s h. h))) (omega arith))

aggregate_deep : (f : AggOp) (of : ExprTree) (is : IsPrintableExpr of) → Small of → Deep 129 (λ ts. Key (aggregate_word f) ∷ sign symbol.Open ∷ write_expr (canon_expr of is) (sign symbol.Close ∷ ts))
aggregate_deep f of is small = let most : expr_nodes of + expr_nodes of ≤ 128 = small_at_most of small in both (aggregate_word_deep 129 f) (deeper (enclosed (expr_deep of is)) (omega arith))

pub small_expr_deep : (e : ExprTree) (is : IsPrintableExpr e) → Small e → Deep 129 (write_expr (canon_expr e is))
small_expr_deep e is small = let most : expr_nodes e + expr_nodes e ≤ 128 = small_at_most e small in deeper (expr_deep e is) (omega arith)

operand_deep : (e : ExprTree) (is : IsPrintableExpr e) → Small e → Deep 129 (write_expr (canon_operand e is))
operand_deep e is small = let most : expr_nodes e + expr_nodes e ≤ 128 = small_at_most e small in deeper (factor_deep e is) (omega arith)

pub value_deep : (e : ExprTree) (is : IsPrintableValue e) → Small e → Deep 129 (write_value (canon_value e is))
value_deep (Literal literal) is small = small_expr_deep (Literal literal) is small
value_deep (ColumnOf column) is small = small_expr_deep (ColumnOf column) is small
value_deep (Operator op left right) is small = small_expr_deep (Operator op left right) is small
value_deep (AggregateAll f) is small = all_rows_deep
value_deep (Aggregate f of) is small = aggregate_deep f of is small

value_operand_deep : (e : ExprTree) (is : IsPrintableValue e) → Small e → Deep 129 (write_value (canon_value_operand e is))
value_operand_deep (Literal literal) is small = operand_deep (Literal literal) is small
value_operand_deep (ColumnOf column) is small = operand_deep (ColumnOf column) is small
value_operand_deep (Operator op left right) is small = operand_deep (Operator op left right) is small
value_operand_deep (AggregateAll f) is small = all_rows_deep
value_operand_deep (Aggregate f of) is small = aggregate_deep f of is small

-- ## Conditions

cmp_deep : (d : ℕ) (op : CmpOp) → Deep d (λ ts. write_cmp (canon_cmp op) ∷ ts)
cmp_deep d compare.Eq = flat (sign symbol.Equal) (λ o r s h. h)
cmp_deep d compare.Ne = flat (sign symbol.NotEqual) (λ o r s h. h)
cmp_deep d compare.Lt = flat (sign symbol.Less) (λ o r s h. h)
cmp_deep d compare.Le = flat (sign symbol.LessEqual) (λ o r s h. h)
cmp_deep d compare.Gt = flat (sign symbol.Greater) (λ o r s h. h)
cmp_deep d compare.Ge = flat (sign symbol.GreaterEqual) (λ o r s h. h)

-- the levels of a condition
abbrev pub cond_levels : CondTree → ℕ
cond_levels c = cond_nodes c + cond_nodes c + 129

module _ {E : Type 0} (P : ExprTree → Type 0) (canon : (e : ExprTree) → P e → E) (write : E → List Token → List Token) (deep : (e : ExprTree) (is : P e) → Small e → Deep 129 (write (canon e is))) where
  compared_deep : (op : CmpOp) (left right : ExprTree) (is : P left × P right) → AllByRecursion Small (left ∷ right ∷ []) → Deep 129 (write_unit write (compared_unit P canon op left right is))
  compared_deep op left right is small = both (deep left is.0 small.0) (both (cmp_deep 129 op) (deep right is.1 small.1.0))

  within_deep : (of low high : ExprTree) (is : P of × P low × P high) → AllByRecursion Small (of ∷ low ∷ high ∷ []) → Deep 129 (write_unit write (within_unit P canon of low high is))
  within_deep of low high is small = both (deep of is.0 small.0) (both (flat (Key word.Between) (λ o r s h. h)) (both (deep low is.1 small.1.0) (both (flat (Key word.And) (λ o r s h. h)) (deep high is.2 small.1.1.0))))

  null_test_deep : (of : ExprTree) (is : P of) → AllByRecursion Small (of ∷ []) → Deep 129 (write_unit write (null_unit P canon of is))
  null_test_deep of is small = both (deep of is small.0) (both (flat (Key word.Is) (λ o r s h. h)) (flat (Key word.Null) (λ o r s h. h)))

  mutual
    pub cond_deep : (c : CondTree) (is : IsPrintableCond P c) → AllByRecursion Small (cond_exprs c) → Deep (cond_levels c) (write_cond write (canon_cond P canon c is))
    cond_deep (Compare op left right) is small = deeper (compared_deep op left right is small) (omega arith)
    cond_deep (Within of low high) is small = deeper (within_deep of low high is small) (omega arith)
    cond_deep (IsNull of) is small = deeper (null_test_deep of is small) (omega arith)
    cond_deep (Negation c) is small = deeper (denial (part_deep c is small)) (omega arith)
    cond_deep (Both left right) is small =
        let parts = all_parts Small (cond_exprs left) (cond_exprs right) small in
        both (deeper (part_deep left is.0 parts.0) (omega arith)) (both (flat (Key word.And) (λ o r s h. h)) (deeper (part_deep right is.1 parts.1) (omega arith)))
    cond_deep (Either left right) is small =
        let parts = all_parts Small (cond_exprs left) (cond_exprs right) small in
        both (deeper (enclosed (cond_deep left is.0 parts.0)) (omega arith)) (both (flat (Key word.Or) (λ o r s h. h)) (deeper (enclosed (cond_deep right is.1 parts.1)) (omega arith)))

    part_deep : (c : CondTree) (is : IsPrintableCond P c) → AllByRecursion Small (cond_exprs c) → Deep (cond_levels c) (write_unit write (canon_part P canon c is))
    part_deep (Compare op left right) is small = deeper (compared_deep op left right is small) (omega arith)
    part_deep (Within of low high) is small = deeper (within_deep of low high is small) (omega arith)
    part_deep (IsNull of) is small = deeper (null_test_deep of is small) (omega arith)
    part_deep (Negation c) is small = deeper (enclosed (denial (part_deep c is small))) (omega arith)
    part_deep (Both left right) is small =
        let parts = all_parts Small (cond_exprs left) (cond_exprs right) small in
        let d : ℕ = cond_levels left + cond_levels right - 128 in
        deeper (enclosed {d = d} (both (deeper (part_deep left is.0 parts.0) (omega arith)) (both (flat (Key word.And) (λ o r s h. h)) (deeper (part_deep right is.1 parts.1) (omega arith))))) (omega arith)
    part_deep (Either left right) is small =
        let parts = all_parts Small (cond_exprs left) (cond_exprs right) small in
        let d : ℕ = cond_levels left + cond_levels right - 128 in
        deeper (enclosed {d = d} (both (deeper (enclosed (cond_deep left is.0 parts.0)) (omega arith)) (both (flat (Key word.Or) (λ o r s h. h)) (deeper (enclosed (cond_deep right is.1 parts.1)) (omega arith))))) (omega arith)

pub where_deep : (c : CondTree) (is : IsPrintableWhere c) → AllByRecursion Small (cond_exprs c) → Deep (cond_levels c) (write_where (canon_where c is))
where_deep c is small = cond_deep IsPrintableExpr canon_operand write_expr operand_deep c is small

pub having_deep : (c : CondTree) (is : IsPrintableHaving c) → AllByRecursion Small (cond_exprs c) → Deep (cond_levels c) (write_cond write_value (canon_having c is))
having_deep c is small = cond_deep IsPrintableValue canon_value_operand write_value value_operand_deep c is small
