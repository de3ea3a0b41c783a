-- The tokens of names, literals, expressions and conditions as they are printed.
use Rattle.std.proofs.Common.{◌≡◌, ℕ, suc, ◌≤◌, ◌^◌, List, [], ◌∷◌, ◌++◌, cond, Option, Some, None, codes, pos, negsuc, ap, sym, ◌∙◌, subst, arith}
use Rattle.std.specs.Prelude.{decimal}
use Rattle.std.proofs.lemmas.Fmt.{decimal_is_IsNumeral}
use Rattle.cell_core.specs.Day.{day_text, day_in, IsDayText}
use Rattle.cell_core.specs.declared.cell.Cell.{Cell}
use Rattle.cell_core.specs.declared.cell.Cell.TheVariants as cell
use Rattle.sql_grammar.specs.Grammar.{LiteralRule, FactorRule, aggregate_word, write_literal, write_column, write_expr, write_factor, write_agg, write_value, write_cmp, write_cond, write_unit, write_where}
use Rattle.sql_grammar.specs.Grammar.AggRule.{CountAll, AggregateOf}
use Rattle.sql_grammar.specs.Grammar.LiteralRule.{PlainDigits, MinusDigits, StringLiteral, DateLiteral, NullLiteral}
use Rattle.sql_grammar.specs.Written.{IsLiteral}
use Rattle.sql_print_laws.proofs.NumberLemmas.{below_limit, negative_below_limit}
use Rattle.sql_print_laws.proofs.CutLemmas.{Middle, Printed, lead_then, then_tail, then_middle, middle_then, from_lead, spaced_mark, dot_mark, star_mark, in_parentheses}
use Rattle.sql_print_laws.proofs.DayLemmas.{prints_day}
use Rattle.sql_print_laws.proofs.WordLemmas.{key, key_blank, spaced_key, digits_printed, minus_printed, string_printed, name_printed}
use Rattle.sql_print_laws.specs.CanonRules.{canon_literal, column_rule, canon_reference, factor_rule, operator_rule, canon_factor, canon_operand, canon_expr, canon_value, canon_value_operand, canon_cmp, compared_unit, within_unit, null_unit, canon_cond, canon_part, canon_where, canon_having}
use Rattle.sql_print_laws.specs.Printable.{IfThere, IsName, IsReference, IsPrintableExpr, IsPrintableValue, IsPrintableCond, IsPrintableWhere, IsPrintableHaving}
use Rattle.sql_print.specs.Canon.{quoted_text, enclosed, literal_text, table_text, reference_text, arith_text, aggregate_text, compare_text, expr_text, operand_text, compared_text, within_text, null_test_text, cond_text, part_text}
use Rattle.sql_tree.specs.Names.{name_text}
use Rattle.sql_tree.specs.Tree.{ExprTree, CondTree}
use Rattle.sql_tree.specs.Tree.ExprTree.{Literal, ColumnOf, Operator, AggregateAll, Aggregate}
use Rattle.sql_tree.specs.Tree.CondTree.{Compare, Within, IsNull, Negation, Both, Either}
use Rattle.sql_tree.specs.declared.token.Keyword.TheVariants as word
use Rattle.sql_tree.specs.declared.token.Symbol.TheVariants as symbol
use Rattle.sql_tree.specs.declared.token.Token.{Token}
use Rattle.sql_tree.specs.declared.token.Token.TheVariants.{Digits, Text, Key}
use Rattle.sql_tree.specs.declared.tree.AggOp.{AggOp}
use Rattle.sql_tree.specs.declared.tree.AggOp.TheVariants as aggregate
use Rattle.sql_tree.specs.declared.tree.ArithOp.{ArithOp}
use Rattle.sql_tree.specs.declared.tree.ArithOp.TheVariants as arithmetic
use Rattle.sql_tree.specs.declared.tree.CmpOp.{CmpOp}
use Rattle.sql_tree.specs.declared.tree.CmpOp.TheVariants as compare
use Rattle.sql_tree.specs.declared.tree.ColRef.{ColRef}

-- ## Literals and columns

pub decimal_printed : (n : ℕ) → n ≤ 2 ^ 63 → Printed (decimal n) (λ ts. Digits (decimal n) ∷ ts)
decimal_printed n h = digits_printed (decimal n) (decimal_is_IsNumeral n (omega (arith, h))).0

day_printed : (day : _) (text : List ℕ) → IsDayText text → day_in text ≡ day → Printed (literal_text (cell.Day day)) (λ ts. Key word.Date ∷ Text text ∷ ts)
day_printed day text is same =
    let day_is = prints_day text day is same in
    let quoted : quoted_text 39 text ≡ 39 ∷ text ++ 39 ∷ [] = ap (λ bs. 39 ∷ bs ++ 39 ∷ []) day_is.no_mark in
    let whole : codes "DATE " ++ quoted_text 39 text ≡ literal_text (cell.Day day) =
    ap (λ bs. codes "DATE " ++ bs) quoted ∙ ap (λ bs. codes "DATE '" ++ bs ++ codes "'") (sym day_is.text_is)
    ∙ sym (ap (λ b. cond b (codes "DATE '" ++ day_text day ++ codes "'") (day_text day)) day_is.dated_is) in
    subst (λ bs. Printed bs (λ ts. Key word.Date ∷ Text text ∷ ts)) whole (lead_then (key_blank word.Date) (string_printed text))

pub literal_printed : (literal : Cell) (is : IsLiteral literal) → Printed (literal_text literal) (write_literal (canon_literal literal is))
literal_printed (cell.Int (pos n)) is = decimal_printed n (omega (arith, below_limit n is))
literal_printed (cell.Int (negsuc n)) is = minus_printed (decimal (suc n)) (decimal_is_IsNumeral (suc n) (omega (arith, negative_below_limit n is))).0
literal_printed (cell.Text text) is = string_printed text
literal_printed (cell.Day day) is = day_printed day is.0 is.1 is.2
literal_printed cell.Nil is = key word.Null
literal_printed (cell.Huge n) is = absurd is
literal_printed (cell.Bit b) is = absurd is
literal_printed (cell.Oid n) is = absurd is

column_printed : (table : Option (List ℕ)) (column : List ℕ) → IfThere IsName table → IsName column → Printed (table_text table ++ name_text column) (write_column (column_rule table column))
column_printed None column table_is column_is = name_printed column column_is
column_printed (Some table) column table_is column_is = lead_then (then_middle (name_printed table table_is) dot_mark) (name_printed column column_is)

pub reference_printed : (reference : ColRef) → IsReference reference → Printed (reference_text reference) (write_column (canon_reference reference))
reference_printed reference is = column_printed reference.table reference.column is.0 is.1

-- ## Expressions

literal_factor : (text : List ℕ) (l : LiteralRule) → Printed text (write_literal l) → Printed text (write_factor (factor_rule l))
literal_factor text (PlainDigits digits) x = x
literal_factor text (MinusDigits digits) x = x
literal_factor text (StringLiteral string) x = x
literal_factor text (DateLiteral day is) x = x
literal_factor text NullLiteral x = x

operator_printed : (op : ArithOp) (left right : List ℕ) (x y : FactorRule) → Printed left (write_factor x) → Printed right (write_factor y) → Printed (left ++ arith_text op ++ right) (write_expr (operator_rule op x y))
operator_printed arithmetic.Plus left right x y left_is right_is = lead_then (then_middle left_is (spaced_mark symbol.Plus)) right_is
operator_printed arithmetic.Minus left right x y left_is right_is = lead_then (then_middle left_is (spaced_mark symbol.Minus)) right_is
operator_printed arithmetic.Times left right x y left_is right_is = lead_then (then_middle left_is (spaced_mark symbol.Star)) right_is

factor_printed : (e : ExprTree) (is : IsPrintableExpr e) → Printed (operand_text e) (write_factor (canon_factor e is))
factor_printed (Literal literal) is = literal_factor (literal_text literal) (canon_literal literal is) (literal_printed literal is)
factor_printed (ColumnOf column) is = reference_printed column is
factor_printed (Operator op left right) is = (in_parentheses (operator_printed op (operand_text left) (operand_text right) (canon_factor left is.0) (canon_factor right is.1) (factor_printed left is.0) (factor_printed right is.1))).tail
factor_printed (AggregateAll f) is = absurd is
factor_printed (Aggregate f of) is = absurd is

operand_printed : (e : ExprTree) (is : IsPrintableExpr e) → Printed (operand_text e) (write_expr (canon_operand e is))
operand_printed e is = factor_printed e is

pub expr_printed : (e : ExprTree) (is : IsPrintableExpr e) → Printed (expr_text e) (write_expr (canon_expr e is))
expr_printed (Literal literal) is = factor_printed (Literal literal) is
expr_printed (ColumnOf column) is = factor_printed (ColumnOf column) is
expr_printed (Operator op left right) is = operator_printed op (operand_text left) (operand_text right) (canon_factor left is.0) (canon_factor right is.1) (factor_printed left is.0) (factor_printed right is.1)
expr_printed (AggregateAll f) is = absurd is
expr_printed (Aggregate f of) is = absurd is

aggregate_key : (f : AggOp) → Printed (aggregate_text f) (λ ts. Key (aggregate_word f) ∷ ts)
aggregate_key aggregate.Count = key word.Count
aggregate_key aggregate.Sum = key word.Sum
aggregate_key aggregate.Min = key word.Min
aggregate_key aggregate.Max = key word.Max

all_rows_printed : (f : AggOp) → IsPrintableValue (AggregateAll f) → Printed (aggregate_text f ++ codes "(*)") (write_agg CountAll)
all_rows_printed aggregate.Count is = then_tail (key word.Count) (in_parentheses (from_lead star_mark))
all_rows_printed aggregate.Sum is = absurd is
all_rows_printed aggregate.Min is = absurd is
all_rows_printed aggregate.Max is = absurd is

aggregate_printed : (f : AggOp) (of : ExprTree) (is : IsPrintableExpr of) → Printed (aggregate_text f ++ enclosed (expr_text of)) (write_agg (AggregateOf f (canon_expr of is)))
aggregate_printed f of is = then_tail (aggregate_key f) (in_parentheses (expr_printed of is))

pub value_printed : (e : ExprTree) (is : IsPrintableValue e) → Printed (expr_text e) (write_value (canon_value e is))
value_printed (Literal literal) is = expr_printed (Literal literal) is
value_printed (ColumnOf column) is = expr_printed (ColumnOf column) is
value_printed (Operator op left right) is = expr_printed (Operator op left right) is
value_printed (AggregateAll f) is = all_rows_printed f is
value_printed (Aggregate f of) is = aggregate_printed f of is

value_operand_printed : (e : ExprTree) (is : IsPrintableValue e) → Printed (operand_text e) (write_value (canon_value_operand e is))
value_operand_printed (Literal literal) is = operand_printed (Literal literal) is
value_operand_printed (ColumnOf column) is = operand_printed (ColumnOf column) is
value_operand_printed (Operator op left right) is = operand_printed (Operator op left right) is
value_operand_printed (AggregateAll f) is = all_rows_printed f is
value_operand_printed (Aggregate f of) is = aggregate_printed f of is

-- ## Conditions

compare_mark : (op : CmpOp) → Middle (compare_text op) (λ ts. write_cmp (canon_cmp op) ∷ ts)
compare_mark compare.Eq = spaced_mark symbol.Equal
compare_mark compare.Ne = spaced_mark symbol.NotEqual
compare_mark compare.Lt = spaced_mark symbol.Less
compare_mark compare.Le = spaced_mark symbol.LessEqual
compare_mark compare.Gt = spaced_mark symbol.Greater
compare_mark compare.Ge = spaced_mark symbol.GreaterEqual

module _ {E : Type 0} (P : ExprTree → Type 0) (canon : (e : ExprTree) → P e → E) (write : E → List Token → List Token) (printed : (e : ExprTree) (is : P e) → Printed (operand_text e) (write (canon e is))) where
  compared_printed : (op : CmpOp) (left right : ExprTree) (is : P left × P right) → Printed (compared_text op left right) (write_unit write (compared_unit P canon op left right is))
  compared_printed op left right is = lead_then (then_middle (printed left is.0) (compare_mark op)) (printed right is.1)

  within_printed : (of low high : ExprTree) (is : P of × P low × P high) → Printed (within_text of low high) (write_unit write (within_unit P canon of low high is))
  within_printed of low high is = lead_then (then_middle (lead_then (then_middle (printed of is.0) (spaced_key word.Between)) (printed low is.1)) (spaced_key word.And)) (printed high is.2)

  null_test_printed : (of : ExprTree) (is : P of) → Printed (null_test_text of) (write_unit write (null_unit P canon of is))
  null_test_printed of is = then_tail (printed of is) (middle_then (spaced_key word.Is) (key word.Null))

  mutual
    cond_printed : (c : CondTree) (is : IsPrintableCond P c) → Printed (cond_text c) (write_cond write (canon_cond P canon c is))
    cond_printed (Compare op left right) is = compared_printed op left right is
    cond_printed (Within of low high) is = within_printed of low high is
    cond_printed (IsNull of) is = null_test_printed of is
    cond_printed (Negation c) is = lead_then (key_blank word.Not) (part_printed c is)
    cond_printed (Both left right) is = lead_then (then_middle (part_printed left is.0) (spaced_key word.And)) (part_printed right is.1)
    cond_printed (Either left right) is = lead_then (then_middle (in_parentheses (cond_printed left is.0)).tail (spaced_key word.Or)) (in_parentheses (cond_printed right is.1)).tail

    part_printed : (c : CondTree) (is : IsPrintableCond P c) → Printed (part_text c) (write_unit write (canon_part P canon c is))
    part_printed (Compare op left right) is = compared_printed op left right is
    part_printed (Within of low high) is = within_printed of low high is
    part_printed (IsNull of) is = null_test_printed of is
    part_printed (Negation c) is = (in_parentheses (lead_then (key_blank word.Not) (part_printed c is))).tail
    part_printed (Both left right) is = (in_parentheses (lead_then (then_middle (part_printed left is.0) (spaced_key word.And)) (part_printed right is.1))).tail
    part_printed (Either left right) is = (in_parentheses (lead_then (then_middle (in_parentheses (cond_printed left is.0)).tail (spaced_key word.Or)) (in_parentheses (cond_printed right is.1)).tail)).tail

pub where_printed : (c : CondTree) (is : IsPrintableWhere c) → Printed (cond_text c) (write_where (canon_where c is))
where_printed c is = cond_printed IsPrintableExpr canon_operand write_expr operand_printed c is

pub having_printed : (c : CondTree) (is : IsPrintableHaving c) → Printed (cond_text c) (write_cond write_value (canon_having c is))
having_printed c is = cond_printed IsPrintableValue canon_value_operand write_value value_operand_printed c is
