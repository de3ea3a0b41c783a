-- Expressions and conditions that tokens with names derive, and that have no number past its range.
use Rattle.std.proofs.Common.{◌≡◌, List, [], ◌∷◌, map, true, false, pos, refl}
use Rattle.std.specs.List.{AllByRecursion}
use Rattle.std.proofs.lemmas.Bool.{or_parts}
use Rattle.cell_core.specs.declared.cell.Cell.{Cell}
use Rattle.cell_core.specs.declared.cell.Cell.TheVariants as cell
use Rattle.sql_grammar.specs.Grammar.{sign, number_of, negative_of, write_literal, literal_cell, ExprRule, TermsRule, TermRule, FactorsRule, FactorRule, OperandRule, write_expr, write_terms, write_term, write_factors, write_factor, write_operand, sign_op, expr_of, terms_of, term_of, factors_of, factor_of, operand_of, write_value, value_of, write_cmp, TestRule, CondRule, ConjsRule, ConjRule, UnitsRule, UnitRule, write_more, write_enclosed, write_test, cmp_of, write_cond, write_conjs, write_conj, write_units, write_unit, members_of, test_of, cond_of, conjs_of, conj_of, units_of, unit_of, write_where, where_of}
use Rattle.sql_grammar.specs.Grammar.LiteralRule.{PlainDigits, MinusDigits, StringLiteral, DateLiteral, NullLiteral}
use Rattle.sql_grammar.specs.Grammar.ExprRule.{Sum}
use Rattle.sql_grammar.specs.Grammar.TermsRule.{NoTerm, MoreTerms}
use Rattle.sql_grammar.specs.Grammar.TermRule.{Product}
use Rattle.sql_grammar.specs.Grammar.FactorsRule.{NoFactor, MoreFactors}
use Rattle.sql_grammar.specs.Grammar.FactorRule.{Number, Operand}
use Rattle.sql_grammar.specs.Grammar.OperandRule.{NegativeNumber, StringOperand, DateOperand, NullOperand, ColumnOperand, Negated, Parenthesised}
use Rattle.sql_grammar.specs.Grammar.AggRule.{CountAll, AggregateOf}
use Rattle.sql_grammar.specs.Grammar.ValueRule.{ExprValue, AggValue}
use Rattle.sql_grammar.specs.Grammar.TestRule.{Comparison, BetweenTest, InTest, NullTest}
use Rattle.sql_grammar.specs.Grammar.CondRule.{Disjunction}
use Rattle.sql_grammar.specs.Grammar.ConjsRule.{NoConj, MoreConjs}
use Rattle.sql_grammar.specs.Grammar.ConjRule.{Conjunction}
use Rattle.sql_grammar.specs.Grammar.UnitsRule.{NoUnit, MoreUnits}
use Rattle.sql_grammar.specs.Grammar.UnitRule.{NotUnit, CondUnit, TestUnit}
use Rattle.sql_tree.specs.Exprs.{cond_exprs}
use Rattle.sql_grammar.specs.Refused.{is_wide_cell, has_wide_literal}
use Rattle.sql_grammar.specs.Written.{IsLiteral}
use Rattle.sql_print_laws.proofs.NumberLemmas.{in_range}
use Rattle.sql_print_laws.proofs.NamedLemmas.{Named, IsTold, all_parts, column_told}
use Rattle.sql_print_laws.specs.Printable.{IsPrintableExpr, IsPrintableValue, IsPrintableCond}
use Rattle.sql_tree.specs.Tree.{ExprTree, CondTree}
use Rattle.sql_tree.specs.Tree.ExprTree.{Literal, ColumnOf, Operator, AggregateAll, Aggregate}
use Rattle.sql_tree.specs.Tree.CondTree.{Compare, Within, IsNull, Both, Either}
use Rattle.sql_tree.specs.declared.token.Keyword.TheVariants as word
use Rattle.sql_tree.specs.declared.token.Symbol.TheVariants as symbol
use Rattle.sql_tree.specs.declared.token.Token.{Token}
use Rattle.sql_tree.specs.declared.token.Token.TheVariants.{Key}
use Rattle.sql_tree.specs.declared.tree.ArithOp.{ArithOp}
use Rattle.sql_tree.specs.declared.tree.ArithOp.TheVariants as arithmetic
use Rattle.sql_tree.specs.declared.tree.CmpOp.{CmpOp}
use Rattle.sql_tree.specs.declared.tree.CmpOp.TheVariants as compare

-- ## Literals

abbrev pub FineLiteral : Cell → Type 0
FineLiteral c = is_wide_cell c ≡ false → IsLiteral c

pub literal_told : IsTold write_literal literal_cell FineLiteral
literal_told (PlainDigits digits) rest h = (λ w. in_range (pos (number_of digits)) w, h.1)
literal_told (MinusDigits digits) rest h = (λ w. in_range (negative_of digits) w, h.1.1)
literal_told (StringLiteral text) rest h = (λ w. tt, h.1)
literal_told (DateLiteral text is) rest h = (λ w. (text, is, refl), h.1.1)
literal_told NullLiteral rest h = (λ w. tt, h.1)

-- ## Expressions

abbrev pub NotWide : ExprTree → Type 0
NotWide e = has_wide_literal e ≡ false

abbrev pub FineExpr : ExprTree → Type 0
FineExpr e = NotWide e → IsPrintableExpr e

operator_fine : (op : ArithOp) (left right : ExprTree) → FineExpr left → FineExpr right → FineExpr (Operator op left right)
operator_fine op left right x y w = let parts = or_parts (has_wide_literal left) (has_wide_literal right) w in (x parts.0, y parts.1)

mutual
  pub expr_told : (r : ExprRule) (rest : List Token) → Named (write_expr r rest) → FineExpr (expr_of r) × Named rest
  expr_told (Sum term terms) rest h = let x = term_told term (write_terms terms rest) h in terms_told terms (term_of term) rest x.0 x.1

  terms_told : (r : TermsRule) (left : ExprTree) (rest : List Token) → FineExpr left → Named (write_terms r rest) → FineExpr (terms_of left r) × Named rest
  terms_told NoTerm left rest x h = (x, h)
  terms_told (MoreTerms s term terms) left rest x h =
      let y = term_told term (write_terms terms rest) h.1 in
      terms_told terms (Operator (sign_op s) left (term_of term)) rest (operator_fine (sign_op s) left (term_of term) x y.0) y.1

  term_told : (r : TermRule) (rest : List Token) → Named (write_term r rest) → FineExpr (term_of r) × Named rest
  term_told (Product factor factors) rest h = let x = factor_told factor (write_factors factors rest) h in factors_told factors (factor_of factor) rest x.0 x.1

  factors_told : (r : FactorsRule) (left : ExprTree) (rest : List Token) → FineExpr left → Named (write_factors r rest) → FineExpr (factors_of left r) × Named rest
  factors_told NoFactor left rest x h = (x, h)
  factors_told (MoreFactors factor factors) left rest x h =
      let y = factor_told factor (write_factors factors rest) h.1 in
      factors_told factors (Operator arithmetic.Times left (factor_of factor)) rest (operator_fine arithmetic.Times left (factor_of factor) x y.0) y.1

  factor_told : (r : FactorRule) (rest : List Token) → Named (write_factor r rest) → FineExpr (factor_of r) × Named rest
  factor_told (Number digits) rest h = (λ w. in_range (pos (number_of digits)) w, h.1)
  factor_told (Operand operand) rest h = operand_told operand rest h

  operand_told : (r : OperandRule) (rest : List Token) → Named (write_operand r rest) → FineExpr (operand_of r) × Named rest
  operand_told (NegativeNumber digits) rest h = (λ w. in_range (negative_of digits) w, h.1.1)
  operand_told (StringOperand text) rest h = (λ w. tt, h.1)
  operand_told (DateOperand text is) rest h = (λ w. (text, is, refl), h.1.1)
  operand_told NullOperand rest h = (λ w. tt, h.1)
  operand_told (ColumnOperand column) rest h = let x = column_told column rest h in (λ w. x.0, x.1)
  operand_told (Negated operand) rest h =
      let x = operand_told operand rest h.1 in
      (operator_fine arithmetic.Minus (Literal (cell.Int (pos 0))) (operand_of operand) (λ w. in_range (pos 0) w) x.0, x.1)
  operand_told (Parenthesised e) rest h = let x = expr_told e (sign symbol.Close ∷ rest) h.1 in (x.0, x.1.1)

abbrev pub FineValue : ExprTree → Type 0
FineValue e = NotWide e → IsPrintableValue e

plain_value : (e : ExprTree) → IsPrintableExpr e → IsPrintableValue e
plain_value (Literal literal) is = is
plain_value (ColumnOf column) is = is
plain_value (Operator op left right) is = is
plain_value (AggregateAll f) is = absurd is
plain_value (Aggregate f of) is = absurd is

pub value_told : IsTold write_value value_of FineValue
value_told (ExprValue e) rest h = let x = expr_told e rest h in (λ w. plain_value (expr_of e) (x.0 w), x.1)
value_told (AggValue CountAll) rest h = (λ w. tt, h.1.1.1.1)
value_told (AggValue (AggregateOf f e)) rest h = let x = expr_told e (sign symbol.Close ∷ rest) h.1.1 in (x.0, x.1.1)

-- ## Conditions

abbrev pub FineCond : (ExprTree → Type 0) → CondTree → Type 0
FineCond P c = AllByRecursion NotWide (cond_exprs c) → IsPrintableCond P c

module _ {E : Type 0} (write : E → List Token → List Token) (tree : E → ExprTree) (P : ExprTree → Type 0) (told : IsTold write tree (λ e. NotWide e → P e)) where
  compared_fine : (op : CmpOp) (left right : ExprTree) → (NotWide left → P left) → (NotWide right → P right) → FineCond P (Compare op left right)
  compared_fine op left right x y w = (x w.0, y w.1.0)

  both_fine : (left right : CondTree) → FineCond P left → FineCond P right → FineCond P (Both left right)
  both_fine left right x y w = let parts = all_parts NotWide (cond_exprs left) (cond_exprs right) w in (x parts.0, y parts.1)

  either_fine : (left right : CondTree) → FineCond P left → FineCond P right → FineCond P (Either left right)
  either_fine left right x y w = let parts = all_parts NotWide (cond_exprs left) (cond_exprs right) w in (x parts.0, y parts.1)

  members_told : (members : List E) (so_far : CondTree) (of : ExprTree) (rest : List Token) → FineCond P so_far → (NotWide of → P of) → Named (write_more write members rest) → FineCond P (members_of so_far of (map tree members)) × Named rest
  members_told [] so_far of rest x y h = (x, h)
  members_told (member ∷ members) so_far of rest x y h =
      let z = told member (write_more write members rest) h.1 in
      let is = Compare compare.Eq of (tree member) in
      members_told members (Either so_far is) of rest (either_fine so_far is x (compared_fine compare.Eq of (tree member) y z.0)) y z.1

  within_fine : (of low high : ExprTree) → (NotWide of → P of) → (NotWide low → P low) → (NotWide high → P high) → FineCond P (Within of low high)
  within_fine of low high x y z w = (x w.0, y w.1.0, z w.1.1.0)

  in_told : (of : E) (members : E × List E) (rest : List Token) → (NotWide (tree of) → P (tree of)) → Named (write members.0 (write_more write members.1 (sign symbol.Close ∷ rest))) → FineCond P (members_of (Compare compare.Eq (tree of) (tree members.0)) (tree of) (map tree members.1)) × Named rest
  in_told of members rest x h =
      let y = told members.0 (write_more write members.1 (sign symbol.Close ∷ rest)) h in
      let z = members_told members.1 (Compare compare.Eq (tree of) (tree members.0)) (tree of) (sign symbol.Close ∷ rest) (compared_fine compare.Eq (tree of) (tree members.0) x y.0) x y.1 in
      (z.0, z.1.1)

  null_fine : (of : ExprTree) → (NotWide of → P of) → FineCond P (IsNull of)
  null_fine of x w = x w.0

  test_told : (r : TestRule E) (rest : List Token) → Named (write_test write r rest) → FineCond P (test_of tree r) × Named rest
  test_told (Comparison left cmp right) rest h =
      let x = told left (write_cmp cmp ∷ write right rest) h in
      let y = told right rest x.1.1 in
      (compared_fine (cmp_of cmp) (tree left) (tree right) x.0 y.0, y.1)
  test_told (BetweenTest of true low high) rest h =
      let x = told of (Key word.Not ∷ Key word.Between ∷ write low (Key word.And ∷ write high rest)) h in
      let y = told low (Key word.And ∷ write high rest) x.1.1.1 in
      let z = told high rest y.1.1 in
      (within_fine (tree of) (tree low) (tree high) x.0 y.0 z.0, z.1)
  test_told (BetweenTest of false low high) rest h =
      let x = told of (Key word.Between ∷ write low (Key word.And ∷ write high rest)) h in
      let y = told low (Key word.And ∷ write high rest) x.1.1 in
      let z = told high rest y.1.1 in
      (within_fine (tree of) (tree low) (tree high) x.0 y.0 z.0, z.1)
  test_told (InTest of true members) rest h =
      let x = told of (Key word.Not ∷ Key word.In ∷ write_enclosed write members rest) h in
      in_told of members rest x.0 x.1.1.1.1
  test_told (InTest of false members) rest h =
      let x = told of (Key word.In ∷ write_enclosed write members rest) h in
      in_told of members rest x.0 x.1.1.1
  test_told (NullTest of true) rest h = let x = told of (Key word.Is ∷ Key word.Not ∷ Key word.Null ∷ rest) h in (null_fine (tree of) x.0, x.1.1.1.1)
  test_told (NullTest of false) rest h = let x = told of (Key word.Is ∷ Key word.Null ∷ rest) h in (null_fine (tree of) x.0, x.1.1.1)

  mutual
    pub cond_told : (r : CondRule E) (rest : List Token) → Named (write_cond write r rest) → FineCond P (cond_of tree r) × Named rest
    cond_told (Disjunction conj conjs) rest h = let x = conj_told conj (write_conjs write conjs rest) h in conjs_told conjs (conj_of tree conj) rest x.0 x.1

    conjs_told : (r : ConjsRule E) (left : CondTree) (rest : List Token) → FineCond P left → Named (write_conjs write r rest) → FineCond P (conjs_of tree left r) × Named rest
    conjs_told NoConj left rest x h = (x, h)
    conjs_told (MoreConjs conj conjs) left rest x h =
        let y = conj_told conj (write_conjs write conjs rest) h.1 in
        conjs_told conjs (Either left (conj_of tree conj)) rest (either_fine left (conj_of tree conj) x y.0) y.1

    conj_told : (r : ConjRule E) (rest : List Token) → Named (write_conj write r rest) → FineCond P (conj_of tree r) × Named rest
    conj_told (Conjunction unit units) rest h = let x = unit_told unit (write_units write units rest) h in units_told units (unit_of tree unit) rest x.0 x.1

    units_told : (r : UnitsRule E) (left : CondTree) (rest : List Token) → FineCond P left → Named (write_units write r rest) → FineCond P (units_of tree left r) × Named rest
    units_told NoUnit left rest x h = (x, h)
    units_told (MoreUnits unit units) left rest x h =
        let y = unit_told unit (write_units write units rest) h.1 in
        units_told units (Both left (unit_of tree unit)) rest (both_fine left (unit_of tree unit) x y.0) y.1

    unit_told : (r : UnitRule E) (rest : List Token) → Named (write_unit write r rest) → FineCond P (unit_of tree r) × Named rest
    unit_told (NotUnit unit) rest h = let x = unit_told unit rest h.1 in (x.0, x.1)
    unit_told (CondUnit cond) rest h = let x = cond_told cond (sign symbol.Close ∷ rest) h.1 in (x.0, x.1.1)
    unit_told (TestUnit test) rest h = test_told test rest h

abbrev pub FineWhere : CondTree → Type 0
FineWhere = FineCond IsPrintableExpr

abbrev pub FineHaving : CondTree → Type 0
FineHaving = FineCond IsPrintableValue

pub where_told : IsTold write_where where_of FineWhere
where_told = cond_told write_expr expr_of IsPrintableExpr expr_told

pub having_told : IsTold (write_cond write_value) (cond_of value_of) FineHaving
having_told = cond_told write_value value_of IsPrintableValue value_told
