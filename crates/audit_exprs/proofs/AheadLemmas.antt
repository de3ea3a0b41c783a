-- What a `(` opens in a condition is decided by whether a test's word comes before its `)`.
use Rattle.std.proofs.Common.{◌≡◌, ℕ, zero, suc, List, ◌∷◌, Bool, true, false, Some, None, refl, ap, sym, ◌∙◌}
use Rattle.sql_grammar.specs.Grammar.{sign, write_column, ExprRule, TermsRule, TermRule, FactorsRule, FactorRule, OperandRule, write_expr, write_terms, write_term, write_factors, write_factor, write_operand, expr_of, write_agg, ValueRule, write_value, value_of, CmpRule, write_cmp, TestRule, write_test, CondRule, UnitRule, write_cond, write_conjs, write_units, write_unit}
use Rattle.sql_grammar.specs.Grammar.NameRule.{BareName, QuotedName}
use Rattle.sql_grammar.specs.Grammar.ColumnRule.{PlainColumn, TableColumn}
use Rattle.sql_grammar.specs.Grammar.SignRule.{PlusSign, MinusSign}
use Rattle.sql_grammar.specs.Grammar.ExprRule.{Sum}
use Rattle.sql_grammar.specs.Grammar.TermsRule.{NoTerm, MoreTerms}
use Rattle.sql_grammar.specs.Grammar.TermRule.{Product}
use Rattle.sql_grammar.specs.Grammar.FactorsRule.{NoFactor, MoreFactors}
use Rattle.sql_grammar.specs.Grammar.FactorRule.{Number, Operand}
use Rattle.sql_grammar.specs.Grammar.OperandRule.{NegativeNumber, StringOperand, DateOperand, NullOperand, ColumnOperand, Negated, Parenthesised}
use Rattle.sql_grammar.specs.Grammar.AggRule.{CountAll, AggregateOf}
use Rattle.sql_grammar.specs.Grammar.ValueRule.{ExprValue, AggValue}
use Rattle.sql_grammar.specs.Grammar.CmpRule.{EqualSign, NotEqualSign, BangEqualSign, LessSign, LessEqualSign, GreaterSign, GreaterEqualSign}
use Rattle.sql_grammar.specs.Grammar.TestRule.{Comparison, BetweenTest, InTest, NullTest}
use Rattle.sql_grammar.specs.Grammar.CondRule.{Disjunction}
use Rattle.sql_grammar.specs.Grammar.ConjRule.{Conjunction}
use Rattle.sql_grammar.specs.Grammar.UnitRule.{NotUnit, CondUnit, TestUnit}
use Rattle.read_laws.specs.Bounded.{Builder}
use Rattle.read_laws.specs.Chain.{Found, Parser, after_first, or_read}
use Rattle.read_laws.specs.CondReader.{whole_expr, value, operand, any_test, test_behind, condition, enclosed, unit, unit_of}
use Rattle.read_laws.specs.DerivedExprs.{expr_with}
use Rattle.read_laws.specs.Parts.{is_key, is_symbol}
use Rattle.read_laws.specs.ExprReader.{closed}
use Rattle.read_laws.proofs.ChainLemmas.{or_first}
use Rattle.read_laws.proofs.CondSound.{whole_found, value_sound, cond_found_by, unit_found}
use Rattle.read_laws.proofs.ExprSound.{IsSound}
use Rattle.sql_tree.specs.Tree.{ExprTree, CondTree}
use Rattle.sql_tree.specs.declared.token.Symbol.TheVariants as symbol
use Rattle.sql_tree.specs.declared.token.Token.{Token}
use Rattle.sql_tree.specs.declared.tree.AggOp.TheVariants as aggregate
use Rattle.text_bytes.specs.Found.{then_read}
use Rattle.audit_exprs.specs.Ahead.{has_test}

-- what is written has no test's word, and closes what it opens
abbrev pub Passes : {D : Type 0} → (D → List Token → List Token) → Type 0
Passes {D} write = (d : D) (n : ℕ) (rest : List Token) → has_test n (write d rest) ≡ has_test n rest

-- such a part may be an operand: where it begins with a `(`, no test's word comes before its `)`
pub record HoldsNoTest {D : Type 0} (write : D → List Token → List Token) : Type 0 where
  pub passes : Passes write
  pub opens : (d : D) (rest ts : List Token) → write d rest ≡ sign symbol.Open ∷ ts → has_test zero ts ≡ false

-- ## Expressions and aggregates

column_passes : Passes write_column
column_passes (PlainColumn (BareName name)) n rest = refl
column_passes (PlainColumn (QuotedName name)) n rest = refl
column_passes (TableColumn (BareName table) (BareName name)) n rest = refl
column_passes (TableColumn (BareName table) (QuotedName name)) n rest = refl
column_passes (TableColumn (QuotedName table) (BareName name)) n rest = refl
column_passes (TableColumn (QuotedName table) (QuotedName name)) n rest = refl

mutual
  expr_passes : (d : ExprRule) (n : ℕ) (rest : List Token) → has_test n (write_expr d rest) ≡ has_test n rest
  expr_passes (Sum term terms) n rest = term_passes term n (write_terms terms rest) ∙ terms_pass terms n rest

  terms_pass : (d : TermsRule) (n : ℕ) (rest : List Token) → has_test n (write_terms d rest) ≡ has_test n rest
  terms_pass NoTerm n rest = refl
  terms_pass (MoreTerms PlusSign term terms) n rest = term_passes term n (write_terms terms rest) ∙ terms_pass terms n rest
  terms_pass (MoreTerms MinusSign term terms) n rest = term_passes term n (write_terms terms rest) ∙ terms_pass terms n rest

  term_passes : (d : TermRule) (n : ℕ) (rest : List Token) → has_test n (write_term d rest) ≡ has_test n rest
  term_passes (Product factor factors) n rest = factor_passes factor n (write_factors factors rest) ∙ factors_pass factors n rest

  factors_pass : (d : FactorsRule) (n : ℕ) (rest : List Token) → has_test n (write_factors d rest) ≡ has_test n rest
  factors_pass NoFactor n rest = refl
  factors_pass (MoreFactors factor factors) n rest = factor_passes factor n (write_factors factors rest) ∙ factors_pass factors n rest

  factor_passes : (d : FactorRule) (n : ℕ) (rest : List Token) → has_test n (write_factor d rest) ≡ has_test n rest
  factor_passes (Number digits) n rest = refl
  factor_passes (Operand operand) n rest = operand_passes operand n rest

  operand_passes : (d : OperandRule) (n : ℕ) (rest : List Token) → has_test n (write_operand d rest) ≡ has_test n rest
  operand_passes (NegativeNumber digits) n rest = refl
  operand_passes (StringOperand text) n rest = refl
  operand_passes (DateOperand text is) n rest = refl
  operand_passes NullOperand n rest = refl
  operand_passes (ColumnOperand column) n rest = column_passes column n rest
  operand_passes (Negated operand) n rest = operand_passes operand n rest
  operand_passes (Parenthesised e) n rest = expr_passes e (suc n) (sign symbol.Close ∷ rest)

agg_passes : Passes write_agg
agg_passes CountAll n rest = refl
agg_passes (AggregateOf aggregate.Count e) n rest = expr_passes e (suc n) (sign symbol.Close ∷ rest)
agg_passes (AggregateOf aggregate.Sum e) n rest = expr_passes e (suc n) (sign symbol.Close ∷ rest)
agg_passes (AggregateOf aggregate.Min e) n rest = expr_passes e (suc n) (sign symbol.Close ∷ rest)
agg_passes (AggregateOf aggregate.Max e) n rest = expr_passes e (suc n) (sign symbol.Close ∷ rest)

value_passes : Passes write_value
value_passes (ExprValue e) n rest = expr_passes e n rest
value_passes (AggValue a) n rest = agg_passes a n rest

expr_opens : (d : ExprRule) (rest ts : List Token) → write_expr d rest ≡ sign symbol.Open ∷ ts → has_test zero ts ≡ false
expr_opens (Sum (Product (Operand (Parenthesised e)) factors) terms) rest ts h =
    let after = write_factors factors (write_terms terms rest) in
    let same : write_expr e (sign symbol.Close ∷ after) ≡ ts = ap after_first h in
    ap (has_test zero) (sym same) ∙ expr_passes e zero (sign symbol.Close ∷ after)
expr_opens (Sum (Product (Operand (ColumnOperand (PlainColumn (BareName name)))) factors) terms) rest ts h = cc
expr_opens (Sum (Product (Operand (ColumnOperand (PlainColumn (QuotedName name)))) factors) terms) rest ts h = cc
expr_opens (Sum (Product (Operand (ColumnOperand (TableColumn (BareName table) column))) factors) terms) rest ts h = cc
expr_opens (Sum (Product (Operand (ColumnOperand (TableColumn (QuotedName table) column))) factors) terms) rest ts h = cc
expr_opens other rest ts h = cc

value_opens : (d : ValueRule) (rest ts : List Token) → write_value d rest ≡ sign symbol.Open ∷ ts → has_test zero ts ≡ false
value_opens (ExprValue e) rest ts h = expr_opens e rest ts h
value_opens (AggValue CountAll) rest ts h = cc
value_opens (AggValue (AggregateOf f e)) rest ts h = cc

exprs_hold_none : HoldsNoTest write_expr
exprs_hold_none = record { passes = expr_passes; opens = expr_opens }

values_hold_none : HoldsNoTest write_value
values_hold_none = record { passes = value_passes; opens = value_opens }

-- ## Conditions over operands without tests

module _ {E : Type 0} (write : E → List Token → List Token) (none : HoldsNoTest write) where
  cmp_meets : (c : CmpRule) (n : ℕ) (rest : List Token) → has_test n (write_cmp c ∷ rest) ≡ true
  cmp_meets EqualSign n rest = refl
  cmp_meets NotEqualSign n rest = refl
  cmp_meets BangEqualSign n rest = refl
  cmp_meets LessSign n rest = refl
  cmp_meets LessEqualSign n rest = refl
  cmp_meets GreaterSign n rest = refl
  cmp_meets GreaterEqualSign n rest = refl

  test_meets : (d : TestRule E) (n : ℕ) (rest : List Token) → has_test n (write_test write d rest) ≡ true
  test_meets (Comparison left c right) n rest = none.passes left n (write_cmp c ∷ write right rest) ∙ cmp_meets c n (write right rest)
  test_meets (BetweenTest of true low high) n rest = none.passes of n _
  test_meets (BetweenTest of false low high) n rest = none.passes of n _
  test_meets (InTest of true members) n rest = none.passes of n _
  test_meets (InTest of false members) n rest = none.passes of n _
  test_meets (NullTest of denied) n rest = none.passes of n _

  mutual
    cond_meets : (d : CondRule E) (n : ℕ) (rest : List Token) → has_test n (write_cond write d rest) ≡ true
    cond_meets (Disjunction (Conjunction unit units) conjs) n rest = unit_meets unit n (write_units write units (write_conjs write conjs rest))

    unit_meets : (d : UnitRule E) (n : ℕ) (rest : List Token) → has_test n (write_unit write d rest) ≡ true
    unit_meets (NotUnit unit) n rest = unit_meets unit n rest
    unit_meets (CondUnit cond) n rest = cond_meets cond (suc n) (sign symbol.Close ∷ rest)
    unit_meets (TestUnit test) n rest = test_meets test n rest

-- ## So a `(` is read as what it opens

never : {X : Type 0} (b : Bool) → b ≡ true → b ≡ false → X
never b is not = let e : true ≡ false = sym is ∙ not in cc

module _ (build : Builder) {E : Type 0} (write : E → List Token → List Token) (tree : E → ExprTree) (part : Parser ExprTree) (sound : IsSound write (λ d. expr_with build (tree d)) part) (none : HoldsNoTest write) where
  -- with a test's word before its `)` no operand begins here
  no_test : (ts : List Token) → has_test zero ts ≡ true → any_test build part (sign symbol.Open ∷ ts) ≡ None
  unfolding any_test
  no_test ts ahead = at (part (sign symbol.Open ∷ ts)) refl
    where
      at : (o : Found ExprTree) → part (sign symbol.Open ∷ ts) ≡ o → then_read (part (sign symbol.Open ∷ ts)) (λ of. test_behind build part of.0 of.1) ≡ None
      at None e = ap (λ o. then_read o (λ of. test_behind build part of.0 of.1)) e
      at (Some found) e =
          let w = sound (sign symbol.Open ∷ ts) found.0 found.1 e in
          never (has_test zero ts) ahead (none.opens w.rule found.1 ts w.written)

  -- without one no condition does
  no_condition : (n : ℕ) (ts : List Token) → has_test zero ts ≡ false → enclosed build (unit build part n) (sign symbol.Open ∷ ts) ≡ None
  unfolding enclosed is_symbol
  no_condition n ts ahead = at (condition build (unit build part n) ts) refl
    where
      at : (o : Found CondTree) → condition build (unit build part n) ts ≡ o → then_read (condition build (unit build part n) ts) closed ≡ None
      at None e = ap (λ o. then_read o closed) e
      at (Some found) e =
          let w = cond_found_by build write tree part sound (unit build part n) (unit_found build write tree part sound n) ts found.0 found.1 e in
          never (has_test zero ts) (ap (has_test zero) (sym w.written) ∙ cond_meets write none w.rule zero found.1) ahead

  opens_condition : (n : ℕ) (ts : List Token) → has_test zero ts ≡ true → unit_of build part (unit build part n) (sign symbol.Open ∷ ts) ≡ then_read (condition build (unit build part n) ts) closed
  unfolding enclosed is_symbol is_key
  opens_condition n ts ahead = ap (λ o. or_read o (then_read (condition build (unit build part n) ts) closed)) (no_test ts ahead)

  opens_operand : (n : ℕ) (ts : List Token) → has_test zero ts ≡ false → unit_of build part (unit build part n) (sign symbol.Open ∷ ts) ≡ any_test build part (sign symbol.Open ∷ ts)
  unfolding is_key
  opens_operand n ts ahead = or_first (any_test build part (sign symbol.Open ∷ ts)) (enclosed build (unit build part n) (sign symbol.Open ∷ ts)) (no_condition n ts ahead)

-- for both kinds of operands
pub foretold_condition : (build : Builder) (aggregates : Bool) (n : ℕ) (ts : List Token) → has_test zero ts ≡ true → unit_of build (operand build aggregates) (unit build (operand build aggregates) n) (sign symbol.Open ∷ ts) ≡ then_read (condition build (unit build (operand build aggregates) n) ts) closed
foretold_condition build true n ts h = opens_condition build write_value value_of (value build) (value_sound build) values_hold_none n ts h
foretold_condition build false n ts h = opens_condition build write_expr expr_of (whole_expr build) (whole_found build) exprs_hold_none n ts h

pub foretold_operand : (build : Builder) (aggregates : Bool) (n : ℕ) (ts : List Token) → has_test zero ts ≡ false → unit_of build (operand build aggregates) (unit build (operand build aggregates) n) (sign symbol.Open ∷ ts) ≡ any_test build (operand build aggregates) (sign symbol.Open ∷ ts)
foretold_operand build true n ts h = opens_operand build write_value value_of (value build) (value_sound build) values_hold_none n ts h
foretold_operand build false n ts h = opens_operand build write_expr expr_of (whole_expr build) (whole_found build) exprs_hold_none n ts h
