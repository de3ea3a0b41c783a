-- No rule of what the profile leaves out applies within names, expressions and conditions.
use Rattle.std.proofs.Common.{◌≡◌, List, [], ◌∷◌, ◌++◌, map, Bool, true, false, ◌&&◌, Option, Some, None, refl}
use Rattle.sql_grammar.specs.Grammar.{sign, write_more, write_some, write_enclosed, write_behind, NameRule, write_name, ColumnRule, write_column, ExprRule, TermsRule, TermRule, FactorsRule, FactorRule, OperandRule, write_expr, write_terms, write_term, write_factors, write_factor, write_operand, aggregate_word, ValueRule, write_value, CmpRule, write_cmp, TestRule, CondRule, ConjsRule, ConjRule, UnitsRule, UnitRule, write_test, write_cond, write_conjs, write_conj, write_units, write_unit}
use Rattle.sql_grammar.specs.Grammar.NameRule.{BareName, QuotedName}
use Rattle.sql_grammar.specs.Grammar.ColumnRule.{PlainColumn, TableColumn}
use Rattle.sql_grammar.specs.Grammar.SignRule.{PlusSign, MinusSign}
use Rattle.sql_grammar.specs.Grammar.ExprRule.{Sum}
use Rattle.sql_grammar.specs.Grammar.TermsRule.{NoTerm, MoreTerms}
use Rattle.sql_grammar.specs.Grammar.TermRule.{Product}
use Rattle.sql_grammar.specs.Grammar.FactorsRule.{NoFactor, MoreFactors}
use Rattle.sql_grammar.specs.Grammar.FactorRule.{Number, Operand}
use Rattle.sql_grammar.specs.Grammar.OperandRule.{NegativeNumber, StringOperand, DateOperand, NullOperand, ColumnOperand, Negated, Parenthesised}
use Rattle.sql_grammar.specs.Grammar.AggRule.{CountAll, AggregateOf}
use Rattle.sql_grammar.specs.Grammar.ValueRule.{ExprValue, AggValue}
use Rattle.sql_grammar.specs.Grammar.CmpRule.{EqualSign, NotEqualSign, BangEqualSign, LessSign, LessEqualSign, GreaterSign, GreaterEqualSign}
use Rattle.sql_grammar.specs.Grammar.TestRule.{Comparison, BetweenTest, InTest, NullTest}
use Rattle.sql_grammar.specs.Grammar.CondRule.{Disjunction}
use Rattle.sql_grammar.specs.Grammar.ConjsRule.{NoConj, MoreConjs}
use Rattle.sql_grammar.specs.Grammar.ConjRule.{Conjunction}
use Rattle.sql_grammar.specs.Grammar.UnitsRule.{NoUnit, MoreUnits}
use Rattle.sql_grammar.specs.Grammar.UnitRule.{NotUnit, CondUnit, TestUnit}
use Rattle.sql_grammar.specs.Refused.{has_expressions}
use Rattle.sql_print_laws.proofs.RuleWalk.{opens, Quiet}
use Rattle.sql_tree.specs.declared.token.Keyword.{Keyword}
use Rattle.sql_tree.specs.declared.token.Keyword.TheVariants as word
use Rattle.sql_tree.specs.declared.token.Symbol.TheVariants as symbol
use Rattle.sql_tree.specs.declared.token.Token.{Token}
use Rattle.sql_tree.specs.declared.token.Token.TheVariants.{Name, Quoted, Text, Digits, Key}
use Rattle.sql_tree.specs.declared.tree.AggOp.{AggOp}
use Rattle.sql_tree.specs.declared.tree.AggOp.TheVariants as aggregate

-- in a statement that begins with the first token, no rule applies to the tokens, whatever comes before
abbrev pub Still : Token → List Token → Type 0
Still first ts = (past : List Token) → Quiet first past ts

-- nor to a name before them
abbrev pub Calm : Token → List Token → Type 0
Calm first ts = (opens ts ≡ false) × Still first ts

pub no_call : (a b : Bool) → b ≡ false → (a && b) ≡ false
no_call true b e = e
no_call false b e = refl

module _ (first : Token) where
  -- ## Names and columns

  pub name_calm : (n : NameRule) (rest : List Token) → Calm first rest → Calm first (write_name n rest)
  name_calm (BareName name) rest h = (refl, λ past. (no_call (has_expressions (Some first)) (opens rest) h.0, h.1 (Name name ∷ past)))
  name_calm (QuotedName name) rest h = (refl, λ past. (no_call (has_expressions (Some first)) (opens rest) h.0, h.1 (Quoted name ∷ past)))

  not_called : (has_expressions (Some first) && false) ≡ false
  not_called = no_call (has_expressions (Some first)) false refl

  pub column_calm : (c : ColumnRule) (rest : List Token) → Calm first rest → Calm first (write_column c rest)
  column_calm (PlainColumn column) rest h = name_calm column rest h
  column_calm (TableColumn (BareName table) (BareName column)) rest h = (refl, λ past. (not_called, (refl, (name_calm (BareName column) rest h).1 (sign symbol.Dot ∷ Name table ∷ past))))
  column_calm (TableColumn (BareName table) (QuotedName column)) rest h = (refl, λ past. (not_called, (refl, (name_calm (QuotedName column) rest h).1 (sign symbol.Dot ∷ Name table ∷ past))))
  column_calm (TableColumn (QuotedName table) (BareName column)) rest h = (refl, λ past. (not_called, (refl, (name_calm (BareName column) rest h).1 (sign symbol.Dot ∷ Quoted table ∷ past))))
  column_calm (TableColumn (QuotedName table) (QuotedName column)) rest h = (refl, λ past. (not_called, (refl, (name_calm (QuotedName column) rest h).1 (sign symbol.Dot ∷ Quoted table ∷ past))))

  -- ## Expressions

  mutual
    pub expr_still : (r : ExprRule) (rest : List Token) → Calm first rest → Still first (write_expr r rest)
    expr_still (Sum term terms) rest h = term_still term (write_terms terms rest) (terms_calm terms rest h)

    terms_calm : (r : TermsRule) (rest : List Token) → Calm first rest → Calm first (write_terms r rest)
    terms_calm NoTerm rest h = h
    terms_calm (MoreTerms PlusSign term terms) rest h = (refl, λ past. (tt, term_still term (write_terms terms rest) (terms_calm terms rest h) (sign symbol.Plus ∷ past)))
    terms_calm (MoreTerms MinusSign term terms) rest h = (refl, λ past. (tt, term_still term (write_terms terms rest) (terms_calm terms rest h) (sign symbol.Minus ∷ past)))

    term_still : (r : TermRule) (rest : List Token) → Calm first rest → Still first (write_term r rest)
    term_still (Product factor factors) rest h = factor_still factor (write_factors factors rest) (factors_calm factors rest h)

    factors_calm : (r : FactorsRule) (rest : List Token) → Calm first rest → Calm first (write_factors r rest)
    factors_calm NoFactor rest h = h
    factors_calm (MoreFactors factor factors) rest h = (refl, λ past. (tt, factor_still factor (write_factors factors rest) (factors_calm factors rest h) (sign symbol.Star ∷ past)))

    factor_still : (r : FactorRule) (rest : List Token) → Calm first rest → Still first (write_factor r rest)
    factor_still (Number digits) rest h = λ past. (tt, h.1 (Digits digits ∷ past))
    factor_still (Operand operand) rest h = operand_still operand rest h

    operand_still : (r : OperandRule) (rest : List Token) → Calm first rest → Still first (write_operand r rest)
    operand_still (NegativeNumber digits) rest h = λ past. (tt, (tt, h.1 (Digits digits ∷ sign symbol.Minus ∷ past)))
    operand_still (StringOperand text) rest h = λ past. (tt, h.1 (Text text ∷ past))
    operand_still (DateOperand text is) rest h = λ past. (tt, (tt, h.1 (Text text ∷ Key word.Date ∷ past)))
    operand_still NullOperand rest h = λ past. (tt, h.1 (Key word.Null ∷ past))
    operand_still (ColumnOperand column) rest h = (column_calm column rest h).1
    operand_still (Negated operand) rest h = λ past. (tt, operand_still operand rest h (sign symbol.Minus ∷ past))
    operand_still (Parenthesised e) rest h = λ past. (tt, expr_still e (sign symbol.Close ∷ rest) (refl, λ inside. (tt, h.1 (sign symbol.Close ∷ inside))) (sign symbol.Open ∷ past))

  aggregate_still : (f : AggOp) (rest : List Token) → Still first rest → Still first (Key (aggregate_word f) ∷ rest)
  aggregate_still aggregate.Count rest h = λ past. (tt, h (Key word.Count ∷ past))
  aggregate_still aggregate.Sum rest h = λ past. (tt, h (Key word.Sum ∷ past))
  aggregate_still aggregate.Min rest h = λ past. (tt, h (Key word.Min ∷ past))
  aggregate_still aggregate.Max rest h = λ past. (tt, h (Key word.Max ∷ past))

  pub value_still : (r : ValueRule) (rest : List Token) → Calm first rest → Still first (write_value r rest)
  value_still (ExprValue e) rest h = expr_still e rest h
  value_still (AggValue CountAll) rest h = λ past. (tt, (tt, (tt, (tt, h.1 (sign symbol.Close ∷ sign symbol.Star ∷ sign symbol.Open ∷ Key word.Count ∷ past)))))
  value_still (AggValue (AggregateOf f e)) rest h =
      aggregate_still f (sign symbol.Open ∷ write_expr e (sign symbol.Close ∷ rest))
      (λ past. (tt, expr_still e (sign symbol.Close ∷ rest) (refl, λ inside. (tt, h.1 (sign symbol.Close ∷ inside))) (sign symbol.Open ∷ past)))

  -- ## Lists

  module _ {X : Type 0} (write : X → List Token → List Token) (still : (x : X) (rest : List Token) → Calm first rest → Still first (write x rest)) where
    pub more_calm : (xs : List X) (rest : List Token) → Calm first rest → Calm first (write_more write xs rest)
    more_calm [] rest h = h
    more_calm (x ∷ xs) rest h = (refl, λ past. (tt, still x (write_more write xs rest) (more_calm xs rest h) (sign symbol.Comma ∷ past)))

    pub some_still : (xs : X × List X) (rest : List Token) → Calm first rest → Still first (write_some write xs rest)
    some_still xs rest h = still xs.0 (write_more write xs.1 rest) (more_calm xs.1 rest h)

    pub enclosed_still : (xs : X × List X) (rest : List Token) → Still first rest → Still first (write_enclosed write xs rest)
    enclosed_still xs rest h = λ past. (tt, some_still xs (sign symbol.Close ∷ rest) (refl, λ inside. (tt, h (sign symbol.Close ∷ inside))) (sign symbol.Open ∷ past))

    pub behind_calm : (words : List Keyword) → ((ts : List Token) → Still first ts → Calm first (map Key words ++ ts)) → (o : Option X) (rest : List Token) → Calm first rest → Calm first (write_behind write words o rest)
    behind_calm words led None rest h = h
    behind_calm words led (Some x) rest h = led (write x rest) (still x rest h)

  -- ## Conditions

  cmp_calm : (c : CmpRule) (rest : List Token) → Still first rest → Calm first (write_cmp c ∷ rest)
  cmp_calm EqualSign rest h = (refl, λ past. (tt, h (sign symbol.Equal ∷ past)))
  cmp_calm NotEqualSign rest h = (refl, λ past. (tt, h (sign symbol.NotEqual ∷ past)))
  cmp_calm BangEqualSign rest h = (refl, λ past. (tt, h (sign symbol.BangEqual ∷ past)))
  cmp_calm LessSign rest h = (refl, λ past. (tt, h (sign symbol.Less ∷ past)))
  cmp_calm LessEqualSign rest h = (refl, λ past. (tt, h (sign symbol.LessEqual ∷ past)))
  cmp_calm GreaterSign rest h = (refl, λ past. (tt, h (sign symbol.Greater ∷ past)))
  cmp_calm GreaterEqualSign rest h = (refl, λ past. (tt, h (sign symbol.GreaterEqual ∷ past)))

  module _ {E : Type 0} (write : E → List Token → List Token) (still : (e : E) (rest : List Token) → Calm first rest → Still first (write e rest)) where
    between_still : (low high : E) (rest : List Token) → Calm first rest → Still first (Key word.Between ∷ write low (Key word.And ∷ write high rest))
    between_still low high rest h = λ past. (tt, still low (Key word.And ∷ write high rest) (refl, λ inside. (tt, still high rest h (Key word.And ∷ inside))) (Key word.Between ∷ past))

    in_still : (members : E × List E) (rest : List Token) → Still first rest → Still first (Key word.In ∷ write_enclosed write members rest)
    in_still members rest h = λ past. (tt, enclosed_still write still members rest h (Key word.In ∷ past))

    test_still : (r : TestRule E) (rest : List Token) → Calm first rest → Still first (write_test write r rest)
    test_still (Comparison left cmp right) rest h = still left (write_cmp cmp ∷ write right rest) (cmp_calm cmp (write right rest) (still right rest h))
    test_still (BetweenTest of true low high) rest h = still of (Key word.Not ∷ Key word.Between ∷ write low (Key word.And ∷ write high rest)) (refl, λ past. (tt, between_still low high rest h (Key word.Not ∷ past)))
    test_still (BetweenTest of false low high) rest h = still of (Key word.Between ∷ write low (Key word.And ∷ write high rest)) (refl, between_still low high rest h)
    test_still (InTest of true members) rest h = still of (Key word.Not ∷ Key word.In ∷ write_enclosed write members rest) (refl, λ past. (tt, in_still members rest h.1 (Key word.Not ∷ past)))
    test_still (InTest of false members) rest h = still of (Key word.In ∷ write_enclosed write members rest) (refl, in_still members rest h.1)
    test_still (NullTest of true) rest h = still of (Key word.Is ∷ Key word.Not ∷ Key word.Null ∷ rest) (refl, λ past. (tt, (tt, (tt, h.1 (Key word.Null ∷ Key word.Not ∷ Key word.Is ∷ past)))))
    test_still (NullTest of false) rest h = still of (Key word.Is ∷ Key word.Null ∷ rest) (refl, λ past. (tt, (tt, h.1 (Key word.Null ∷ Key word.Is ∷ past))))

    mutual
      pub cond_still : (r : CondRule E) (rest : List Token) → Calm first rest → Still first (write_cond write r rest)
      cond_still (Disjunction conj conjs) rest h = conj_still conj (write_conjs write conjs rest) (conjs_calm conjs rest h)

      conjs_calm : (r : ConjsRule E) (rest : List Token) → Calm first rest → Calm first (write_conjs write r rest)
      conjs_calm NoConj rest h = h
      conjs_calm (MoreConjs conj conjs) rest h = (refl, λ past. (tt, conj_still conj (write_conjs write conjs rest) (conjs_calm conjs rest h) (Key word.Or ∷ past)))

      conj_still : (r : ConjRule E) (rest : List Token) → Calm first rest → Still first (write_conj write r rest)
      conj_still (Conjunction unit units) rest h = unit_still unit (write_units write units rest) (units_calm units rest h)

      units_calm : (r : UnitsRule E) (rest : List Token) → Calm first rest → Calm first (write_units write r rest)
      units_calm NoUnit rest h = h
      units_calm (MoreUnits unit units) rest h = (refl, λ past. (tt, unit_still unit (write_units write units rest) (units_calm units rest h) (Key word.And ∷ past)))

      unit_still : (r : UnitRule E) (rest : List Token) → Calm first rest → Still first (write_unit write r rest)
      unit_still (NotUnit unit) rest h = λ past. (tt, unit_still unit rest h (Key word.Not ∷ past))
      unit_still (CondUnit cond) rest h = λ past. (tt, cond_still cond (sign symbol.Close ∷ rest) (refl, λ inside. (tt, h.1 (sign symbol.Close ∷ inside))) (sign symbol.Open ∷ past))
      unit_still (TestUnit test) rest h = test_still test rest h
