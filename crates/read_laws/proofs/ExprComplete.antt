-- What a derivation of an expression writes is read as what it stands for.
use Rattle.std.proofs.Common.{◌≡◌, ℕ, zero, suc, ◌<◌, ◌≤◌, List, ◌∷◌, length, Bool, false, cond, Some, None, pos, refl, ap, ◌∙◌, arith}
use Rattle.cell_core.specs.declared.cell.Cell.TheVariants as cell
use Rattle.sql_grammar.specs.Grammar.{sign, sign_op, NameRule, write_name, ColumnRule, write_column, column_of, ExprRule, TermsRule, TermRule, FactorsRule, FactorRule, OperandRule, write_expr, write_terms, write_term, write_factors, write_factor, write_operand, expr_of, terms_of, term_of, factors_of, factor_of, operand_of, negative_of}
use Rattle.sql_grammar.specs.Grammar.NameRule.{BareName, QuotedName}
use Rattle.sql_grammar.specs.Grammar.ColumnRule.{PlainColumn, TableColumn}
use Rattle.sql_grammar.specs.Grammar.SignRule.{PlusSign, MinusSign}
use Rattle.sql_grammar.specs.Grammar.ExprRule.{Sum}
use Rattle.sql_grammar.specs.Grammar.TermsRule.{NoTerm, MoreTerms}
use Rattle.sql_grammar.specs.Grammar.TermRule.{Product}
use Rattle.sql_grammar.specs.Grammar.FactorsRule.{NoFactor, MoreFactors}
use Rattle.sql_grammar.specs.Grammar.FactorRule.{Number, Operand}
use Rattle.sql_grammar.specs.Grammar.OperandRule.{NegativeNumber, StringOperand, DateOperand, NullOperand, ColumnOperand, Negated, Parenthesised}
use Rattle.read_laws.specs.Bounded.{Builder}
use Rattle.read_laws.specs.Chain.{Found, first_token, after_first, given, chain}
use Rattle.read_laws.specs.DerivedExprs.{expr_with}
use Rattle.read_laws.specs.ExprReader.{sign_in, star_in, is_dot, digits_in, name_in, column, date, term, expr, negative, factor, closed}
use Rattle.read_laws.proofs.ChainLemmas.{then_told, chain_ends, chain_goes_on}
use Rattle.text_bytes.proofs.DayLemmas.{day_told}
use Rattle.read_laws.proofs.TokenTests.{sign_told}
use Rattle.sql_tree.specs.Tree.{ExprTree}
use Rattle.sql_tree.specs.Tree.ExprTree.{Literal, ColumnOf, Operator}
use Rattle.sql_tree.specs.declared.token.Symbol.TheVariants as symbol
use Rattle.sql_tree.specs.declared.token.Token.{Token}
use Rattle.sql_tree.specs.declared.tree.ArithOp.TheVariants as arithmetic
use Rattle.sql_tree.specs.declared.tree.ColRef.{ColRef}
use Rattle.text_bytes.specs.Found.{then_read}

-- ## What may follow a part

pub record EndsFactor (ts : List Token) : Type 0 where
  pub no_dot : is_dot (first_token ts) ≡ false

pub record EndsTerm (ts : List Token) : Type 0 where
  pub factor_ends : EndsFactor ts
  pub no_star : star_in (first_token ts) ≡ None

pub record EndsExpr (ts : List Token) : Type 0 where
  pub term_ends : EndsTerm ts
  pub no_sign : sign_in (first_token ts) ≡ None

terms_end : (terms : TermsRule) (rest : List Token) → EndsExpr rest → EndsTerm (write_terms terms rest)
terms_end NoTerm rest ends = ends.term_ends
terms_end (MoreTerms PlusSign term terms) rest ends = record { factor_ends = record { no_dot = refl }; no_star = refl }
terms_end (MoreTerms MinusSign term terms) rest ends = record { factor_ends = record { no_dot = refl }; no_star = refl }

factors_end : (factors : FactorsRule) (rest : List Token) → EndsTerm rest → EndsFactor (write_factors factors rest)
factors_end NoFactor rest ends = ends.factor_ends
factors_end (MoreFactors factor factors) rest ends = record { no_dot = refl }

-- ## What is written is longer than what follows it

pub name_longer : (name : NameRule) (rest : List Token) → length rest < length (write_name name rest)
name_longer (BareName name) rest = omega arith
name_longer (QuotedName name) rest = omega arith

pub column_longer : (column : ColumnRule) (rest : List Token) → length rest < length (write_column column rest)
column_longer (PlainColumn column) rest = name_longer column rest
column_longer (TableColumn table column) rest =
    let a = name_longer column rest in
    let b = name_longer table (sign symbol.Dot ∷ write_name column rest) in
    omega (arith, a, b)

mutual
  pub expr_longer : (d : ExprRule) (rest : List Token) → length rest < length (write_expr d rest)
  expr_longer (Sum term terms) rest =
      let a = terms_longer terms rest in
      let b = term_longer term (write_terms terms rest) in
      omega (arith, a, b)

  terms_longer : (d : TermsRule) (rest : List Token) → length rest ≤ length (write_terms d rest)
  terms_longer NoTerm rest = omega arith
  terms_longer (MoreTerms s term terms) rest =
      let a = terms_longer terms rest in
      let b = term_longer term (write_terms terms rest) in
      omega (arith, a, b)

  term_longer : (d : TermRule) (rest : List Token) → length rest < length (write_term d rest)
  term_longer (Product factor factors) rest =
      let a = factors_longer factors rest in
      let b = factor_longer factor (write_factors factors rest) in
      omega (arith, a, b)

  factors_longer : (d : FactorsRule) (rest : List Token) → length rest ≤ length (write_factors d rest)
  factors_longer NoFactor rest = omega arith
  factors_longer (MoreFactors factor factors) rest =
      let a = factors_longer factors rest in
      let b = factor_longer factor (write_factors factors rest) in
      omega (arith, a, b)

  factor_longer : (d : FactorRule) (rest : List Token) → length rest < length (write_factor d rest)
  factor_longer (Number digits) rest = omega arith
  factor_longer (Operand operand) rest = operand_longer operand rest

  operand_longer : (d : OperandRule) (rest : List Token) → length rest < length (write_operand d rest)
  operand_longer (NegativeNumber digits) rest = omega arith
  operand_longer (StringOperand text) rest = omega arith
  operand_longer (DateOperand text is) rest = omega arith
  operand_longer NullOperand rest = omega arith
  operand_longer (ColumnOperand column) rest = column_longer column rest
  operand_longer (Negated operand) rest = let a = operand_longer operand rest in omega (arith, a)
  operand_longer (Parenthesised e) rest = let a = expr_longer e (sign symbol.Close ∷ rest) in omega (arith, a)

-- ## What is read

-- an operand doesn't begin with digits
operand_first : (d : OperandRule) (rest : List Token) → digits_in (first_token (write_operand d rest)) ≡ None
operand_first (NegativeNumber digits) rest = refl
operand_first (StringOperand text) rest = refl
operand_first (DateOperand text is) rest = refl
operand_first NullOperand rest = refl
operand_first (ColumnOperand (PlainColumn (BareName name))) rest = refl
operand_first (ColumnOperand (PlainColumn (QuotedName name))) rest = refl
operand_first (ColumnOperand (TableColumn (BareName name) column)) rest = refl
operand_first (ColumnOperand (TableColumn (QuotedName name) column)) rest = refl
operand_first (Negated operand) rest = refl
operand_first (Parenthesised e) rest = refl

-- a column after its first name, with a dot or without
abbrev column_at : List ℕ → List Token → Bool → Found ColRef
column_at name rest dot = cond dot (then_read (name_in (first_token (after_first rest))) (λ column. Some (record { table = Some name; column = column }, after_first (after_first rest)))) (Some (record { table = None; column = name }, rest))

-- a name before no dot is a column
pub plain_told : (name : List ℕ) (rest : List Token) → EndsFactor rest → column name rest ≡ Some (record { table = None; column = name }, rest)
unfolding column
plain_told name rest ends = ap (column_at name rest) ends.no_dot

module _ (build : Builder) where
  column_told : (n : ℕ) (d : ColumnRule) (rest : List Token) → EndsFactor rest → factor build (suc n) (write_column d rest) ≡ Some (ColumnOf (column_of d), rest)
  unfolding factor column
  column_told n (PlainColumn (BareName name)) rest ends = then_told _ _ _ _ (plain_told name rest ends) refl
  column_told n (PlainColumn (QuotedName name)) rest ends = then_told _ _ _ _ (plain_told name rest ends) refl
  column_told n (TableColumn (BareName table) (BareName name)) rest ends = refl
  column_told n (TableColumn (BareName table) (QuotedName name)) rest ends = refl
  column_told n (TableColumn (QuotedName table) (BareName name)) rest ends = refl
  column_told n (TableColumn (QuotedName table) (QuotedName name)) rest ends = refl

  mutual
    unfolding expr term factor negative date

    pub expr_told : (d : ExprRule) (n : ℕ) (rest : List Token) → length (write_expr d rest) ≤ n → EndsExpr rest → expr build (factor build n) (write_expr d rest) ≡ Some (expr_with build (expr_of d), rest)
    expr_told (Sum first terms) n rest h ends =
        let longer = term_longer first (write_terms terms rest) in
        then_told _ _ _ _ (term_told first n (write_terms terms rest) h (terms_end terms rest ends))
        (terms_told terms n (length (write_terms terms rest)) (term_of first) rest (omega arith) (omega (arith, longer)) ends)

    terms_told : (d : TermsRule) (n k : ℕ) (left : ExprTree) (rest : List Token) → length (write_terms d rest) ≤ k → length (write_terms d rest) ≤ n → EndsExpr rest → chain sign_in build.operator (term build (factor build n)) k (expr_with build left) (write_terms d rest) ≡ Some (expr_with build (terms_of left d), rest)
    terms_told NoTerm n k left rest steps h ends = chain_ends sign_in build.operator _ k (expr_with build left) rest ends.no_sign
    terms_told (MoreTerms s next terms) n zero left rest steps h ends = absurd (omega arith)
    terms_told (MoreTerms s next terms) n (suc k) left rest steps h ends =
        let longer = term_longer next (write_terms terms rest) in
        chain_goes_on sign_in build.operator _ k (expr_with build left) _ (sign_op s) (expr_with build (term_of next)) (write_terms terms rest) (sign_told s)
        (term_told next n (write_terms terms rest) (omega arith) (terms_end terms rest ends))
        ∙ terms_told terms n k (Operator (sign_op s) left (term_of next)) rest (omega (arith, longer)) (omega (arith, longer)) ends

    term_told : (d : TermRule) (n : ℕ) (rest : List Token) → length (write_term d rest) ≤ n → EndsTerm rest → term build (factor build n) (write_term d rest) ≡ Some (expr_with build (term_of d), rest)
    term_told (Product first factors) n rest h ends =
        let longer = factor_longer first (write_factors factors rest) in
        then_told _ _ _ _ (factor_told first n (write_factors factors rest) h (factors_end factors rest ends))
        (factors_told factors n (length (write_factors factors rest)) (factor_of first) rest (omega arith) (omega (arith, longer)) ends)

    factors_told : (d : FactorsRule) (n k : ℕ) (left : ExprTree) (rest : List Token) → length (write_factors d rest) ≤ k → length (write_factors d rest) ≤ n → EndsTerm rest → chain star_in build.operator (factor build n) k (expr_with build left) (write_factors d rest) ≡ Some (expr_with build (factors_of left d), rest)
    factors_told NoFactor n k left rest steps h ends = chain_ends star_in build.operator _ k (expr_with build left) rest ends.no_star
    factors_told (MoreFactors next factors) n zero left rest steps h ends = absurd (omega arith)
    factors_told (MoreFactors next factors) n (suc k) left rest steps h ends =
        let longer = factor_longer next (write_factors factors rest) in
        chain_goes_on star_in build.operator _ k (expr_with build left) _ arithmetic.Times (expr_with build (factor_of next)) (write_factors factors rest) refl
        (factor_told next n (write_factors factors rest) (omega arith) (factors_end factors rest ends))
        ∙ factors_told factors n k (Operator arithmetic.Times left (factor_of next)) rest (omega (arith, longer)) (omega (arith, longer)) ends

    factor_told : (d : FactorRule) (n : ℕ) (rest : List Token) → length (write_factor d rest) ≤ n → EndsFactor rest → factor build n (write_factor d rest) ≡ Some (expr_with build (factor_of d), rest)
    factor_told d zero rest h ends = let longer = factor_longer d rest in absurd (omega (arith, longer))
    factor_told (Number digits) (suc n) rest h ends = refl
    factor_told (Operand operand) (suc n) rest h ends = operand_told operand n rest h ends

    operand_told : (d : OperandRule) (n : ℕ) (rest : List Token) → length (write_operand d rest) ≤ suc n → EndsFactor rest → factor build (suc n) (write_operand d rest) ≡ Some (expr_with build (operand_of d), rest)
    operand_told (NegativeNumber digits) n rest h ends = refl
    operand_told (StringOperand text) n rest h ends = refl
    operand_told NullOperand n rest h ends = refl
    operand_told (DateOperand text is) n rest h ends = ap (λ d. then_read d (λ day. Some (Literal (cell.Day day), rest))) (day_told text is)
    operand_told (ColumnOperand column) n rest h ends = column_told n column rest ends
    operand_told (Negated operand) zero rest h ends = let longer = operand_longer operand rest in absurd (omega (arith, longer))
    operand_told (Negated operand) (suc n) rest h ends =
        ap (λ o. given o (then_read (factor build (suc n) (write_operand operand rest)) (λ operand. Some (build.operator arithmetic.Minus (Literal (build.number (pos 0))) operand.0, operand.1))) (λ digits. Some (Literal (build.number (negative_of digits)), after_first (write_operand operand rest)))) (operand_first operand rest)
        ∙ then_told _ _ _ _ (operand_told operand n rest (omega arith) ends) refl
    operand_told (Parenthesised e) n rest h ends =
        then_told _ _ closed _ (expr_told e n (sign symbol.Close ∷ rest) (omega arith) (record { term_ends = record { factor_ends = record { no_dot = refl }; no_star = refl }; no_sign = refl })) refl
