-- What is read as an expression is what a derivation writes.
use Rattle.std.proofs.Common.{◌≡◌, ℕ, zero, suc, List, [], ◌∷◌, length, Bool, true, false, cond, Some, None, pos, refl, ap, sym, ◌∙◌, inl, inr}
use Rattle.cell_core.specs.declared.cell.Cell.TheVariants as cell
use Rattle.sql_grammar.specs.Grammar.{sign, write_sign, sign_op, NameRule, write_name, name_of, write_column, column_of, FactorRule, write_expr, write_terms, write_term, write_factors, write_factor, write_operand, expr_of, terms_of, term_of, factors_of, factor_of, operand_of, negative_of}
use Rattle.sql_grammar.specs.Grammar.NameRule.{BareName, QuotedName}
use Rattle.sql_grammar.specs.Grammar.ColumnRule.{PlainColumn, TableColumn}
use Rattle.sql_grammar.specs.Grammar.ExprRule.{Sum}
use Rattle.sql_grammar.specs.Grammar.TermsRule.{NoTerm, MoreTerms}
use Rattle.sql_grammar.specs.Grammar.TermRule.{Product}
use Rattle.sql_grammar.specs.Grammar.FactorsRule.{NoFactor, MoreFactors}
use Rattle.sql_grammar.specs.Grammar.FactorRule.{Number, Operand}
use Rattle.sql_grammar.specs.Grammar.OperandRule.{NegativeNumber, StringOperand, DateOperand, NullOperand, ColumnOperand, Negated, Parenthesised}
use Rattle.read_laws.specs.Bounded.{Builder}
use Rattle.read_laws.specs.Chain.{Found, Parser, first_token, after_first, chain}
use Rattle.read_laws.specs.DerivedExprs.{expr_with}
use Rattle.read_laws.specs.ExprReader.{sign_in, star_in, is_dot, digits_in, name_in, column, date, term, expr, negative, factor_at, factor}
use Rattle.read_laws.proofs.ChainLemmas.{given_found, chain_found, no_steps_found}
use Rattle.text_bytes.proofs.DayLemmas.{day_found}
use Rattle.read_laws.proofs.TokenTests.{sign_found, star_found, dot_found, digits_found, text_found, name_found, closed_found}
use Rattle.sql_tree.specs.Tree.{ExprTree}
use Rattle.sql_tree.specs.Tree.ExprTree.{Literal, ColumnOf, Operator}
use Rattle.sql_tree.specs.declared.token.Keyword.TheVariants as word
use Rattle.sql_tree.specs.declared.token.Symbol.TheVariants as symbol
use Rattle.sql_tree.specs.declared.token.Token.{Token}
use Rattle.sql_tree.specs.declared.token.Token.TheVariants.{Name, Quoted, Text, Digits, Key}
use Rattle.sql_tree.specs.declared.token.Token.TheVariants as token
use Rattle.sql_tree.specs.declared.tree.ArithOp.TheVariants as arithmetic
use Rattle.sql_tree.specs.declared.tree.ColRef.{ColRef}
use Rattle.text_bytes.specs.Found.{then_read}
use Rattle.text_bytes.proofs.FoundLemmas.{then_found, pair_found}

-- a derivation writes the tokens before the rest, and stands for the value
pub record IsWritten {D X : Type 0} (write : D → List Token → List Token) (meaning : D → X) (ts : List Token) (x : X) (rest : List Token) : Type 0 where
  pub rule : D
  pub written : write rule rest ≡ ts
  pub means : meaning rule ≡ x

-- whatever a reader finds is written
abbrev pub IsSound : {D X : Type 0} → (D → List Token → List Token) → (D → X) → Parser X → Type 0
IsSound {D} {X} write meaning part = (ts : List Token) (x : X) (rest : List Token) → part ts ≡ Some (x, rest) → IsWritten write meaning ts x rest

-- a column after the first of its names
abbrev table_column : List ℕ → List Token → Found ColRef
table_column name ts = then_read (name_in (first_token (after_first ts))) (λ column. Some (record { table = Some name; column = column }, after_first (after_first ts)))

column_is : (name : List ℕ) (ts : List Token) → column name ts ≡ cond (is_dot (first_token ts)) (table_column name ts) (Some (record { table = None; column = name }, ts))
unfolding column
column_is name ts = refl

pub column_found : (first : NameRule) (ts : List Token) (c : ColRef) (rest : List Token) → column (name_of first) ts ≡ Some (c, rest) → IsWritten write_column column_of (write_name first ts) c rest
column_found first ts c rest h = at (is_dot (first_token ts)) refl (sym (column_is (name_of first) ts) ∙ h)
  where
    at : (b : Bool) → is_dot (first_token ts) ≡ b → cond b (table_column (name_of first) ts) (Some (record { table = None; column = name_of first }, ts)) ≡ Some (c, rest) → IsWritten write_column column_of (write_name first ts) c rest
    at true e h =
        let f = then_found _ _ _ h in
        let name = name_found (after_first ts) f.0 f.1 in
        let parts = pair_found _ _ _ _ f.2 in
        record {
          rule = TableColumn first name.0;
          written = ap (λ r. write_name first (sign symbol.Dot ∷ write_name name.0 r)) (sym parts.1) ∙ ap (λ r. write_name first (sign symbol.Dot ∷ r)) name.1 ∙ ap (write_name first) (dot_found ts e);
          means = ap (λ n. record { table = Some (name_of first); column = n }) name.2 ∙ parts.0;
        }
    at false e h =
        let parts = pair_found _ _ _ _ h in
        record { rule = PlainColumn first; written = ap (write_name first) (sym parts.1); means = parts.0 }

module _ (build : Builder) where
  module _ (part : Parser ExprTree) (sound : IsSound write_factor (λ d. expr_with build (factor_of d)) part) where
    factors_found : (n : ℕ) (left : ExprTree) (ts : List Token) (x : ExprTree) (rest : List Token) → chain star_in build.operator part n (expr_with build left) ts ≡ Some (x, rest) → IsWritten write_factors (λ d. expr_with build (factors_of left d)) ts x rest
    factors_found zero left ts x rest h =
        let e = no_steps_found star_in build.operator part _ ts x rest h in
        record { rule = NoFactor; written = sym e.1; means = e.0 }
    factors_found (suc n) left ts x rest h =
        elim (chain_found star_in build.operator part n (expr_with build left) ts x rest h) [
          | inl e ↦ record { rule = NoFactor; written = sym e.1; means = e.0 }
          | inr s ↦
              let next = sound (after_first ts) s.right s.behind s.right_is in
              let star = star_found ts s.operator s.operator_is in
              let more = factors_found n (Operator arithmetic.Times left (factor_of next.rule)) s.behind x rest
              (ap (λ r. chain star_in build.operator part n (build.operator arithmetic.Times (expr_with build left) r) s.behind) next.means
              ∙ ap (λ o. chain star_in build.operator part n (build.operator o (expr_with build left) s.right) s.behind) star.1 ∙ s.more) in
              record {
                rule = MoreFactors next.rule more.rule;
                written = ap (λ r. sign symbol.Star ∷ write_factor next.rule r) more.written ∙ ap (λ r. sign symbol.Star ∷ r) next.written ∙ star.0;
                means = more.means;
              }
        ]

    term_found : IsSound write_term (λ d. expr_with build (term_of d)) (term build part)
    unfolding term
    term_found ts x rest h =
        let f = then_found _ _ _ h in
        let first = sound ts f.0.0 f.0.1 f.1 in
        let more = factors_found (length f.0.1) (factor_of first.rule) f.0.1 x rest (ap (λ r. chain star_in build.operator part (length f.0.1) r f.0.1) first.means ∙ f.2) in
        record { rule = Product first.rule more.rule; written = ap (write_factor first.rule) more.written ∙ first.written; means = more.means }

    terms_found : (n : ℕ) (left : ExprTree) (ts : List Token) (x : ExprTree) (rest : List Token) → chain sign_in build.operator (term build part) n (expr_with build left) ts ≡ Some (x, rest) → IsWritten write_terms (λ d. expr_with build (terms_of left d)) ts x rest
    terms_found zero left ts x rest h =
        let e = no_steps_found sign_in build.operator (term build part) _ ts x rest h in
        record { rule = NoTerm; written = sym e.1; means = e.0 }
    terms_found (suc n) left ts x rest h =
        elim (chain_found sign_in build.operator (term build part) n (expr_with build left) ts x rest h) [
          | inl e ↦ record { rule = NoTerm; written = sym e.1; means = e.0 }
          | inr s ↦
              let next = term_found (after_first ts) s.right s.behind s.right_is in
              let op = sign_found ts s.operator s.operator_is in
              let more = terms_found n (Operator (sign_op op.0) left (term_of next.rule)) s.behind x rest
              (ap (λ r. chain sign_in build.operator (term build part) n (build.operator (sign_op op.0) (expr_with build left) r) s.behind) next.means
              ∙ ap (λ o. chain sign_in build.operator (term build part) n (build.operator o (expr_with build left) s.right) s.behind) op.2 ∙ s.more) in
              record {
                rule = MoreTerms op.0 next.rule more.rule;
                written = ap (λ r. write_sign op.0 ∷ write_term next.rule r) more.written ∙ ap (λ r. write_sign op.0 ∷ r) next.written ∙ op.1;
                means = more.means;
              }
        ]

    pub expr_found : IsSound write_expr (λ d. expr_with build (expr_of d)) (expr build part)
    unfolding expr
    expr_found ts x rest h =
        let f = then_found _ _ _ h in
        let first = term_found ts f.0.0 f.0.1 f.1 in
        let more = terms_found (length f.0.1) (term_of first.rule) f.0.1 x rest (ap (λ r. chain sign_in build.operator (term build part) (length f.0.1) r f.0.1) first.means ∙ f.2) in
        record { rule = Sum first.rule more.rule; written = ap (write_term first.rule) more.written ∙ first.written; means = more.means }

    abbrev negated : ExprTree × List Token → Found ExprTree
    negated operand = Some (build.operator arithmetic.Minus (Literal (build.number (pos 0))) operand.0, operand.1)

    negative_found : (ts : List Token) (x : ExprTree) (rest : List Token) → negative build part ts ≡ Some (x, rest) → IsWritten write_operand (λ d. expr_with build (operand_of d)) (sign symbol.Minus ∷ ts) x rest
    unfolding negative
    negative_found ts x rest h =
        elim (given_found (digits_in (first_token ts)) (then_read (part ts) negated) (λ digits. Some (Literal (build.number (negative_of digits)), after_first ts)) (Some (x, rest)) h) [
          | inl e ↦
              let f = then_found _ _ _ e.1 in
              let operand = sound ts f.0.0 f.0.1 f.1 in
              let parts = pair_found _ _ _ _ f.2 in
              by_rule operand.rule (ap (write_factor operand.rule) (sym parts.1) ∙ operand.written) e.0 (ap (λ o. build.operator arithmetic.Minus (Literal (build.number (pos 0))) o) operand.means ∙ parts.0)
          | inr f ↦
              let parts = pair_found _ _ _ _ f.2 in
              record { rule = NegativeNumber f.0; written = ap (λ r. sign symbol.Minus ∷ Digits f.0 ∷ r) (sym parts.1) ∙ ap (λ r. sign symbol.Minus ∷ r) (digits_found ts f.0 f.1); means = parts.0 }
        ]
      where
        by_rule : (rule : FactorRule) → write_factor rule rest ≡ ts → digits_in (first_token ts) ≡ None → build.operator arithmetic.Minus (Literal (build.number (pos 0))) (expr_with build (factor_of rule)) ≡ x → IsWritten write_operand (λ d. expr_with build (operand_of d)) (sign symbol.Minus ∷ ts) x rest
        by_rule (Number digits) written none means = let e : Some digits ≡ None = ap (λ ts. digits_in (first_token ts)) written ∙ none in cc
        by_rule (Operand operand) written none means = record { rule = Negated operand; written = ap (λ r. sign symbol.Minus ∷ r) written; means = means }

    date_found : (ts : List Token) (x : ExprTree) (rest : List Token) → date ts ≡ Some (x, rest) → IsWritten write_operand (λ d. expr_with build (operand_of d)) (Key word.Date ∷ ts) x rest
    unfolding date
    date_found ts x rest h =
        let f = then_found _ _ _ h in
        let g = then_found _ _ _ f.2 in
        let day = day_found f.0 g.0 g.1 in
        let parts = pair_found _ _ _ _ g.2 in
        record { rule = DateOperand f.0 day.0; written = ap (λ r. Key word.Date ∷ Text f.0 ∷ r) (sym parts.1) ∙ ap (λ r. Key word.Date ∷ r) (text_found ts f.0 f.1); means = ap (λ d. Literal (cell.Day d)) day.1 ∙ parts.0 }

    operand_only : (ts : List Token) (x : ExprTree) (rest : List Token) → IsWritten write_operand (λ d. expr_with build (operand_of d)) ts x rest → IsWritten write_factor (λ d. expr_with build (factor_of d)) ts x rest
    operand_only ts x rest w = record { rule = Operand w.rule; written = w.written; means = w.means }

    abbrev as_column : ColRef × List Token → Found ExprTree
    as_column column = Some (ColumnOf column.0, column.1)

    named_found : (first : NameRule) (ts : List Token) (x : ExprTree) (rest : List Token) → then_read (column (name_of first) ts) as_column ≡ Some (x, rest) → IsWritten write_factor (λ d. expr_with build (factor_of d)) (write_name first ts) x rest
    named_found first ts x rest h =
        let f = then_found _ _ _ h in
        let parts = pair_found _ _ _ _ f.2 in
        let column = column_found first ts f.0.0 f.0.1 f.1 in
        record { rule = Operand (ColumnOperand column.rule); written = ap (write_column column.rule) (sym parts.1) ∙ column.written; means = ap ColumnOf column.means ∙ parts.0 }

    factor_at_found : (t : Token) (ts : List Token) (x : ExprTree) (rest : List Token) → factor_at build part (Some t) ts ≡ Some (x, rest) → IsWritten write_factor (λ d. expr_with build (factor_of d)) (t ∷ ts) x rest
    factor_at_found (Digits digits) ts x rest h =
        let parts = pair_found _ _ _ _ h in
        record { rule = Number digits; written = ap (λ r. Digits digits ∷ r) (sym parts.1); means = parts.0 }
    factor_at_found (Text text) ts x rest h =
        let parts = pair_found _ _ _ _ h in
        record { rule = Operand (StringOperand text); written = ap (λ r. Text text ∷ r) (sym parts.1); means = parts.0 }
    factor_at_found (Key word.Date) ts x rest h = operand_only _ x rest (date_found ts x rest h)
    factor_at_found (Key word.Null) ts x rest h =
        let parts = pair_found _ _ _ _ h in
        record { rule = Operand NullOperand; written = ap (λ r. Key word.Null ∷ r) (sym parts.1); means = parts.0 }
    factor_at_found (Name name) ts x rest h = named_found (BareName name) ts x rest h
    factor_at_found (Quoted name) ts x rest h = named_found (QuotedName name) ts x rest h
    factor_at_found (token.Symbol symbol.Minus) ts x rest h = operand_only _ x rest (negative_found ts x rest h)
    factor_at_found (token.Symbol symbol.Open) ts x rest h =
        let f = then_found _ _ _ h in
        let e = expr_found ts f.0.0 f.0.1 f.1 in
        let parts = closed_found f.0 x rest f.2 in
        record { rule = Operand (Parenthesised e.rule); written = ap (λ r. sign symbol.Open ∷ write_expr e.rule r) parts.1 ∙ ap (λ r. sign symbol.Open ∷ r) e.written; means = e.means ∙ parts.0 }
    factor_at_found other ts x rest h = cc

  pub factor_found : (n : ℕ) → IsSound write_factor (λ d. expr_with build (factor_of d)) (factor build n)
  unfolding factor
  factor_found zero ts x rest h = cc
  factor_found (suc n) [] x rest h = cc
  factor_found (suc n) (t ∷ ts) x rest h = factor_at_found (factor build n) (factor_found n) t ts x rest h
