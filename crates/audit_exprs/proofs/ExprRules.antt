-- Expressions are read by the rules of levels.
use Rattle.std.proofs.Common.{◌≡◌, ℕ, ℤ, zero, suc, ◌<◌, ◌≤◌, List, [], ◌∷◌, ◌++◌, length, map, Option, Some, None, refl, ap, ◌∙◌, arith}
use Rattle.sql_grammar.specs.Grammar.{write_factor, negative_of}
use Rattle.sql_grammar.specs.Grammar.ExprRule.{Sum}
use Rattle.sql_grammar.specs.Grammar.TermRule.{Product}
use Rattle.sql_grammar.specs.Grammar.TermsRule.{NoTerm}
use Rattle.sql_grammar.specs.Grammar.FactorsRule.{NoFactor}
use Rattle.read_laws.specs.Bounded.{Builder, bounded}
use Rattle.read_laws.specs.Chain.{Found, Parser, first_token, after_first, given}
use Rattle.read_laws.specs.CondReader.{whole_expr}
use Rattle.read_laws.specs.ExprReader.{digits_in, text_in, term, expr, negative, date, factor, closed}
use Rattle.read_laws.specs.StmtReader.{column, literal, negative_literal, day_literal}
use Rattle.read_laws.proofs.ChainLemmas.{then_then}
use Rattle.read_laws.proofs.ExprSound.{factor_found}
use Rattle.read_laws.proofs.ExprComplete.{expr_longer}
use Rattle.sql_tree.specs.Tree.{ExprTree}
use Rattle.sql_tree.specs.Tree.ExprTree.{Literal}
use Rattle.cell_core.specs.declared.cell.Cell.TheVariants as cell
use Rattle.sql_tree.specs.declared.token.Keyword.TheVariants as word
use Rattle.sql_tree.specs.declared.token.Symbol.TheVariants as symbol
use Rattle.sql_tree.specs.declared.token.Token.{Token}
use Rattle.sql_tree.specs.declared.token.Token.TheVariants.{Key}
use Rattle.sql_tree.specs.declared.token.Token.TheVariants as token
use Rattle.sql_tree.specs.declared.tree.ArithOp.{ArithOp}
use Rattle.sql_tree.specs.declared.tree.Expr.{Expr}
use Rattle.text_bytes.specs.Days.{day_named}
use Rattle.text_bytes.specs.Found.{then_read}
use Rattle.audit_exprs.specs.declared.openings.Opening.{Opening}
use Rattle.audit_exprs.specs.declared.openings.Opening.TheVariants as opening_of
use Rattle.audit_exprs.specs.declared.level.ExprLevel.{ExprLevel}
use Rattle.audit_exprs.specs.Between.{Waits, rest_after, group, whole}
use Rattle.audit_exprs.specs.ExprLevels.{expr_opening, literal_found, atom, minus, expr_rules, times, added, expr_waits, exprs_wait}
use Rattle.audit_exprs.proofs.BetweenLemmas.{AreRead}

abbrev pub opens : List Token → Option Opening
opens ts = expr_opening (first_token ts) (after_first ts)

module _ (build : Builder) where
  -- an expression in a level is groups between far operators
  expr_is : (part : Parser ExprTree) (ts : List Token) → expr build part ts ≡ whole (expr_rules build) part ts
  unfolding expr term whole rest_after group
  expr_is part ts = then_then (part ts) _ _

  shorter : (n : ℕ) (ts : List Token) (x : ExprTree) (rest : List Token) → factor build n ts ≡ Some (x, rest) → length rest < length ts
  shorter n ts x rest h =
      let w = factor_found build n ts x rest h in
      let a = expr_longer (Sum (Product w.rule NoFactor) NoTerm) rest in
      let e : length (write_factor w.rule rest) ≡ length ts = ap length w.written in
      omega (arith, a, e)

  opened : (ts : List Token) (o : Opening) → opens ts ≡ Some o → length (after_first ts) < length ts
  opened [] o h = cc
  opened (t ∷ ts) o h = omega arith

  abbrev minus_found : ExprTree × List Token → Found ExprTree
  minus_found operand = Some (minus build operand.0, operand.1)

  abbrev number_found : List Token → List ℕ → Found ExprTree
  number_found ts digits = Some (Literal (build.number (negative_of digits)), after_first ts)

  prefix : (n : ℕ) (ts : List Token) → opens ts ≡ Some opening_of.Prefix → factor build (suc n) ts ≡ then_read (factor build n (after_first ts)) minus_found
  unfolding factor negative
  prefix n (token.Symbol symbol.Minus ∷ ts) h = at (digits_in (first_token ts)) h
    where
      at : (o : Option (List ℕ)) → given o (Some opening_of.Prefix) (λ _. None) ≡ Some opening_of.Prefix → given o (then_read (factor build n ts) minus_found) (number_found ts) ≡ then_read (factor build n ts) minus_found
      at (Some digits) h = cc
      at None h = refl
  prefix n other h = cc

  inside : (n : ℕ) (ts : List Token) → opens ts ≡ Some opening_of.Parenthesis → factor build (suc n) ts ≡ then_read (whole (expr_rules build) (factor build n) (after_first ts)) closed
  unfolding factor
  inside n (token.Symbol symbol.Open ∷ ts) h = ap (λ o. then_read o closed) (expr_is (factor build n) ts)
  inside n (token.Symbol symbol.Minus ∷ ts) h = at (digits_in (first_token ts)) h
    where
      at : {X : Type 0} (o : Option (List ℕ)) → given o (Some opening_of.Prefix) (λ _. None) ≡ Some opening_of.Parenthesis → X
      at (Some digits) h = cc
      at None h = cc
  inside n other h = cc

  -- a day is read as a literal
  date_is : (ts : List Token) → date ts ≡ then_read (day_literal ts) (literal_found build)
  unfolding date day_literal
  date_is ts = at (text_in (first_token ts))
    where
      named : (o : Option ℤ) → then_read o (λ day. let f : Found ExprTree = Some (Literal (cell.Day day), after_first ts) in f) ≡ then_read (then_read o (λ day. Some (cell.Day day, after_first ts))) (literal_found build)
      named None = refl
      named (Some day) = refl

      at : (o : Option (List ℕ)) → then_read o (λ text. then_read (day_named text) (λ day. let f : Found ExprTree = Some (Literal (cell.Day day), after_first ts) in f)) ≡ then_read (then_read o (λ text. then_read (day_named text) (λ day. Some (cell.Day day, after_first ts)))) (literal_found build)
      at None = refl
      at (Some text) = named (day_named text)

  alone_is : (n : ℕ) (ts : List Token) → length ts ≤ n → opens ts ≡ None → factor build n ts ≡ atom build ts
  unfolding factor negative atom literal negative_literal column
  alone_is zero [] room h = refl
  alone_is zero (t ∷ ts) room h = absurd (omega arith)
  alone_is (suc n) [] room h = refl
  alone_is (suc n) (Key word.Date ∷ ts) room h = date_is ts
  alone_is (suc n) (token.Symbol symbol.Minus ∷ ts) room h = at (digits_in (first_token ts)) h
    where
      at : (o : Option (List ℕ)) → given o (Some opening_of.Prefix) (λ _. None) ≡ None → given o (then_read (factor build n ts) minus_found) (number_found ts) ≡ then_read (then_read o (λ digits. Some (build.number (negative_of digits), after_first ts))) (literal_found build)
      at (Some digits) h = refl
      at None h = cc
  alone_is (suc n) (token.Symbol symbol.Open ∷ ts) room h = cc
  alone_is (suc n) other room h = refl

  pub are_read : AreRead (expr_rules build) opens (atom build)
  are_read = record {
    no_near = refl;
    no_far = refl;
    shorter = shorter;
    opened = opened;
    prefix = prefix;
    inside = inside;
    alone_is = alone_is;
  }

  pub whole_is : (ts : List Token) → whole_expr build ts ≡ whole (expr_rules build) (factor build (length ts)) ts
  unfolding whole_expr
  whole_is ts = expr_is (factor build (length ts)) ts

-- ## The levels of the code

abbrev pub wait : Option (ArithOp × Expr) → Option Expr → ℕ → Waits ExprTree
wait sum product minuses = record { prefixes = minuses; near = times bounded product; far = added bounded sum }

pub level_waits : (l : ExprLevel) (s : Option (ArithOp × Expr)) (p : Option Expr) (n : ℕ) → l.sum ≡ s → l.product ≡ p → l.minuses ≡ n → expr_waits l ≡ wait s p n
level_waits l s p n hs hp hn = ap (λ s. wait s l.product l.minuses) hs ∙ ap (λ p. wait s p l.minuses) hp ∙ ap (wait s p) hn
