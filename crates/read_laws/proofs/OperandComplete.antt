-- What a derivation of an expression or an aggregate writes is read as what it stands for, and how it
-- begins.
use Rattle.std.proofs.Common.{◌≡◌, ℕ, zero, suc, ◌<◌, ◌≤◌, List, ◌∷◌, length, Bool, true, false, Option, Some, None, refl, arith}
use Rattle.sql_grammar.specs.Grammar.{sign, ExprRule, OperandRule, write_expr, write_operand, expr_of, aggregate_word, ValueRule, write_value, value_of}
use Rattle.sql_grammar.specs.Grammar.NameRule.{BareName, QuotedName}
use Rattle.sql_grammar.specs.Grammar.ColumnRule.{PlainColumn, TableColumn}
use Rattle.sql_grammar.specs.Grammar.ExprRule.{Sum}
use Rattle.sql_grammar.specs.Grammar.TermRule.{Product}
use Rattle.sql_grammar.specs.Grammar.FactorRule.{Number, Operand}
use Rattle.sql_grammar.specs.Grammar.OperandRule.{NegativeNumber, StringOperand, DateOperand, NullOperand, ColumnOperand, Negated, Parenthesised}
use Rattle.sql_grammar.specs.Grammar.AggRule.{CountAll, AggregateOf}
use Rattle.sql_grammar.specs.Grammar.ValueRule.{ExprValue, AggValue}
use Rattle.read_laws.specs.Bounded.{Builder}
use Rattle.read_laws.specs.Chain.{Parser, first_token}
use Rattle.read_laws.specs.CondReader.{aggregate_in, is_all, whole_expr, argument, value}
use Rattle.read_laws.specs.DerivedExprs.{expr_with}
use Rattle.read_laws.specs.Parts.{is_key, is_symbol}
use Rattle.read_laws.specs.ExprReader.{is_close, expr, term, factor, closed}
use Rattle.read_laws.proofs.ChainLemmas.{then_told, then_none, given_told, given_none, branch_false}
use Rattle.read_laws.proofs.ExprComplete.{EndsExpr, expr_longer, expr_told}
use Rattle.sql_tree.specs.Tree.{ExprTree}
use Rattle.sql_tree.specs.declared.token.Keyword.TheVariants as word
use Rattle.sql_tree.specs.declared.token.Symbol.TheVariants as symbol
use Rattle.sql_tree.specs.declared.token.Token.{Token}
use Rattle.sql_tree.specs.declared.token.Token.TheVariants.{Name, Quoted, Text, Digits, Key}
use Rattle.sql_tree.specs.declared.token.Token.TheVariants as token
use Rattle.sql_tree.specs.declared.tree.AggOp.{AggOp}
use Rattle.sql_tree.specs.declared.tree.AggOp.TheVariants as aggregate
use Rattle.text_bytes.specs.Found.{then_read}

-- ## The first token of an expression

-- an expression may begin with the token
abbrev pub begins_expr : Option Token → Bool
begins_expr (Some (Digits digits)) = true
begins_expr (Some (Text text)) = true
begins_expr (Some (Name name)) = true
begins_expr (Some (Quoted name)) = true
begins_expr (Some (Key word.Date)) = true
begins_expr (Some (Key word.Null)) = true
begins_expr (Some (token.Symbol symbol.Minus)) = true
begins_expr (Some (token.Symbol symbol.Open)) = true
begins_expr other = false

operand_begins : (d : OperandRule) (rest : List Token) → begins_expr (first_token (write_operand d rest)) ≡ true
operand_begins (NegativeNumber digits) rest = refl
operand_begins (StringOperand text) rest = refl
operand_begins (DateOperand text is) rest = refl
operand_begins NullOperand rest = refl
operand_begins (ColumnOperand (PlainColumn (BareName name))) rest = refl
operand_begins (ColumnOperand (PlainColumn (QuotedName name))) rest = refl
operand_begins (ColumnOperand (TableColumn (BareName name) column)) rest = refl
operand_begins (ColumnOperand (TableColumn (QuotedName name) column)) rest = refl
operand_begins (Negated operand) rest = refl
operand_begins (Parenthesised e) rest = refl

pub expr_begins : (d : ExprRule) (rest : List Token) → begins_expr (first_token (write_expr d rest)) ≡ true
expr_begins (Sum (Product (Number digits) factors) terms) rest = refl
expr_begins (Sum (Product (Operand operand) factors) terms) rest = operand_begins operand _

begins_no_not : (o : Option Token) → begins_expr o ≡ true → is_key word.Not o ≡ false
unfolding is_key
begins_no_not (Some (Key word.Not)) h = cc
begins_no_not other h = refl

begins_no_aggregate : (o : Option Token) → begins_expr o ≡ true → aggregate_in o ≡ None
begins_no_aggregate (Some (Key word.Count)) h = cc
begins_no_aggregate (Some (Key word.Sum)) h = cc
begins_no_aggregate (Some (Key word.Min)) h = cc
begins_no_aggregate (Some (Key word.Max)) h = cc
begins_no_aggregate other h = refl

begins_no_all : (f : AggOp) (o : Option Token) → begins_expr o ≡ true → is_all f o ≡ false
begins_no_all aggregate.Count (Some (token.Symbol symbol.Star)) h = cc
begins_no_all f other h = refl

aggregate_told : (f : AggOp) → aggregate_in (Some (Key (aggregate_word f))) ≡ Some f
aggregate_told aggregate.Count = refl
aggregate_told aggregate.Sum = refl
aggregate_told aggregate.Min = refl
aggregate_told aggregate.Max = refl

aggregate_no_not : (f : AggOp) → is_key word.Not (Some (Key (aggregate_word f))) ≡ false
unfolding is_key
aggregate_no_not aggregate.Count = refl
aggregate_no_not aggregate.Sum = refl
aggregate_no_not aggregate.Min = refl
aggregate_no_not aggregate.Max = refl

-- ## Operands

pub close_ends : (rest : List Token) → EndsExpr (sign symbol.Close ∷ rest)
close_ends rest = record { term_ends = record { factor_ends = record { no_dot = refl }; no_star = refl }; no_sign = refl }

-- a reader of operands finds what is derived; after a `(` that ends no expression it finds nothing
pub record IsOperand (build : Builder) {E : Type 0} (write : E → List Token → List Token) (tree : E → ExprTree) (operand : Parser ExprTree) : Type 0 where
  pub told : (d : E) (rest : List Token) → EndsExpr rest → operand (write d rest) ≡ Some (expr_with build (tree d), rest)
  pub longer : (d : E) (rest : List Token) → length rest < length (write d rest)
  pub no_not : (d : E) (rest : List Token) → is_key word.Not (first_token (write d rest)) ≡ false
  pub early : (d : E) (n : ℕ) (rest : List Token) → length (write d rest) ≤ n → EndsExpr rest → is_close (first_token rest) ≡ false → then_read (expr build (factor build n) (write d rest)) closed ≡ None
  pub opens : (ts : List Token) → then_read (expr build (factor build (length ts)) ts) closed ≡ None → operand (sign symbol.Open ∷ ts) ≡ None

module _ (build : Builder) where
  -- where there is no factor, there is no expression
  pub expr_none : (n : ℕ) (ts : List Token) → factor build n ts ≡ None → then_read (expr build (factor build n) ts) closed ≡ None
  unfolding expr term
  expr_none n ts h = then_none _ closed (then_none _ _ (then_none _ _ h))

  pub whole_told : (d : ExprRule) (rest : List Token) → EndsExpr rest → whole_expr build (write_expr d rest) ≡ Some (expr_with build (expr_of d), rest)
  unfolding whole_expr
  whole_told d rest ends = expr_told build d (length (write_expr d rest)) rest (omega arith) ends

  expr_early : (d : ExprRule) (n : ℕ) (rest : List Token) → length (write_expr d rest) ≤ n → EndsExpr rest → is_close (first_token rest) ≡ false → then_read (expr build (factor build n) (write_expr d rest)) closed ≡ None
  expr_early d n rest h ends open_ = then_told _ _ closed _ (expr_told build d n rest h ends) (branch_false _ _ _ _ open_ refl)

  expr_opens : (ts : List Token) → then_read (expr build (factor build (length ts)) ts) closed ≡ None → whole_expr build (sign symbol.Open ∷ ts) ≡ None
  unfolding whole_expr expr term factor
  expr_opens ts h = then_none _ _ (then_none _ _ h)

  pub expr_operand : IsOperand build write_expr expr_of (whole_expr build)
  expr_operand = record {
    told = whole_told;
    longer = expr_longer;
    no_not = λ d rest. begins_no_not _ (expr_begins d rest);
    early = expr_early;
    opens = expr_opens;
  }

  value_longer : (d : ValueRule) (rest : List Token) → length rest < length (write_value d rest)
  value_longer (ExprValue e) rest = expr_longer e rest
  value_longer (AggValue CountAll) rest = omega arith
  value_longer (AggValue (AggregateOf f e)) rest = let a = expr_longer e (sign symbol.Close ∷ rest) in omega (arith, a)

  value_no_not : (d : ValueRule) (rest : List Token) → is_key word.Not (first_token (write_value d rest)) ≡ false
  unfolding is_key
  value_no_not (ExprValue e) rest = begins_no_not _ (expr_begins e rest)
  value_no_not (AggValue CountAll) rest = refl
  value_no_not (AggValue (AggregateOf f e)) rest = aggregate_no_not f

  argument_told : (f : AggOp) (e : ExprRule) (rest : List Token) → argument build f (write_expr e (sign symbol.Close ∷ rest)) ≡ Some (expr_with build (value_of (AggValue (AggregateOf f e))), rest)
  unfolding argument
  argument_told f e rest = branch_false _ _ _ _ (begins_no_all f _ (expr_begins e (sign symbol.Close ∷ rest))) (then_told _ _ _ _ (whole_told e (sign symbol.Close ∷ rest) (close_ends rest)) refl)

  pub value_told : (d : ValueRule) (rest : List Token) → EndsExpr rest → value build (write_value d rest) ≡ Some (expr_with build (value_of d), rest)
  unfolding value argument is_symbol
  value_told (ExprValue e) rest ends = given_none _ _ _ _ (begins_no_aggregate _ (expr_begins e rest)) (whole_told e rest ends)
  value_told (AggValue CountAll) rest ends = refl
  value_told (AggValue (AggregateOf f e)) rest ends = given_told _ f _ _ _ (aggregate_told f) (argument_told f e rest)

  aggregate_none : (f : AggOp) (n : ℕ) (ts : List Token) → factor build n (Key (aggregate_word f) ∷ ts) ≡ None
  unfolding factor
  aggregate_none f zero ts = refl
  aggregate_none aggregate.Count (suc n) ts = refl
  aggregate_none aggregate.Sum (suc n) ts = refl
  aggregate_none aggregate.Min (suc n) ts = refl
  aggregate_none aggregate.Max (suc n) ts = refl

  value_early : (d : ValueRule) (n : ℕ) (rest : List Token) → length (write_value d rest) ≤ n → EndsExpr rest → is_close (first_token rest) ≡ false → then_read (expr build (factor build n) (write_value d rest)) closed ≡ None
  value_early (ExprValue e) n rest h ends open_ = expr_early e n rest h ends open_
  value_early (AggValue CountAll) n rest h ends open_ = expr_none n _ (aggregate_none aggregate.Count n _)
  value_early (AggValue (AggregateOf f e)) n rest h ends open_ = expr_none n _ (aggregate_none f n _)

  value_opens : (ts : List Token) → then_read (expr build (factor build (length ts)) ts) closed ≡ None → value build (sign symbol.Open ∷ ts) ≡ None
  unfolding value
  value_opens ts h = expr_opens ts h

  pub value_operand : IsOperand build write_value value_of (value build)
  value_operand = record {
    told = value_told;
    longer = value_longer;
    no_not = value_no_not;
    early = value_early;
    opens = value_opens;
  }
