-- The grammar of SQL, rule by rule. A derivation is plain data, with a constructor for each alternative.
-- Each says how it is written before the tokens that follow it, and the tree that it stands for.
use Rattle.std.specs.Prelude.{ℕ, List, [], ◌∷◌, ◌++◌, map, Bool, true, false, if◌then◌else◌, Option, Some, None, ℤ, pos, neg_ℤ}
use Rattle.std.specs.Str.Parse.{digits_value}
use Rattle.cell_core.specs.Day.{IsDayText, day_in}
use Rattle.cell_core.specs.declared.cell.Cell.{Cell}
use Rattle.cell_core.specs.declared.cell.Cell.TheVariants as cell
use Rattle.sql_tree.specs.Tree.{ExprTree, CondTree}
use Rattle.sql_tree.specs.Tree.ExprTree.{Literal, ColumnOf, Operator, AggregateAll, Aggregate}
use Rattle.sql_tree.specs.Tree.CondTree.{Compare, Within, IsNull, Negation, Both, Either}
use Rattle.sql_tree.specs.declared.token.Keyword.{Keyword}
use Rattle.sql_tree.specs.declared.token.Keyword.TheVariants as word
use Rattle.sql_tree.specs.declared.token.Symbol.{Symbol}
use Rattle.sql_tree.specs.declared.token.Symbol.TheVariants as symbol
use Rattle.sql_tree.specs.declared.token.Token.{Token}
use Rattle.sql_tree.specs.declared.token.Token.TheVariants.{Name, Quoted, Text, Digits, Key, Unsupported}
use Rattle.sql_tree.specs.declared.token.Token.TheVariants as token
use Rattle.sql_tree.specs.declared.tree.AggOp.{AggOp}
use Rattle.sql_tree.specs.declared.tree.AggOp.TheVariants as aggregate
use Rattle.sql_tree.specs.declared.tree.ArithOp.{ArithOp}
use Rattle.sql_tree.specs.declared.tree.ArithOp.TheVariants as arith
use Rattle.sql_tree.specs.declared.tree.CmpOp.{CmpOp}
use Rattle.sql_tree.specs.declared.tree.CmpOp.TheVariants as compare
use Rattle.sql_tree.specs.declared.tree.ColRef.{ColRef}

-- ## Lists and optional parts

-- a token of a symbol
abbrev pub sign : Symbol → Token
sign s = token.Symbol s

module _ {X : Type 0} (write : X → List Token → List Token) where
  -- {"," x}
  abbrev pub write_more : List X → List Token → List Token
  write_more [] rest = rest
  write_more (x ∷ xs) rest = sign symbol.Comma ∷ write x (write_more xs rest)

  -- x {"," x}
  abbrev pub write_some : X × List X → List Token → List Token
  write_some xs rest = write xs.0 (write_more xs.1 rest)

  -- "(" x {"," x} ")"
  abbrev pub write_enclosed : X × List X → List Token → List Token
  write_enclosed xs rest = sign symbol.Open ∷ write_some xs (sign symbol.Close ∷ rest)

  -- an optional part, after its words
  abbrev pub write_behind : List Keyword → Option X → List Token → List Token
  write_behind words None rest = rest
  write_behind words (Some x) rest = map Key words ++ write x rest

-- all of one and more
abbrev pub all_of : {X : Type 0} → X × List X → List X
all_of xs = xs.0 ∷ xs.1

-- all of one and more, or none
abbrev pub any_of : {X : Type 0} → Option (X × List X) → List X
any_of None = []
any_of (Some xs) = all_of xs

-- ## Names, numbers and literals

-- name: a word that isn't reserved, or a quoted name
pub data NameRule : Type 0 where
  BareName : List ℕ → NameRule
  QuotedName : List ℕ → NameRule

abbrev pub write_name : NameRule → List Token → List Token
write_name (BareName name) rest = Name name ∷ rest
write_name (QuotedName name) rest = Quoted name ∷ rest

abbrev pub name_of : NameRule → List ℕ
name_of (BareName name) = name
name_of (QuotedName name) = name

-- the number that digits write, however large: one past the limit of literals is refused later
abbrev pub number_of : List ℕ → ℕ
number_of digits = digits_value 10 digits

-- the same after a `-`
abbrev pub negative_of : List ℕ → ℤ
negative_of digits = neg_ℤ (pos (digits_value 10 digits))

-- literal = ["-"] digits | string | DATE string | NULL
pub data LiteralRule : Type 0 where
  PlainDigits : List ℕ → LiteralRule
  MinusDigits : List ℕ → LiteralRule
  StringLiteral : List ℕ → LiteralRule
  DateLiteral : (text : List ℕ) → IsDayText text → LiteralRule
  NullLiteral : LiteralRule

abbrev pub write_literal : LiteralRule → List Token → List Token
write_literal (PlainDigits digits) rest = Digits digits ∷ rest
write_literal (MinusDigits digits) rest = sign symbol.Minus ∷ Digits digits ∷ rest
write_literal (StringLiteral text) rest = Text text ∷ rest
write_literal (DateLiteral text is) rest = Key word.Date ∷ Text text ∷ rest
write_literal NullLiteral rest = Key word.Null ∷ rest

abbrev pub literal_cell : LiteralRule → Cell
literal_cell (PlainDigits digits) = cell.Int (pos (number_of digits))
literal_cell (MinusDigits digits) = cell.Int (negative_of digits)
literal_cell (StringLiteral text) = cell.Text text
literal_cell (DateLiteral text is) = cell.Day (day_in text)
literal_cell NullLiteral = cell.Nil

-- column = name ["." name]
pub data ColumnRule : Type 0 where
  PlainColumn : NameRule → ColumnRule
  TableColumn : NameRule → NameRule → ColumnRule

abbrev pub write_column : ColumnRule → List Token → List Token
write_column (PlainColumn column) rest = write_name column rest
write_column (TableColumn table column) rest = write_name table (sign symbol.Dot ∷ write_name column rest)

abbrev pub column_of : ColumnRule → ColRef
column_of (PlainColumn column) = record { table = None; column = name_of column }
column_of (TableColumn table column) = record { table = Some (name_of table); column = name_of column }

-- ## Expressions

-- "+" | "-"
pub data SignRule : Type 0 where
  PlusSign : SignRule
  MinusSign : SignRule

mutual
  -- expr = term {("+" | "-") term}
  pub data ExprRule : Type 0 where
    Sum : TermRule → TermsRule → ExprRule

  pub data TermsRule : Type 0 where
    NoTerm : TermsRule
    MoreTerms : SignRule → TermRule → TermsRule → TermsRule

  -- term = factor {"*" factor}
  pub data TermRule : Type 0 where
    Product : FactorRule → FactorsRule → TermRule

  pub data FactorsRule : Type 0 where
    NoFactor : FactorsRule
    MoreFactors : FactorRule → FactorsRule → FactorsRule

  -- factor = digits | operand: a `-` directly before digits belongs to the literal, and so negates no digits
  pub data FactorRule : Type 0 where
    Number : List ℕ → FactorRule
    Operand : OperandRule → FactorRule

  -- operand = "-" digits | string | DATE string | NULL | column | "-" operand | "(" expr ")"
  pub data OperandRule : Type 0 where
    NegativeNumber : List ℕ → OperandRule
    StringOperand : List ℕ → OperandRule
    DateOperand : (text : List ℕ) → IsDayText text → OperandRule
    NullOperand : OperandRule
    ColumnOperand : ColumnRule → OperandRule
    Negated : OperandRule → OperandRule
    Parenthesised : ExprRule → OperandRule

abbrev pub write_sign : SignRule → Token
write_sign PlusSign = sign symbol.Plus
write_sign MinusSign = sign symbol.Minus

abbrev mutual
  pub write_expr : ExprRule → List Token → List Token
  write_expr (Sum term terms) rest = write_term term (write_terms terms rest)

  pub write_terms : TermsRule → List Token → List Token
  write_terms NoTerm rest = rest
  write_terms (MoreTerms s term terms) rest = write_sign s ∷ write_term term (write_terms terms rest)

  pub write_term : TermRule → List Token → List Token
  write_term (Product factor factors) rest = write_factor factor (write_factors factors rest)

  pub write_factors : FactorsRule → List Token → List Token
  write_factors NoFactor rest = rest
  write_factors (MoreFactors factor factors) rest = sign symbol.Star ∷ write_factor factor (write_factors factors rest)

  pub write_factor : FactorRule → List Token → List Token
  write_factor (Number digits) rest = Digits digits ∷ rest
  write_factor (Operand operand) rest = write_operand operand rest

  pub write_operand : OperandRule → List Token → List Token
  write_operand (NegativeNumber digits) rest = sign symbol.Minus ∷ Digits digits ∷ rest
  write_operand (StringOperand text) rest = Text text ∷ rest
  write_operand (DateOperand text is) rest = Key word.Date ∷ Text text ∷ rest
  write_operand NullOperand rest = Key word.Null ∷ rest
  write_operand (ColumnOperand column) rest = write_column column rest
  write_operand (Negated operand) rest = sign symbol.Minus ∷ write_operand operand rest
  write_operand (Parenthesised e) rest = sign symbol.Open ∷ write_expr e (sign symbol.Close ∷ rest)

abbrev pub sign_op : SignRule → ArithOp
sign_op PlusSign = arith.Plus
sign_op MinusSign = arith.Minus

-- repeated operators group to the left, and `-x` is 0 - x where x is no number
abbrev mutual
  pub expr_of : ExprRule → ExprTree
  expr_of (Sum term terms) = terms_of (term_of term) terms

  pub terms_of : ExprTree → TermsRule → ExprTree
  terms_of left NoTerm = left
  terms_of left (MoreTerms s term terms) = terms_of (Operator (sign_op s) left (term_of term)) terms

  pub term_of : TermRule → ExprTree
  term_of (Product factor factors) = factors_of (factor_of factor) factors

  pub factors_of : ExprTree → FactorsRule → ExprTree
  factors_of left NoFactor = left
  factors_of left (MoreFactors factor factors) = factors_of (Operator arith.Times left (factor_of factor)) factors

  pub factor_of : FactorRule → ExprTree
  factor_of (Number digits) = Literal (cell.Int (pos (number_of digits)))
  factor_of (Operand operand) = operand_of operand

  pub operand_of : OperandRule → ExprTree
  operand_of (NegativeNumber digits) = Literal (cell.Int (negative_of digits))
  operand_of (StringOperand text) = Literal (cell.Text text)
  operand_of (DateOperand text is) = Literal (cell.Day (day_in text))
  operand_of NullOperand = Literal cell.Nil
  operand_of (ColumnOperand column) = ColumnOf (column_of column)
  operand_of (Negated operand) = Operator arith.Minus (Literal (cell.Int (pos 0))) (operand_of operand)
  operand_of (Parenthesised e) = expr_of e

-- agg = COUNT "(" "*" ")" | (COUNT | SUM | MIN | MAX) "(" expr ")"
pub data AggRule : Type 0 where
  CountAll : AggRule
  AggregateOf : AggOp → ExprRule → AggRule

abbrev pub aggregate_word : AggOp → Keyword
aggregate_word aggregate.Count = word.Count
aggregate_word aggregate.Sum = word.Sum
aggregate_word aggregate.Min = word.Min
aggregate_word aggregate.Max = word.Max

abbrev pub write_agg : AggRule → List Token → List Token
write_agg CountAll rest = Key word.Count ∷ sign symbol.Open ∷ sign symbol.Star ∷ sign symbol.Close ∷ rest
write_agg (AggregateOf f e) rest = Key (aggregate_word f) ∷ sign symbol.Open ∷ write_expr e (sign symbol.Close ∷ rest)

abbrev pub agg_of : AggRule → ExprTree
agg_of CountAll = AggregateAll aggregate.Count
agg_of (AggregateOf f e) = Aggregate f (expr_of e)

-- expr | agg
pub data ValueRule : Type 0 where
  ExprValue : ExprRule → ValueRule
  AggValue : AggRule → ValueRule

abbrev pub write_value : ValueRule → List Token → List Token
write_value (ExprValue e) rest = write_expr e rest
write_value (AggValue a) rest = write_agg a rest

abbrev pub value_of : ValueRule → ExprTree
value_of (ExprValue e) = expr_of e
value_of (AggValue a) = agg_of a

-- ## Conditions, over expressions in WHERE and ON, and over these and aggregates in HAVING

-- cmp = "=" | "<>" | "!=" | "<" | "<=" | ">" | ">="
pub data CmpRule : Type 0 where
  EqualSign : CmpRule
  NotEqualSign : CmpRule
  BangEqualSign : CmpRule
  LessSign : CmpRule
  LessEqualSign : CmpRule
  GreaterSign : CmpRule
  GreaterEqualSign : CmpRule

abbrev pub write_cmp : CmpRule → Token
write_cmp EqualSign = sign symbol.Equal
write_cmp NotEqualSign = sign symbol.NotEqual
write_cmp BangEqualSign = sign symbol.BangEqual
write_cmp LessSign = sign symbol.Less
write_cmp LessEqualSign = sign symbol.LessEqual
write_cmp GreaterSign = sign symbol.Greater
write_cmp GreaterEqualSign = sign symbol.GreaterEqual

abbrev pub cmp_of : CmpRule → CmpOp
cmp_of EqualSign = compare.Eq
cmp_of NotEqualSign = compare.Ne
cmp_of BangEqualSign = compare.Ne
cmp_of LessSign = compare.Lt
cmp_of LessEqualSign = compare.Le
cmp_of GreaterSign = compare.Gt
cmp_of GreaterEqualSign = compare.Ge

-- test = e cmp e | e [NOT] BETWEEN e AND e | e [NOT] IN "(" e {"," e} ")" | e IS [NOT] NULL
pub data TestRule (E : Type 0) : Type 0 where
  Comparison : E → CmpRule → E → TestRule E
  BetweenTest : E → Bool → E → E → TestRule E
  InTest : E → Bool → E × List E → TestRule E
  NullTest : E → Bool → TestRule E

mutual
  -- cond = conj {OR conj}
  pub data CondRule (E : Type 0) : Type 0 where
    Disjunction : ConjRule E → ConjsRule E → CondRule E

  pub data ConjsRule (E : Type 0) : Type 0 where
    NoConj : ConjsRule E
    MoreConjs : ConjRule E → ConjsRule E → ConjsRule E

  -- conj = unit {AND unit}
  pub data ConjRule (E : Type 0) : Type 0 where
    Conjunction : UnitRule E → UnitsRule E → ConjRule E

  pub data UnitsRule (E : Type 0) : Type 0 where
    NoUnit : UnitsRule E
    MoreUnits : UnitRule E → UnitsRule E → UnitsRule E

  -- unit = NOT unit | "(" cond ")" | test
  pub data UnitRule (E : Type 0) : Type 0 where
    NotUnit : UnitRule E → UnitRule E
    CondUnit : CondRule E → UnitRule E
    TestUnit : TestRule E → UnitRule E

-- [NOT] before a word
abbrev pub write_not : Bool → List Token → List Token
write_not true rest = Key word.Not ∷ rest
write_not false rest = rest

module _ {E : Type 0} (write : E → List Token → List Token) where
  abbrev pub write_test : TestRule E → List Token → List Token
  write_test (Comparison left cmp right) rest = write left (write_cmp cmp ∷ write right rest)
  write_test (BetweenTest of denied low high) rest = write of (write_not denied (Key word.Between ∷ write low (Key word.And ∷ write high rest)))
  write_test (InTest of denied members) rest = write of (write_not denied (Key word.In ∷ write_enclosed write members rest))
  write_test (NullTest of denied) rest = write of (Key word.Is ∷ write_not denied (Key word.Null ∷ rest))

  abbrev mutual
    pub write_cond : CondRule E → List Token → List Token
    write_cond (Disjunction conj conjs) rest = write_conj conj (write_conjs conjs rest)

    pub write_conjs : ConjsRule E → List Token → List Token
    write_conjs NoConj rest = rest
    write_conjs (MoreConjs conj conjs) rest = Key word.Or ∷ write_conj conj (write_conjs conjs rest)

    pub write_conj : ConjRule E → List Token → List Token
    write_conj (Conjunction unit units) rest = write_unit unit (write_units units rest)

    pub write_units : UnitsRule E → List Token → List Token
    write_units NoUnit rest = rest
    write_units (MoreUnits unit units) rest = Key word.And ∷ write_unit unit (write_units units rest)

    pub write_unit : UnitRule E → List Token → List Token
    write_unit (NotUnit unit) rest = Key word.Not ∷ write_unit unit rest
    write_unit (CondUnit cond) rest = sign symbol.Open ∷ write_cond cond (sign symbol.Close ∷ rest)
    write_unit (TestUnit test) rest = write_test test rest

-- the condition, or its negation where it is denied
abbrev pub denied_if : Bool → CondTree → CondTree
denied_if denied cond = if denied then Negation cond else cond

-- x IN (a, b, c) is (x = a OR x = b) OR x = c
abbrev pub members_of : CondTree → ExprTree → List ExprTree → CondTree
members_of so_far of [] = so_far
members_of so_far of (member ∷ members) = members_of (Either so_far (Compare compare.Eq of member)) of members

module _ {E : Type 0} (tree : E → ExprTree) where
  abbrev pub test_of : TestRule E → CondTree
  test_of (Comparison left cmp right) = Compare (cmp_of cmp) (tree left) (tree right)
  test_of (BetweenTest of denied low high) = denied_if denied (Within (tree of) (tree low) (tree high))
  test_of (InTest of denied members) = denied_if denied (members_of (Compare compare.Eq (tree of) (tree members.0)) (tree of) (map tree members.1))
  test_of (NullTest of denied) = denied_if denied (IsNull (tree of))

  -- repeated operators group to the left
  abbrev mutual
    pub cond_of : CondRule E → CondTree
    cond_of (Disjunction conj conjs) = conjs_of (conj_of conj) conjs

    pub conjs_of : CondTree → ConjsRule E → CondTree
    conjs_of left NoConj = left
    conjs_of left (MoreConjs conj conjs) = conjs_of (Either left (conj_of conj)) conjs

    pub conj_of : ConjRule E → CondTree
    conj_of (Conjunction unit units) = units_of (unit_of unit) units

    pub units_of : CondTree → UnitsRule E → CondTree
    units_of left NoUnit = left
    units_of left (MoreUnits unit units) = units_of (Both left (unit_of unit)) units

    pub unit_of : UnitRule E → CondTree
    unit_of (NotUnit unit) = Negation (unit_of unit)
    unit_of (CondUnit cond) = cond_of cond
    unit_of (TestUnit test) = test_of test

-- the conditions of WHERE, ON, DELETE and UPDATE, and those of HAVING
abbrev pub WhereRule : Type 0
WhereRule = CondRule ExprRule

abbrev pub write_where : WhereRule → List Token → List Token
write_where = write_cond write_expr

abbrev pub where_of : WhereRule → CondTree
where_of = cond_of expr_of

abbrev pub HavingRule : Type 0
HavingRule = CondRule ValueRule
