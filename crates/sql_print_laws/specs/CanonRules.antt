-- The derivation by which a statement's canonical text is read: of all that derive it, the one whose
-- tokens the canonical text has.
use Rattle.std.specs.Prelude.{ℕ, suc, ◌==◌, List, [], ◌∷◌, map, Bool, true, false, if◌then◌else◌, Option, Some, None, pos, negsuc, decimal}
use Rattle.std.specs.List.{AllByRecursion}
use Rattle.cell_core.specs.declared.cell.Cell.{Cell}
use Rattle.cell_core.specs.declared.cell.Cell.TheVariants as cell
use Rattle.cell_core.specs.declared.cell.Kind.{Kind}
use Rattle.cell_core.specs.declared.cell.Kind.TheVariants as kind
use Rattle.cell_core.specs.declared.table.Column.{Column}
use Rattle.sql_grammar.specs.Grammar.{NameRule, LiteralRule, ColumnRule, ExprRule, FactorRule, ValueRule, CmpRule, CondRule, UnitRule, WhereRule, HavingRule}
use Rattle.sql_grammar.specs.Grammar.NameRule.{BareName, QuotedName}
use Rattle.sql_grammar.specs.Grammar.LiteralRule.{PlainDigits, MinusDigits, StringLiteral, DateLiteral, NullLiteral}
use Rattle.sql_grammar.specs.Grammar.ColumnRule.{PlainColumn, TableColumn}
use Rattle.sql_grammar.specs.Grammar.ExprRule.{Sum}
use Rattle.sql_grammar.specs.Grammar.TermsRule.{NoTerm, MoreTerms}
use Rattle.sql_grammar.specs.Grammar.TermRule.{Product}
use Rattle.sql_grammar.specs.Grammar.FactorsRule.{NoFactor, MoreFactors}
use Rattle.sql_grammar.specs.Grammar.FactorRule.{Number, Operand}
use Rattle.sql_grammar.specs.Grammar.OperandRule.{NegativeNumber, StringOperand, DateOperand, NullOperand, ColumnOperand, Parenthesised}
use Rattle.sql_grammar.specs.Grammar.SignRule.{PlusSign, MinusSign}
use Rattle.sql_grammar.specs.Grammar.AggRule.{CountAll, AggregateOf}
use Rattle.sql_grammar.specs.Grammar.ValueRule.{ExprValue, AggValue}
use Rattle.sql_grammar.specs.Grammar.CmpRule.{EqualSign, NotEqualSign, LessSign, LessEqualSign, GreaterSign, GreaterEqualSign}
use Rattle.sql_grammar.specs.Grammar.TestRule.{Comparison, BetweenTest, NullTest}
use Rattle.sql_grammar.specs.Grammar.CondRule.{Disjunction}
use Rattle.sql_grammar.specs.Grammar.ConjsRule.{NoConj, MoreConjs}
use Rattle.sql_grammar.specs.Grammar.ConjRule.{Conjunction}
use Rattle.sql_grammar.specs.Grammar.UnitsRule.{NoUnit, MoreUnits}
use Rattle.sql_grammar.specs.Grammar.UnitRule.{NotUnit, CondUnit, TestUnit}
use Rattle.sql_grammar.specs.Statements.{AliasRule, ItemsRule, JoinRule, PlaceRule, OrderRule, FromRule, QueryRule, TypeRule, ColumnEnd, ColdefRule, StmtRule}
use Rattle.sql_grammar.specs.Statements.AliasRule.{NoAlias, AsAlias}
use Rattle.sql_grammar.specs.Statements.ItemsRule.{AllColumns, SomeItems}
use Rattle.sql_grammar.specs.Statements.JoinRule.{CommaSource}
use Rattle.sql_grammar.specs.Statements.PlaceRule.{PositionKey, ColumnKey}
use Rattle.sql_grammar.specs.Statements.OrderRule.{NoOrder, DescOrder}
use Rattle.sql_grammar.specs.Statements.TypeRule.{IntType, TextType, DateType, VarcharType}
use Rattle.sql_grammar.specs.Statements.ColumnEnd.{PlainEnd, NotNullEnd, DefaultEnd, NotNullDefault}
use Rattle.sql_grammar.specs.Statements.StmtRule.{CreateRule, DropRule, AlterRule, InsertRule, DeleteRule, UpdateRule, SelectRule, ExplainRule}
use Rattle.sql_grammar.specs.Written.{IsLiteral}
use Rattle.sql_tree.specs.Names.{is_bare_name}
use Rattle.sql_tree.specs.Tree.{ExprTree, CondTree, ItemTree, QueryTree, StmtTree}
use Rattle.sql_tree.specs.Tree.ExprTree.{Literal, ColumnOf, Operator, AggregateAll, Aggregate}
use Rattle.sql_tree.specs.Tree.CondTree.{Compare, Within, IsNull, Negation, Both, Either}
use Rattle.sql_tree.specs.Tree.StmtTree.{CreateTable, DropTable, AlterTable, InsertInto, DeleteFrom, UpdateTable, Select, ExplainSelect}
use Rattle.sql_tree.specs.declared.tree.ArithOp.{ArithOp}
use Rattle.sql_tree.specs.declared.tree.ArithOp.TheVariants as arith
use Rattle.sql_tree.specs.declared.tree.CmpOp.{CmpOp}
use Rattle.sql_tree.specs.declared.tree.CmpOp.TheVariants as compare
use Rattle.sql_tree.specs.declared.tree.ColRef.{ColRef}
use Rattle.sql_tree.specs.declared.tree.FromItem.{FromItem}
use Rattle.sql_tree.specs.declared.tree.Place.{Place}
use Rattle.sql_tree.specs.declared.tree.Place.TheVariants.{Position, Named}
use Rattle.sql_tree.specs.declared.tree.SortKey.{SortKey}
use Rattle.sql_print_laws.specs.Printable.{EachOfSome, IfThere, IsName, IsReference, IsPrintableExpr, IsPrintableValue, IsPrintableCond, IsPrintableItem, IsPrintableSource, IsPrintableKey, IsPrintableQuery, IsPrintableColumn, IsPrintableSet, IsPrintable}

-- ## Lists and optional parts

module _ {X R : Type 0} (P : X → Type 0) (canon : (x : X) → P x → R) where
  -- the rule of each
  abbrev pub canon_all : (xs : List X) → AllByRecursion P xs → List R
  canon_all [] each = []
  canon_all (x ∷ xs) each = canon x each.0 ∷ canon_all xs each.1

  -- the rules of one element or more
  abbrev pub canon_some : (xs : List X) → EachOfSome P xs → R × List R
  canon_some [] each = absurd each
  canon_some (x ∷ xs) each = (canon x each.0, canon_all xs each.1)

  -- the rules of a list that is left out where it has no element
  abbrev pub canon_any : (xs : List X) → AllByRecursion P xs → Option (R × List R)
  canon_any [] each = None
  canon_any (x ∷ xs) each = Some (canon x each.0, canon_all xs each.1)

  -- the rule of an optional part
  abbrev pub canon_option : (o : Option X) → IfThere P o → Option R
  canon_option None is = None
  canon_option (Some x) is = Some (canon x is)

-- ## Names and literals

-- a name that needs quotes is put in quotes
abbrev pub canon_name : List ℕ → NameRule
canon_name name = if is_bare_name name then BareName name else QuotedName name

-- a literal: a number below 0 has a `-` before its digits, and a day its date
abbrev pub canon_literal : (literal : Cell) → IsLiteral literal → LiteralRule
canon_literal (cell.Int (pos n)) is = PlainDigits (decimal n)
canon_literal (cell.Int (negsuc n)) is = MinusDigits (decimal (suc n))
canon_literal (cell.Text text) is = StringLiteral text
canon_literal (cell.Day day) is = DateLiteral is.0 is.1
canon_literal cell.Nil is = NullLiteral
canon_literal (cell.Huge n) is = absurd is
canon_literal (cell.Bit b) is = absurd is
canon_literal (cell.Oid n) is = absurd is

-- a column, by its table where it has one
abbrev pub column_rule : Option (List ℕ) → List ℕ → ColumnRule
column_rule None column = PlainColumn (canon_name column)
column_rule (Some table) column = TableColumn (canon_name table) (canon_name column)

-- a column
abbrev pub canon_reference : ColRef → ColumnRule
canon_reference reference = column_rule reference.table reference.column

-- ## Expressions

-- a literal as an operand
abbrev pub factor_rule : LiteralRule → FactorRule
factor_rule (PlainDigits digits) = Number digits
factor_rule (MinusDigits digits) = Operand (NegativeNumber digits)
factor_rule (StringLiteral text) = Operand (StringOperand text)
factor_rule (DateLiteral text is) = Operand (DateOperand text is)
factor_rule NullLiteral = Operand NullOperand

-- an operator between two operands
abbrev pub operator_rule : ArithOp → FactorRule → FactorRule → ExprRule
operator_rule arith.Plus left right = Sum (Product left NoFactor) (MoreTerms PlusSign (Product right NoFactor) NoTerm)
operator_rule arith.Minus left right = Sum (Product left NoFactor) (MoreTerms MinusSign (Product right NoFactor) NoTerm)
operator_rule arith.Times left right = Sum (Product left (MoreFactors right NoFactor)) NoTerm

-- an operand: an operator is put in parentheses
abbrev pub canon_factor : (e : ExprTree) → IsPrintableExpr e → FactorRule
canon_factor (Literal literal) is = factor_rule (canon_literal literal is)
canon_factor (ColumnOf column) is = Operand (ColumnOperand (canon_reference column))
canon_factor (Operator op left right) is = Operand (Parenthesised (operator_rule op (canon_factor left is.0) (canon_factor right is.1)))
canon_factor (AggregateAll f) is = absurd is
canon_factor (Aggregate f of) is = absurd is

-- an expression of one operand
abbrev pub single : FactorRule → ExprRule
single factor = Sum (Product factor NoFactor) NoTerm

-- an expression that is an operand
abbrev pub canon_operand : (e : ExprTree) → IsPrintableExpr e → ExprRule
canon_operand e is = single (canon_factor e is)

-- an expression
abbrev pub canon_expr : (e : ExprTree) → IsPrintableExpr e → ExprRule
canon_expr (Literal literal) is = single (factor_rule (canon_literal literal is))
canon_expr (ColumnOf column) is = single (Operand (ColumnOperand (canon_reference column)))
canon_expr (Operator op left right) is = operator_rule op (canon_factor left is.0) (canon_factor right is.1)
canon_expr (AggregateAll f) is = absurd is
canon_expr (Aggregate f of) is = absurd is

-- an expression or an aggregate
abbrev pub canon_value : (e : ExprTree) → IsPrintableValue e → ValueRule
canon_value (Literal literal) is = ExprValue (canon_expr (Literal literal) is)
canon_value (ColumnOf column) is = ExprValue (canon_expr (ColumnOf column) is)
canon_value (Operator op left right) is = ExprValue (canon_expr (Operator op left right) is)
canon_value (AggregateAll f) is = AggValue CountAll
canon_value (Aggregate f of) is = AggValue (AggregateOf f (canon_expr of is))

-- the same as an operand
abbrev pub canon_value_operand : (e : ExprTree) → IsPrintableValue e → ValueRule
canon_value_operand (Literal literal) is = ExprValue (canon_operand (Literal literal) is)
canon_value_operand (ColumnOf column) is = ExprValue (canon_operand (ColumnOf column) is)
canon_value_operand (Operator op left right) is = ExprValue (canon_operand (Operator op left right) is)
canon_value_operand (AggregateAll f) is = AggValue CountAll
canon_value_operand (Aggregate f of) is = AggValue (AggregateOf f (canon_expr of is))

-- ## Conditions

-- a comparison; `<>` stands for both signs of inequality
abbrev pub canon_cmp : CmpOp → CmpRule
canon_cmp compare.Eq = EqualSign
canon_cmp compare.Ne = NotEqualSign
canon_cmp compare.Lt = LessSign
canon_cmp compare.Le = LessEqualSign
canon_cmp compare.Gt = GreaterSign
canon_cmp compare.Ge = GreaterEqualSign

-- a condition of one unit
abbrev pub unit_rule : {E : Type 0} → UnitRule E → CondRule E
unit_rule unit = Disjunction (Conjunction unit NoUnit) NoConj

-- two units joined by AND
abbrev pub both_rule : {E : Type 0} → UnitRule E → UnitRule E → CondRule E
both_rule left right = Disjunction (Conjunction left (MoreUnits right NoUnit)) NoConj

-- two units joined by OR
abbrev pub either_rule : {E : Type 0} → UnitRule E → UnitRule E → CondRule E
either_rule left right = Disjunction (Conjunction left NoUnit) (MoreConjs (Conjunction right NoUnit) NoConj)

module _ {E : Type 0} (P : ExprTree → Type 0) (canon : (e : ExprTree) → P e → E) where
  -- a comparison of two operands
  abbrev pub compared_unit : (op : CmpOp) (left right : ExprTree) → P left × P right → UnitRule E
  compared_unit op left right is = TestUnit (Comparison (canon left is.0) (canon_cmp op) (canon right is.1))

  -- a BETWEEN
  abbrev pub within_unit : (of low high : ExprTree) → P of × P low × P high → UnitRule E
  within_unit of low high is = TestUnit (BetweenTest (canon of is.0) false (canon low is.1) (canon high is.2))

  -- an IS NULL
  abbrev pub null_unit : (of : ExprTree) → P of → UnitRule E
  null_unit of is = TestUnit (NullTest (canon of is) false)

  abbrev mutual
    pub canon_cond : (c : CondTree) → IsPrintableCond P c → CondRule E
    canon_cond (Compare op left right) is = unit_rule (compared_unit op left right is)
    canon_cond (Within of low high) is = unit_rule (within_unit of low high is)
    canon_cond (IsNull of) is = unit_rule (null_unit of is)
    canon_cond (Negation c) is = unit_rule (NotUnit (canon_part c is))
    canon_cond (Both left right) is = both_rule (canon_part left is.0) (canon_part right is.1)
    canon_cond (Either left right) is = either_rule (CondUnit (canon_cond left is.0)) (CondUnit (canon_cond right is.1))

    -- an operand of AND or of NOT, where only a test is bare
    pub canon_part : (c : CondTree) → IsPrintableCond P c → UnitRule E
    canon_part (Compare op left right) is = compared_unit op left right is
    canon_part (Within of low high) is = within_unit of low high is
    canon_part (IsNull of) is = null_unit of is
    canon_part (Negation c) is = CondUnit (unit_rule (NotUnit (canon_part c is)))
    canon_part (Both left right) is = CondUnit (both_rule (canon_part left is.0) (canon_part right is.1))
    canon_part (Either left right) is = CondUnit (either_rule (CondUnit (canon_cond left is.0)) (CondUnit (canon_cond right is.1)))

-- a condition of WHERE
abbrev pub canon_where : (c : CondTree) → IsPrintableCond IsPrintableExpr c → WhereRule
canon_where = canon_cond IsPrintableExpr canon_operand

-- a condition of HAVING
abbrev pub canon_having : (c : CondTree) → IsPrintableCond IsPrintableValue c → HavingRule
canon_having = canon_cond IsPrintableValue canon_value_operand

-- ## Queries

-- an alias comes after AS
abbrev pub canon_alias : Option (List ℕ) → AliasRule
canon_alias None = NoAlias
canon_alias (Some alias) = AsAlias (canon_name alias)

-- an item of a query
abbrev pub canon_item : (item : ItemTree) → IsPrintableItem item → ValueRule × AliasRule
canon_item item is = (canon_value item.expr is.0, canon_alias item.alias)

-- the items of a query; `*` where there are none
abbrev pub canon_items : (items : List ItemTree) → AllByRecursion IsPrintableItem items → ItemsRule
canon_items [] each = AllColumns
canon_items (item ∷ items) each = SomeItems (canon_item item each.0, canon_all IsPrintableItem canon_item items each.1)

-- a table, and its alias
abbrev pub canon_source : FromItem → NameRule × AliasRule
canon_source source = (canon_name source.table, canon_alias source.alias)

-- a table after the first one
abbrev pub canon_join : FromItem → JoinRule
canon_join source = CommaSource (canon_source source)

-- a column of GROUP BY
abbrev pub canon_column_of : (column : ColRef) → IsReference column → ColumnRule
canon_column_of column is = canon_reference column

-- a position, or a column
abbrev pub canon_place : Place → PlaceRule
canon_place (Position n) = PositionKey (decimal n)
canon_place (Named column) = ColumnKey (canon_reference column)

-- a rising order is left out
abbrev pub canon_order : Bool → OrderRule
canon_order true = NoOrder
canon_order false = DescOrder

-- a key of ORDER BY
abbrev pub canon_key : (key : SortKey) → IsPrintableKey key → PlaceRule × OrderRule
canon_key key is = (canon_place key.at, canon_order key.ascending)

-- the digits of a LIMIT
abbrev pub canon_limit : Option ℕ → Option (List ℕ)
canon_limit None = None
canon_limit (Some n) = Some (decimal n)

-- the first table, and the others
abbrev pub canon_sources : (froms : List FromItem) → EachOfSome IsPrintableSource froms → (NameRule × AliasRule) × List JoinRule
canon_sources [] each = absurd each
canon_sources (from ∷ froms) each = (canon_source from, map canon_join froms)

-- FROM, and what follows it; the conditions of ON are in WHERE
abbrev pub canon_from : (query : QueryTree) → IsPrintableQuery query → FromRule
canon_from query is = record {
  source = (canon_sources query.froms is.froms_are).0;
  joins = (canon_sources query.froms is.froms_are).1;
  cond = canon_option (IsPrintableCond IsPrintableExpr) canon_where query.cond is.cond_is;
  groups = canon_any IsReference canon_column_of query.groups is.groups_are;
  having = canon_option (IsPrintableCond IsPrintableValue) canon_having query.having is.having_is;
  keys = canon_any IsPrintableKey canon_key query.keys is.keys_are;
  limit = canon_limit query.limit;
}

-- a query
abbrev pub canon_query : (query : QueryTree) → IsPrintableQuery query → QueryRule
canon_query query is = record { distinct = query.distinct; items = canon_items query.items is.items_are; from = Some (canon_from query is) }

-- ## Statements

-- the type of a column; kinds that CREATE doesn't make have none, and are written as INT
abbrev pub canon_type : Kind → ℕ → TypeRule
canon_type kind.Text width = if width == 0 then TextType else VarcharType (decimal width)
canon_type kind.Day width = DateType
canon_type other width = IntType

-- what follows the type of a column: a default that is Nil is left out, any other comes after NOT NULL
abbrev pub canon_end : Bool → (default : Cell) → IsLiteral default → ColumnEnd
canon_end true cell.Nil is = NotNullEnd
canon_end false cell.Nil is = PlainEnd
canon_end true default is = NotNullDefault (canon_literal default is)
canon_end false default is = DefaultEnd (canon_literal default is)

-- a column of CREATE or ALTER
abbrev pub canon_coldef : (column : Column) → IsPrintableColumn column → ColdefRule
canon_coldef column is = record { name = canon_name column.name; kind = canon_type column.kind column.width; end = canon_end column.not_null column.default is.2 }

-- a column of the list of an INSERT
abbrev pub canon_listed_name : (name : List ℕ) → IsName name → NameRule
canon_listed_name name is = canon_name name

-- a row of VALUES
abbrev pub canon_row : (row : List Cell) → EachOfSome IsLiteral row → LiteralRule × List LiteralRule
canon_row = canon_some IsLiteral canon_literal

-- a column of UPDATE and its new value
abbrev pub canon_set : (set : List ℕ × ExprTree) → IsPrintableSet set → NameRule × ExprRule
canon_set set is = (canon_name set.0, canon_expr set.1 is.1)

-- the derivation of a statement whose tokens its canonical text has
abbrev pub canon_stmt : (s : StmtTree) → IsPrintable s → StmtRule
canon_stmt (CreateTable table columns) is = CreateRule (canon_name table) (canon_some IsPrintableColumn canon_coldef columns is.1)
canon_stmt (DropTable table) is = DropRule (canon_name table)
canon_stmt (AlterTable table column) is = AlterRule (canon_name table) true (canon_coldef column is.1)
canon_stmt (InsertInto table columns rows) is = InsertRule (canon_name table) (canon_any IsName canon_listed_name columns is.1) (canon_some (EachOfSome IsLiteral) canon_row rows is.2)
canon_stmt (DeleteFrom table cond) is = DeleteRule (canon_name table) (canon_option (IsPrintableCond IsPrintableExpr) canon_where cond is.1)
canon_stmt (UpdateTable table sets cond) is = UpdateRule (canon_name table) (canon_some IsPrintableSet canon_set sets is.1) (canon_option (IsPrintableCond IsPrintableExpr) canon_where cond is.2)
canon_stmt (Select query) is = SelectRule (canon_query query is)
canon_stmt (ExplainSelect query) is = ExplainRule (canon_query query is)
