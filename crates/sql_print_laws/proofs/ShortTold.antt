-- Of tokens without long names, the names in what they derive are not long.
use Rattle.std.proofs.Common.{◌≡◌, ℕ, List, [], ◌∷◌, ◌++◌, length, map, Bool, true, false, Option, Some, None, option_map}
use Rattle.std.specs.Prelude.{nat_lt}
use Rattle.std.specs.List.{AllByRecursion}
use Rattle.cell_core.specs.declared.table.Column.{Column}
use Rattle.sql_grammar.specs.Grammar.{sign, all_of, any_of, write_more, write_some, write_enclosed, write_behind, NameRule, write_name, name_of, LiteralRule, write_literal, write_column, column_of, ExprRule, TermsRule, TermRule, FactorsRule, FactorRule, OperandRule, write_expr, write_terms, write_term, write_factors, write_factor, write_operand, sign_op, expr_of, terms_of, term_of, factors_of, factor_of, operand_of, write_value, value_of, write_cmp, TestRule, CondRule, ConjsRule, ConjRule, UnitsRule, UnitRule, write_test, write_cond, write_conjs, write_conj, write_units, write_unit, members_of, test_of, cond_of, conjs_of, conj_of, units_of, unit_of, WhereRule, write_where, where_of}
use Rattle.sql_grammar.specs.Grammar.NameRule.{BareName, QuotedName}
use Rattle.sql_grammar.specs.Grammar.LiteralRule.{PlainDigits, MinusDigits, StringLiteral, DateLiteral, NullLiteral}
use Rattle.sql_grammar.specs.Grammar.ColumnRule.{PlainColumn, TableColumn}
use Rattle.sql_grammar.specs.Grammar.ExprRule.{Sum}
use Rattle.sql_grammar.specs.Grammar.TermsRule.{NoTerm, MoreTerms}
use Rattle.sql_grammar.specs.Grammar.TermRule.{Product}
use Rattle.sql_grammar.specs.Grammar.FactorsRule.{NoFactor, MoreFactors}
use Rattle.sql_grammar.specs.Grammar.FactorRule.{Number, Operand}
use Rattle.sql_grammar.specs.Grammar.OperandRule.{NegativeNumber, StringOperand, DateOperand, NullOperand, ColumnOperand, Negated, Parenthesised}
use Rattle.sql_grammar.specs.Grammar.AggRule.{CountAll, AggregateOf}
use Rattle.sql_grammar.specs.Grammar.ValueRule.{ExprValue, AggValue}
use Rattle.sql_grammar.specs.Grammar.TestRule.{Comparison, BetweenTest, InTest, NullTest}
use Rattle.sql_grammar.specs.Grammar.CondRule.{Disjunction}
use Rattle.sql_grammar.specs.Grammar.ConjsRule.{NoConj, MoreConjs}
use Rattle.sql_grammar.specs.Grammar.ConjRule.{Conjunction}
use Rattle.sql_grammar.specs.Grammar.UnitsRule.{NoUnit, MoreUnits}
use Rattle.sql_grammar.specs.Grammar.UnitRule.{NotUnit, CondUnit, TestUnit}
use Rattle.sql_grammar.specs.Refused.{is_long_name}
use Rattle.sql_grammar.specs.Statements.{write_alias, alias_of, write_item, item_of, ItemsRule, write_items, items_of, write_source, source_of, JoinRule, write_joins, joined_source, and_also, on_conds, with_where, OrderRule, write_order, write_key, key_of, FromRule, write_digits, write_from, write_distinct, write_optional_from, query_from, QueryRule, write_query, query_of, TypeRule, write_type, ColumnEnd, write_not_null, write_end, write_coldef, coldef_of, write_column_word, write_set, set_of, write_column_list, write_row, StmtRule, write_stmt, stmt_of}
use Rattle.sql_grammar.specs.Statements.AliasRule.{NoAlias, BareAlias, AsAlias}
use Rattle.sql_grammar.specs.Statements.ItemsRule.{AllColumns, SomeItems}
use Rattle.sql_grammar.specs.Statements.JoinRule.{CommaSource, JoinOn}
use Rattle.sql_grammar.specs.Statements.PlaceRule.{PositionKey, ColumnKey}
use Rattle.sql_grammar.specs.Statements.OrderRule.{NoOrder, AscOrder, DescOrder}
use Rattle.sql_grammar.specs.Statements.TypeRule.{IntType, IntegerType, BigintType, TextType, DateType, VarcharType}
use Rattle.sql_grammar.specs.Statements.ColumnEnd.{PlainEnd, NotNullEnd, DefaultEnd, NotNullDefault, DefaultNotNull}
use Rattle.sql_grammar.specs.Statements.StmtRule.{CreateRule, DropRule, AlterRule, InsertRule, DeleteRule, UpdateRule, SelectRule, ExplainRule}
use Rattle.sql_print_laws.specs.Printable.{IfThere}
use Rattle.sql_tree.specs.Tree.{ExprTree, CondTree, ItemTree, QueryTree, StmtTree}
use Rattle.sql_tree.specs.Tree.ExprTree.{Literal, ColumnOf, Operator, AggregateAll, Aggregate}
use Rattle.sql_tree.specs.Tree.CondTree.{Compare, Within, IsNull, Negation, Both, Either}
use Rattle.sql_tree.specs.Tree.StmtTree.{CreateTable, DropTable, AlterTable, InsertInto, DeleteFrom, UpdateTable, Select, ExplainSelect}
use Rattle.sql_tree.specs.declared.token.Keyword.{Keyword}
use Rattle.sql_tree.specs.declared.token.Keyword.TheVariants as word
use Rattle.sql_tree.specs.declared.token.Symbol.TheVariants as symbol
use Rattle.sql_tree.specs.declared.token.Token.{Token}
use Rattle.sql_tree.specs.declared.token.Token.TheVariants.{Key}
use Rattle.sql_tree.specs.declared.tree.ArithOp.TheVariants as arithmetic
use Rattle.sql_tree.specs.declared.tree.CmpOp.TheVariants as compare
use Rattle.sql_tree.specs.declared.tree.ColRef.{ColRef}
use Rattle.sql_tree.specs.declared.tree.FromItem.{FromItem}
use Rattle.sql_tree.specs.declared.tree.Place.{Place}
use Rattle.sql_tree.specs.declared.tree.Place.TheVariants.{Position, Named}
use Rattle.sql_tree.specs.declared.tree.SortKey.{SortKey}

-- ## Names that are not long

abbrev pub IsShort : List ℕ → Type 0
IsShort name = nat_lt 64 (length name) ≡ false

abbrev pub IsShortToken : Token → Type 0
IsShortToken t = is_long_name t ≡ false

abbrev pub ShortTokens : List Token → Type 0
ShortTokens ts = AllByRecursion IsShortToken ts

abbrev pub ShortReference : ColRef → Type 0
ShortReference reference = IfThere IsShort reference.table × IsShort reference.column

abbrev pub ShortExpr : ExprTree → Type 0
ShortExpr (Literal literal) = Unit {0}
ShortExpr (ColumnOf column) = ShortReference column
ShortExpr (Operator op left right) = ShortExpr left × ShortExpr right
ShortExpr (AggregateAll f) = Unit {0}
ShortExpr (Aggregate f of) = ShortExpr of

abbrev pub ShortCond : CondTree → Type 0
ShortCond (Compare op left right) = ShortExpr left × ShortExpr right
ShortCond (Within of low high) = ShortExpr of × ShortExpr low × ShortExpr high
ShortCond (IsNull of) = ShortExpr of
ShortCond (Negation c) = ShortCond c
ShortCond (Both left right) = ShortCond left × ShortCond right
ShortCond (Either left right) = ShortCond left × ShortCond right

abbrev pub ShortItem : ItemTree → Type 0
ShortItem item = ShortExpr item.expr × IfThere IsShort item.alias

abbrev pub ShortSource : FromItem → Type 0
ShortSource source = IsShort source.table × IfThere IsShort source.alias

abbrev pub ShortPlace : Place → Type 0
ShortPlace (Position n) = Unit {0}
ShortPlace (Named column) = ShortReference column

abbrev pub ShortKey : SortKey → Type 0
ShortKey key = ShortPlace key.at

pub record ShortQuery (query : QueryTree) : Type 0 where
  pub items_are : AllByRecursion ShortItem query.items
  pub froms_are : AllByRecursion ShortSource query.froms
  pub cond_is : IfThere ShortCond query.cond
  pub groups_are : AllByRecursion ShortReference query.groups
  pub having_is : IfThere ShortCond query.having
  pub keys_are : AllByRecursion ShortKey query.keys

abbrev pub ShortColumn : Column → Type 0
ShortColumn column = IsShort column.name

abbrev pub ShortSet : List ℕ × ExprTree → Type 0
ShortSet set = IsShort set.0 × ShortExpr set.1

abbrev pub ShortStmt : StmtTree → Type 0
ShortStmt (CreateTable table columns) = IsShort table × AllByRecursion ShortColumn columns
ShortStmt (DropTable table) = IsShort table
ShortStmt (AlterTable table column) = IsShort table × ShortColumn column
ShortStmt (InsertInto table columns rows) = IsShort table × AllByRecursion IsShort columns
ShortStmt (DeleteFrom table c) = IsShort table × IfThere ShortCond c
ShortStmt (UpdateTable table sets c) = IsShort table × AllByRecursion ShortSet sets × IfThere ShortCond c
ShortStmt (Select query) = ShortQuery query
ShortStmt (ExplainSelect query) = ShortQuery query

-- ## Rules and lists

-- what a rule stands for where its tokens have no long name
abbrev IsShortTold : {R X : Type 0} → (R → List Token → List Token) → (R → X) → (X → Type 0) → Type 0
IsShortTold {R} write meaning P = (r : R) (rest : List Token) → ShortTokens (write r rest) → P (meaning r) × ShortTokens rest

after_words : (words : List Keyword) (ts : List Token) → ShortTokens (map Key words ++ ts) → ShortTokens ts
after_words [] ts h = h
after_words (word ∷ words) ts h = after_words words ts h.1

module _ {R X : Type 0} (write : R → List Token → List Token) (meaning : R → X) (P : X → Type 0) (told : IsShortTold write meaning P) where
  more_told : (rs : List R) (rest : List Token) → ShortTokens (write_more write rs rest) → AllByRecursion P (map meaning rs) × ShortTokens rest
  more_told [] rest h = (tt, h)
  more_told (r ∷ rs) rest h =
      let x = told r (write_more write rs rest) h.1 in
      let xs = more_told rs rest x.1 in
      ((x.0, xs.0), xs.1)

  some_told : (rs : R × List R) (rest : List Token) → ShortTokens (write_some write rs rest) → AllByRecursion P (map meaning (all_of rs)) × ShortTokens rest
  some_told rs rest h =
      let x = told rs.0 (write_more write rs.1 rest) h in
      let xs = more_told rs.1 rest x.1 in
      ((x.0, xs.0), xs.1)

  any_told : (words : List Keyword) (rs : Option (R × List R)) (rest : List Token) → ShortTokens (write_behind (write_some write) words rs rest) → AllByRecursion P (map meaning (any_of rs)) × ShortTokens rest
  any_told words None rest h = (tt, h)
  any_told words (Some rs) rest h = some_told rs rest (after_words words (write_some write rs rest) h)

  option_told : (words : List Keyword) (o : Option R) (rest : List Token) → ShortTokens (write_behind write words o rest) → IfThere P (option_map meaning o) × ShortTokens rest
  option_told words None rest h = (tt, h)
  option_told words (Some r) rest h = told r rest (after_words words (write r rest) h)

-- ## Names, columns and expressions

name_told : IsShortTold write_name name_of IsShort
name_told (BareName name) rest h = h
name_told (QuotedName name) rest h = h

column_told : IsShortTold write_column column_of ShortReference
column_told (PlainColumn column) rest h = let x = name_told column rest h in ((tt, x.0), x.1)
column_told (TableColumn table column) rest h =
    let x = name_told table _ h in
    let y = name_told column rest x.1.1 in
    ((x.0, y.0), y.1)

mutual
  expr_told : (r : ExprRule) (rest : List Token) → ShortTokens (write_expr r rest) → ShortExpr (expr_of r) × ShortTokens rest
  expr_told (Sum term terms) rest h = let x = term_told term (write_terms terms rest) h in terms_told terms (term_of term) rest x.0 x.1

  terms_told : (r : TermsRule) (left : ExprTree) (rest : List Token) → ShortExpr left → ShortTokens (write_terms r rest) → ShortExpr (terms_of left r) × ShortTokens rest
  terms_told NoTerm left rest x h = (x, h)
  terms_told (MoreTerms s term terms) left rest x h =
      let y = term_told term (write_terms terms rest) h.1 in
      terms_told terms (Operator (sign_op s) left (term_of term)) rest (x, y.0) y.1

  term_told : (r : TermRule) (rest : List Token) → ShortTokens (write_term r rest) → ShortExpr (term_of r) × ShortTokens rest
  term_told (Product factor factors) rest h = let x = factor_told factor (write_factors factors rest) h in factors_told factors (factor_of factor) rest x.0 x.1

  factors_told : (r : FactorsRule) (left : ExprTree) (rest : List Token) → ShortExpr left → ShortTokens (write_factors r rest) → ShortExpr (factors_of left r) × ShortTokens rest
  factors_told NoFactor left rest x h = (x, h)
  factors_told (MoreFactors factor factors) left rest x h =
      let y = factor_told factor (write_factors factors rest) h.1 in
      factors_told factors (Operator arithmetic.Times left (factor_of factor)) rest (x, y.0) y.1

  factor_told : (r : FactorRule) (rest : List Token) → ShortTokens (write_factor r rest) → ShortExpr (factor_of r) × ShortTokens rest
  factor_told (Number digits) rest h = (tt, h.1)
  factor_told (Operand operand) rest h = operand_told operand rest h

  operand_told : (r : OperandRule) (rest : List Token) → ShortTokens (write_operand r rest) → ShortExpr (operand_of r) × ShortTokens rest
  operand_told (NegativeNumber digits) rest h = (tt, h.1.1)
  operand_told (StringOperand text) rest h = (tt, h.1)
  operand_told (DateOperand text is) rest h = (tt, h.1.1)
  operand_told NullOperand rest h = (tt, h.1)
  operand_told (ColumnOperand column) rest h = column_told column rest h
  operand_told (Negated operand) rest h = let x = operand_told operand rest h.1 in ((tt, x.0), x.1)
  operand_told (Parenthesised e) rest h = let x = expr_told e (sign symbol.Close ∷ rest) h.1 in (x.0, x.1.1)

value_told : IsShortTold write_value value_of ShortExpr
value_told (ExprValue e) rest h = expr_told e rest h
value_told (AggValue CountAll) rest h = (tt, h.1.1.1.1)
value_told (AggValue (AggregateOf f e)) rest h = let x = expr_told e (sign symbol.Close ∷ rest) h.1.1 in (x.0, x.1.1)

-- ## Conditions

module _ {E : Type 0} (write : E → List Token → List Token) (tree : E → ExprTree) (told : IsShortTold write tree ShortExpr) where
  members_told : (members : List E) (so_far : CondTree) (of : ExprTree) (rest : List Token) → ShortCond so_far → ShortExpr of → ShortTokens (write_more write members rest) → ShortCond (members_of so_far of (map tree members)) × ShortTokens rest
  members_told [] so_far of rest x y h = (x, h)
  members_told (member ∷ members) so_far of rest x y h =
      let z = told member (write_more write members rest) h.1 in
      members_told members (Either so_far (Compare compare.Eq of (tree member))) of rest (x, (y, z.0)) y z.1

  in_told : (of : E) (members : E × List E) (rest : List Token) → ShortExpr (tree of) → ShortTokens (write members.0 (write_more write members.1 (sign symbol.Close ∷ rest))) → ShortCond (members_of (Compare compare.Eq (tree of) (tree members.0)) (tree of) (map tree members.1)) × ShortTokens rest
  in_told of members rest x h =
      let y = told members.0 (write_more write members.1 (sign symbol.Close ∷ rest)) h in
      let z = members_told members.1 (Compare compare.Eq (tree of) (tree members.0)) (tree of) (sign symbol.Close ∷ rest) (x, y.0) x y.1 in
      (z.0, z.1.1)

  test_told : (r : TestRule E) (rest : List Token) → ShortTokens (write_test write r rest) → ShortCond (test_of tree r) × ShortTokens rest
  test_told (Comparison left cmp right) rest h =
      let x = told left (write_cmp cmp ∷ write right rest) h in
      let y = told right rest x.1.1 in
      ((x.0, y.0), y.1)
  test_told (BetweenTest of true low high) rest h =
      let x = told of (Key word.Not ∷ Key word.Between ∷ write low (Key word.And ∷ write high rest)) h in
      let y = told low (Key word.And ∷ write high rest) x.1.1.1 in
      let z = told high rest y.1.1 in
      ((x.0, y.0, z.0), z.1)
  test_told (BetweenTest of false low high) rest h =
      let x = told of (Key word.Between ∷ write low (Key word.And ∷ write high rest)) h in
      let y = told low (Key word.And ∷ write high rest) x.1.1 in
      let z = told high rest y.1.1 in
      ((x.0, y.0, z.0), z.1)
  test_told (InTest of true members) rest h =
      let x = told of (Key word.Not ∷ Key word.In ∷ write_enclosed write members rest) h in
      in_told of members rest x.0 x.1.1.1.1
  test_told (InTest of false members) rest h =
      let x = told of (Key word.In ∷ write_enclosed write members rest) h in
      in_told of members rest x.0 x.1.1.1
  test_told (NullTest of true) rest h = let x = told of (Key word.Is ∷ Key word.Not ∷ Key word.Null ∷ rest) h in (x.0, x.1.1.1.1)
  test_told (NullTest of false) rest h = let x = told of (Key word.Is ∷ Key word.Null ∷ rest) h in (x.0, x.1.1.1)

  mutual
    cond_told : (r : CondRule E) (rest : List Token) → ShortTokens (write_cond write r rest) → ShortCond (cond_of tree r) × ShortTokens rest
    cond_told (Disjunction conj conjs) rest h = let x = conj_told conj (write_conjs write conjs rest) h in conjs_told conjs (conj_of tree conj) rest x.0 x.1

    conjs_told : (r : ConjsRule E) (left : CondTree) (rest : List Token) → ShortCond left → ShortTokens (write_conjs write r rest) → ShortCond (conjs_of tree left r) × ShortTokens rest
    conjs_told NoConj left rest x h = (x, h)
    conjs_told (MoreConjs conj conjs) left rest x h =
        let y = conj_told conj (write_conjs write conjs rest) h.1 in
        conjs_told conjs (Either left (conj_of tree conj)) rest (x, y.0) y.1

    conj_told : (r : ConjRule E) (rest : List Token) → ShortTokens (write_conj write r rest) → ShortCond (conj_of tree r) × ShortTokens rest
    conj_told (Conjunction unit units) rest h = let x = unit_told unit (write_units write units rest) h in units_told units (unit_of tree unit) rest x.0 x.1

    units_told : (r : UnitsRule E) (left : CondTree) (rest : List Token) → ShortCond left → ShortTokens (write_units write r rest) → ShortCond (units_of tree left r) × ShortTokens rest
    units_told NoUnit left rest x h = (x, h)
    units_told (MoreUnits unit units) left rest x h =
        let y = unit_told unit (write_units write units rest) h.1 in
        units_told units (Both left (unit_of tree unit)) rest (x, y.0) y.1

    unit_told : (r : UnitRule E) (rest : List Token) → ShortTokens (write_unit write r rest) → ShortCond (unit_of tree r) × ShortTokens rest
    unit_told (NotUnit unit) rest h = unit_told unit rest h.1
    unit_told (CondUnit cond) rest h = let x = cond_told cond (sign symbol.Close ∷ rest) h.1 in (x.0, x.1.1)
    unit_told (TestUnit test) rest h = test_told test rest h

where_told : IsShortTold write_where where_of ShortCond
where_told = cond_told write_expr expr_of expr_told

having_told : IsShortTold (write_cond write_value) (cond_of value_of) ShortCond
having_told = cond_told write_value value_of value_told

-- ## Queries

alias_told : IsShortTold write_alias alias_of (IfThere IsShort)
alias_told NoAlias rest h = (tt, h)
alias_told (BareAlias name) rest h = name_told name rest h
alias_told (AsAlias name) rest h = name_told name rest h.1

item_told : IsShortTold write_item item_of ShortItem
item_told item rest h =
    let x = value_told item.0 (write_alias item.1 rest) h in
    let y = alias_told item.1 rest x.1 in
    ((x.0, y.0), y.1)

items_told : (r : ItemsRule) (rest : List Token) → ShortTokens (write_items r rest) → AllByRecursion ShortItem (items_of r) × ShortTokens rest
items_told AllColumns rest h = (tt, h.1)
items_told (SomeItems items) rest h = some_told write_item item_of ShortItem item_told items rest h

source_told : IsShortTold write_source source_of ShortSource
source_told source rest h =
    let x = name_told source.0 (write_alias source.1 rest) h in
    let y = alias_told source.1 rest x.1 in
    ((x.0, y.0), y.1)

and_also_short : (so_far : Option CondTree) (c : CondTree) → IfThere ShortCond so_far → ShortCond c → IfThere ShortCond (and_also so_far c)
and_also_short None c x y = y
and_also_short (Some left) c x y = (x, y)

joins_told : (joins : List JoinRule) (so_far : Option CondTree) (rest : List Token) → IfThere ShortCond so_far → ShortTokens (write_joins joins rest) → AllByRecursion ShortSource (map joined_source joins) × IfThere ShortCond (on_conds so_far joins) × ShortTokens rest
joins_told [] so_far rest x h = (tt, x, h)
joins_told (CommaSource source ∷ joins) so_far rest x h =
    let y = source_told source (write_joins joins rest) h.1 in
    let more = joins_told joins so_far rest x y.1 in
    ((y.0, more.0), more.1, more.2)
joins_told (JoinOn true source on ∷ joins) so_far rest x h =
    let y = source_told source (Key word.On ∷ write_where on (write_joins joins rest)) h.1.1 in
    let z = where_told on (write_joins joins rest) y.1.1 in
    let more = joins_told joins (and_also so_far (where_of on)) rest (and_also_short so_far (where_of on) x z.0) z.1 in
    ((y.0, more.0), more.1, more.2)
joins_told (JoinOn false source on ∷ joins) so_far rest x h =
    let y = source_told source (Key word.On ∷ write_where on (write_joins joins rest)) h.1 in
    let z = where_told on (write_joins joins rest) y.1.1 in
    let more = joins_told joins (and_also so_far (where_of on)) rest (and_also_short so_far (where_of on) x z.0) z.1 in
    ((y.0, more.0), more.1, more.2)

with_where_told : (so_far : Option CondTree) (o : Option WhereRule) (rest : List Token) → IfThere ShortCond so_far → ShortTokens (write_behind write_where (word.Where ∷ []) o rest) → IfThere ShortCond (with_where so_far o) × ShortTokens rest
with_where_told so_far None rest x h = (x, h)
with_where_told so_far (Some c) rest x h = let y = where_told c rest h.1 in (and_also_short so_far (where_of c) x y.0, y.1)

order_told : (r : OrderRule) (rest : List Token) → ShortTokens (write_order r rest) → ShortTokens rest
order_told NoOrder rest h = h
order_told AscOrder rest h = h.1
order_told DescOrder rest h = h.1

key_told : IsShortTold write_key key_of ShortKey
key_told (PositionKey digits, order) rest h = (tt, order_told order rest h.1)
key_told (ColumnKey column, order) rest h = let x = column_told column (write_order order rest) h in (x.0, order_told order rest x.1)

from_told : (distinct : Bool) (items : List ItemTree) (from : FromRule) → AllByRecursion ShortItem items → ShortTokens (write_from from []) → ShortQuery (query_from distinct items (Some from))
from_told distinct items from short h =
    let last = write_behind write_digits (word.Limit ∷ []) from.limit [] in
    let keys = write_behind (write_some write_key) (word.Order ∷ word.By ∷ []) from.keys last in
    let having = write_behind (write_cond write_value) (word.Having ∷ []) from.having keys in
    let groups = write_behind (write_some write_column) (word.Group ∷ word.By ∷ []) from.groups having in
    let conds = write_behind write_where (word.Where ∷ []) from.cond groups in
    let s = source_told from.source (write_joins from.joins conds) h.1 in
    let j = joins_told from.joins None conds tt s.1 in
    let c = with_where_told (on_conds None from.joins) from.cond groups j.1 j.2 in
    let g = any_told write_column column_of ShortReference column_told (word.Group ∷ word.By ∷ []) from.groups having c.1 in
    let b = option_told (write_cond write_value) (cond_of value_of) ShortCond having_told (word.Having ∷ []) from.having keys g.1 in
    let k = any_told write_key key_of ShortKey key_told (word.Order ∷ word.By ∷ []) from.keys last b.1 in
    record { items_are = short; froms_are = (s.0, j.0); cond_is = c.0; groups_are = g.0; having_is = b.0; keys_are = k.0 }

distinct_told : (distinct : Bool) (rest : List Token) → ShortTokens (write_distinct distinct rest) → ShortTokens rest
distinct_told true rest h = h.1
distinct_told false rest h = h

by_from : (distinct : Bool) (items : ItemsRule) (from : Option FromRule) → ShortTokens (write_items items (write_optional_from from [])) → ShortQuery (query_from distinct (items_of items) from)
by_from distinct items None h =
    let x = items_told items [] h in
    record { items_are = x.0; froms_are = tt; cond_is = tt; groups_are = tt; having_is = tt; keys_are = tt }
by_from distinct items (Some from) h =
    let x = items_told items (write_from from []) h in
    from_told distinct (items_of items) from x.0 x.1

query_told : (r : QueryRule) → ShortTokens (write_query r []) → ShortQuery (query_of r)
query_told r h = by_from r.distinct r.items r.from (distinct_told r.distinct (write_items r.items (write_optional_from r.from [])) h.1)

-- ## Statements

type_told : (r : TypeRule) (rest : List Token) → ShortTokens (write_type r rest) → ShortTokens rest
type_told IntType rest h = h.1
type_told IntegerType rest h = h.1
type_told BigintType rest h = h.1
type_told TextType rest h = h.1
type_told DateType rest h = h.1
type_told (VarcharType digits) rest h = h.1.1.1.1

literal_told : (l : LiteralRule) (rest : List Token) → ShortTokens (write_literal l rest) → ShortTokens rest
literal_told (PlainDigits digits) rest h = h.1
literal_told (MinusDigits digits) rest h = h.1.1
literal_told (StringLiteral text) rest h = h.1
literal_told (DateLiteral text is) rest h = h.1.1
literal_told NullLiteral rest h = h.1

end_told : (e : ColumnEnd) (rest : List Token) → ShortTokens (write_end e rest) → ShortTokens rest
end_told PlainEnd rest h = h
end_told NotNullEnd rest h = h.1.1
end_told (DefaultEnd l) rest h = literal_told l rest h.1
end_told (NotNullDefault l) rest h = literal_told l rest h.1.1.1
end_told (DefaultNotNull l) rest h = let x = literal_told l (write_not_null rest) h.1 in x.1.1

coldef_told : IsShortTold write_coldef coldef_of ShortColumn
coldef_told coldef rest h =
    let x = name_told coldef.name (write_type coldef.kind (write_end coldef.end rest)) h in
    (x.0, end_told coldef.end rest (type_told coldef.kind (write_end coldef.end rest) x.1))

column_word_told : (column_word : Bool) (rest : List Token) → ShortTokens (write_column_word column_word rest) → ShortTokens rest
column_word_told true rest h = h.1
column_word_told false rest h = h

set_told : IsShortTold write_set set_of ShortSet
set_told set rest h =
    let x = name_told set.0 (sign symbol.Equal ∷ write_expr set.1 rest) h in
    let y = expr_told set.1 rest x.1.1 in
    ((x.0, y.0), y.1)

column_list_told : (names : Option (NameRule × List NameRule)) (rest : List Token) → ShortTokens (write_column_list names rest) → AllByRecursion IsShort (map name_of (any_of names)) × ShortTokens rest
column_list_told None rest h = (tt, h)
column_list_told (Some names) rest h = let x = some_told write_name name_of IsShort name_told names (sign symbol.Close ∷ rest) h.1 in (x.0, x.1.1)

-- the names of what is derived of tokens without long names
pub short_told : (r : StmtRule) → ShortTokens (write_stmt r) → ShortStmt (stmt_of r)
short_told (CreateRule table coldefs) h =
    let x = name_told table (write_enclosed write_coldef coldefs []) h.1.1 in
    let y = some_told write_coldef coldef_of ShortColumn coldef_told coldefs (sign symbol.Close ∷ []) x.1.1 in
    (x.0, y.0)
short_told (DropRule table) h = (name_told table [] h.1.1).0
short_told (AlterRule table column_word coldef) h =
    let x = name_told table (Key word.Add ∷ write_column_word column_word (write_coldef coldef [])) h.1.1 in
    let y = coldef_told coldef [] (column_word_told column_word (write_coldef coldef []) x.1.1) in
    (x.0, y.0)
short_told (InsertRule table columns rows) h =
    let x = name_told table (write_column_list columns (Key word.Values ∷ write_some write_row rows [])) h.1.1 in
    let y = column_list_told columns (Key word.Values ∷ write_some write_row rows []) x.1 in
    (x.0, y.0)
short_told (DeleteRule table c) h =
    let x = name_told table (write_behind write_where (word.Where ∷ []) c []) h.1.1 in
    let y = option_told write_where where_of ShortCond where_told (word.Where ∷ []) c [] x.1 in
    (x.0, y.0)
short_told (UpdateRule table sets c) h =
    let x = name_told table (Key word.Set ∷ write_some write_set sets (write_behind write_where (word.Where ∷ []) c [])) h.1 in
    let y = some_told write_set set_of ShortSet set_told sets (write_behind write_where (word.Where ∷ []) c []) x.1.1 in
    let z = option_told write_where where_of ShortCond where_told (word.Where ∷ []) c [] y.1 in
    (x.0, y.0, z.0)
short_told (SelectRule query) h = query_told query h
short_told (ExplainRule query) h = query_told query h.1
