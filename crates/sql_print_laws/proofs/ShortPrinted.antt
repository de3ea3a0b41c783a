-- Where no name of a statement is long, no token of what is printed is a long name.
use Rattle.std.proofs.Common.{ℕ, List, [], ◌∷◌, ◌++◌, map, Bool, true, false, Option, Some, None, cond, refl}
use Rattle.std.specs.Prelude.{decimal}
use Rattle.std.specs.List.{AllByRecursion}
use Rattle.cell_core.specs.declared.cell.Cell.{Cell}
use Rattle.cell_core.specs.declared.table.Column.{Column}
use Rattle.sql_grammar.specs.Grammar.{sign, write_more, write_some, write_behind, write_name, LiteralRule, write_literal, write_column, FactorRule, write_factor, write_expr, aggregate_word, write_value, write_cmp, write_cond, write_unit, write_where}
use Rattle.sql_grammar.specs.Grammar.NameRule.{BareName, QuotedName}
use Rattle.sql_grammar.specs.Grammar.LiteralRule.{PlainDigits, MinusDigits, StringLiteral, DateLiteral, NullLiteral}
use Rattle.sql_grammar.specs.Statements.{write_alias, write_item, write_items, write_source, write_joins, write_place, write_order, write_key, write_digits, write_distinct, write_from, write_query, TypeRule, write_type, ColumnEnd, write_not_null, write_default, write_end, write_coldef, write_set, write_column_list, write_row, write_stmt}
use Rattle.sql_grammar.specs.Statements.TypeRule.{IntType, IntegerType, BigintType, TextType, DateType, VarcharType}
use Rattle.sql_grammar.specs.Statements.ColumnEnd.{PlainEnd, NotNullEnd, DefaultEnd, NotNullDefault, DefaultNotNull}
use Rattle.sql_grammar.specs.Written.{IsLiteral}
use Rattle.sql_print_laws.proofs.LevelLemmas.{all_true}
use Rattle.sql_print_laws.proofs.ShortTold.{IsShort, IsShortToken, ShortTokens, ShortReference, ShortExpr, ShortCond, ShortItem, ShortSource, ShortPlace, ShortKey, ShortQuery, ShortColumn, ShortSet, ShortStmt}
use Rattle.sql_print_laws.specs.CanonRules.{canon_all, canon_some, canon_any, canon_option, canon_name, canon_literal, column_rule, canon_reference, factor_rule, operator_rule, canon_factor, canon_operand, canon_expr, canon_value, canon_value_operand, canon_cmp, compared_unit, within_unit, null_unit, canon_cond, canon_part, canon_where, canon_having, canon_alias, canon_item, canon_items, canon_source, canon_join, canon_column_of, canon_place, canon_order, canon_key, canon_limit, canon_sources, canon_from, canon_query, canon_type, canon_end, canon_coldef, canon_listed_name, canon_row, canon_set, canon_stmt}
use Rattle.sql_print_laws.specs.Printable.{EachOfSome, IfThere, IsName, IsReference, IsPrintableExpr, IsPrintableValue, IsPrintableCond, IsPrintableWhere, IsPrintableHaving, IsPrintableItem, IsPrintableKey, IsPrintableSource, IsPrintableQuery, IsPrintableColumn, IsPrintableSet, IsPrintable}
use Rattle.sql_tree.specs.Names.{is_bare_name}
use Rattle.sql_tree.specs.Tree.{ExprTree, CondTree, ItemTree, QueryTree, StmtTree}
use Rattle.sql_tree.specs.Tree.ExprTree.{Literal, ColumnOf, Operator, AggregateAll, Aggregate}
use Rattle.sql_tree.specs.Tree.CondTree.{Compare, Within, IsNull, Negation, Both, Either}
use Rattle.sql_tree.specs.Tree.StmtTree.{CreateTable, DropTable, AlterTable, InsertInto, DeleteFrom, UpdateTable, Select, ExplainSelect}
use Rattle.sql_tree.specs.declared.token.Keyword.{Keyword}
use Rattle.sql_tree.specs.declared.token.Keyword.TheVariants as word
use Rattle.sql_tree.specs.declared.token.Symbol.TheVariants as symbol
use Rattle.sql_tree.specs.declared.token.Token.{Token}
use Rattle.sql_tree.specs.declared.token.Token.TheVariants.{Text, Digits, Key}
use Rattle.sql_tree.specs.declared.tree.AggOp.{AggOp}
use Rattle.sql_tree.specs.declared.tree.ArithOp.{ArithOp}
use Rattle.sql_tree.specs.declared.tree.ArithOp.TheVariants as arithmetic
use Rattle.sql_tree.specs.declared.tree.CmpOp.{CmpOp}
use Rattle.sql_tree.specs.declared.tree.CmpOp.TheVariants as compare
use Rattle.sql_tree.specs.declared.tree.ColRef.{ColRef}
use Rattle.sql_tree.specs.declared.tree.FromItem.{FromItem}
use Rattle.sql_tree.specs.declared.tree.Place.{Place}
use Rattle.sql_tree.specs.declared.tree.Place.TheVariants.{Position, Named}
use Rattle.sql_tree.specs.declared.tree.SortKey.{SortKey}

-- ## Parts

-- what is written has no long name
record Short (w : List Token → List Token) : Type 0 where
  short : (rest : List Token) → ShortTokens rest → ShortTokens (w rest)

one : (t : Token) → IsShortToken t → Short (λ ts. t ∷ ts)
one t is = record { short = λ rest h. (is, h) }

then : {w v : List Token → List Token} → Short w → Short v → Short (λ ts. w (v ts))
then {v = v} x y = record { short = λ rest h. x.short (v rest) (y.short rest h) }

nothing : Short (λ ts. ts)
nothing = record { short = λ rest h. h }

enclosed : {w : List Token → List Token} → Short w → Short (λ ts. sign symbol.Open ∷ w (sign symbol.Close ∷ ts))
enclosed x = then (one (sign symbol.Open) refl) (then x (one (sign symbol.Close) refl))

module _ {X R : Type 0} (P : X → Type 0) (canon : (x : X) → P x → R) (write : R → List Token → List Token) (Q : X → Type 0) (each_short : (x : X) (is : P x) → Q x → Short (write (canon x is))) where
  more_short : (xs : List X) (each : AllByRecursion P xs) → AllByRecursion Q xs → Short (write_more write (canon_all P canon xs each))
  more_short [] each names = nothing
  more_short (x ∷ xs) each names = then (one (sign symbol.Comma) refl) (then (each_short x each.0 names.0) (more_short xs each.1 names.1))

  some_short : (xs : List X) (each : EachOfSome P xs) → AllByRecursion Q xs → Short (write_some write (canon_some P canon xs each))
  some_short [] each names = absurd each
  some_short (x ∷ xs) each names = then (each_short x each.0 names.0) (more_short xs each.1 names.1)

  any_short : (words : List Keyword) → Short (λ ts. map Key words ++ ts) → (xs : List X) (each : AllByRecursion P xs) → AllByRecursion Q xs → Short (write_behind (write_some write) words (canon_any P canon xs each))
  any_short words led [] each names = nothing
  any_short words led (x ∷ xs) each names = then led (then (each_short x each.0 names.0) (more_short xs each.1 names.1))

-- ## Names, literals and columns

by_quotes : (quotes : Bool) (name : List ℕ) → IsShort name → Short (write_name (cond quotes (BareName name) (QuotedName name)))
by_quotes true name is = record { short = λ rest h. (is, h) }
by_quotes false name is = record { short = λ rest h. (is, h) }

name_short : (name : List ℕ) → IsShort name → Short (write_name (canon_name name))
name_short name is = by_quotes (is_bare_name name) name is

literal_short : (l : LiteralRule) → Short (write_literal l)
literal_short (PlainDigits digits) = one (Digits digits) refl
literal_short (MinusDigits digits) = then (one (sign symbol.Minus) refl) (one (Digits digits) refl)
literal_short (StringLiteral text) = one (Text text) refl
literal_short (DateLiteral text is) = then (one (Key word.Date) refl) (one (Text text) refl)
literal_short NullLiteral = one (Key word.Null) refl

number_short : (l : LiteralRule) → Short (write_factor (factor_rule l))
number_short (PlainDigits digits) = one (Digits digits) refl
number_short (MinusDigits digits) = then (one (sign symbol.Minus) refl) (one (Digits digits) refl)
number_short (StringLiteral text) = one (Text text) refl
number_short (DateLiteral text is) = then (one (Key word.Date) refl) (one (Text text) refl)
number_short NullLiteral = one (Key word.Null) refl

by_table : (table : Option (List ℕ)) (column : List ℕ) → IfThere IsShort table → IsShort column → Short (write_column (column_rule table column))
by_table None column x y = name_short column y
by_table (Some table) column x y = then (name_short table x) (then (one (sign symbol.Dot) refl) (name_short column y))

reference_short : (c : ColRef) → ShortReference c → Short (write_column (canon_reference c))
reference_short c names = by_table c.table c.column names.0 names.1

-- ## Expressions

operator_short : (op : ArithOp) (f g : FactorRule) → Short (write_factor f) → Short (write_factor g) → Short (write_expr (operator_rule op f g))
operator_short arithmetic.Plus f g x y = then x (then (one (sign symbol.Plus) refl) y)
operator_short arithmetic.Minus f g x y = then x (then (one (sign symbol.Minus) refl) y)
operator_short arithmetic.Times f g x y = then x (then (one (sign symbol.Star) refl) y)

factor_short : (e : ExprTree) (is : IsPrintableExpr e) → ShortExpr e → Short (write_factor (canon_factor e is))
factor_short (Literal literal) is names = number_short (canon_literal literal is)
factor_short (ColumnOf column) is names = reference_short column names
factor_short (Operator op left right) is names = enclosed (operator_short op (canon_factor left is.0) (canon_factor right is.1) (factor_short left is.0 names.0) (factor_short right is.1 names.1))
factor_short (AggregateAll f) is names = absurd is
factor_short (Aggregate f of) is names = absurd is

operand_short : (e : ExprTree) (is : IsPrintableExpr e) → ShortExpr e → Short (write_expr (canon_operand e is))
operand_short e is names = record { short = λ rest h. (factor_short e is names).short rest h }

expr_short : (e : ExprTree) (is : IsPrintableExpr e) → ShortExpr e → Short (write_expr (canon_expr e is))
expr_short (Literal literal) is names = operand_short (Literal literal) is names
expr_short (ColumnOf column) is names = operand_short (ColumnOf column) is names
expr_short (Operator op left right) is names = operator_short op (canon_factor left is.0) (canon_factor right is.1) (factor_short left is.0 names.0) (factor_short right is.1 names.1)
expr_short (AggregateAll f) is names = absurd is
expr_short (Aggregate f of) is names = absurd is

all_rows_short : Short (λ ts. Key word.Count ∷ sign symbol.Open ∷ sign symbol.Star ∷ sign symbol.Close ∷ ts)
all_rows_short = then (one (Key word.Count) refl) (enclosed (one (sign symbol.Star) refl))

aggregate_short : (f : AggOp) (of : ExprTree) (is : IsPrintableExpr of) → ShortExpr of → Short (λ ts. Key (aggregate_word f) ∷ sign symbol.Open ∷ write_expr (canon_expr of is) (sign symbol.Close ∷ ts))
aggregate_short f of is names = then (one (Key (aggregate_word f)) refl) (enclosed (expr_short of is names))

value_short : (e : ExprTree) (is : IsPrintableValue e) → ShortExpr e → Short (write_value (canon_value e is))
value_short (Literal literal) is names = expr_short (Literal literal) is names
value_short (ColumnOf column) is names = expr_short (ColumnOf column) is names
value_short (Operator op left right) is names = expr_short (Operator op left right) is names
value_short (AggregateAll f) is names = all_rows_short
value_short (Aggregate f of) is names = aggregate_short f of is names

value_operand_short : (e : ExprTree) (is : IsPrintableValue e) → ShortExpr e → Short (write_value (canon_value_operand e is))
value_operand_short (Literal literal) is names = operand_short (Literal literal) is names
value_operand_short (ColumnOf column) is names = operand_short (ColumnOf column) is names
value_operand_short (Operator op left right) is names = operand_short (Operator op left right) is names
value_operand_short (AggregateAll f) is names = all_rows_short
value_operand_short (Aggregate f of) is names = aggregate_short f of is names

-- ## Conditions

cmp_short : (op : CmpOp) → Short (λ ts. write_cmp (canon_cmp op) ∷ ts)
cmp_short compare.Eq = one (sign symbol.Equal) refl
cmp_short compare.Ne = one (sign symbol.NotEqual) refl
cmp_short compare.Lt = one (sign symbol.Less) refl
cmp_short compare.Le = one (sign symbol.LessEqual) refl
cmp_short compare.Gt = one (sign symbol.Greater) refl
cmp_short compare.Ge = one (sign symbol.GreaterEqual) refl

module _ {E : Type 0} (P : ExprTree → Type 0) (canon : (e : ExprTree) → P e → E) (write : E → List Token → List Token) (each_short : (e : ExprTree) (is : P e) → ShortExpr e → Short (write (canon e is))) where
  compared_short : (op : CmpOp) (left right : ExprTree) (is : P left × P right) → ShortExpr left → ShortExpr right → Short (write_unit write (compared_unit P canon op left right is))
  compared_short op left right is x y = then (each_short left is.0 x) (then (cmp_short op) (each_short right is.1 y))

  within_short : (of low high : ExprTree) (is : P of × P low × P high) → ShortExpr of → ShortExpr low → ShortExpr high → Short (write_unit write (within_unit P canon of low high is))
  within_short of low high is x y z = then (each_short of is.0 x) (then (one (Key word.Between) refl) (then (each_short low is.1 y) (then (one (Key word.And) refl) (each_short high is.2 z))))

  null_test_short : (of : ExprTree) (is : P of) → ShortExpr of → Short (write_unit write (null_unit P canon of is))
  null_test_short of is x = then (each_short of is x) (then (one (Key word.Is) refl) (one (Key word.Null) refl))

  mutual
    cond_short : (c : CondTree) (is : IsPrintableCond P c) → ShortCond c → Short (write_cond write (canon_cond P canon c is))
    cond_short (Compare op left right) is names = compared_short op left right is names.0 names.1
    cond_short (Within of low high) is names = within_short of low high is names.0 names.1 names.2
    cond_short (IsNull of) is names = null_test_short of is names
    cond_short (Negation c) is names = then (one (Key word.Not) refl) (part_short c is names)
    cond_short (Both left right) is names = then (part_short left is.0 names.0) (then (one (Key word.And) refl) (part_short right is.1 names.1))
    cond_short (Either left right) is names = then (enclosed (cond_short left is.0 names.0)) (then (one (Key word.Or) refl) (enclosed (cond_short right is.1 names.1)))

    part_short : (c : CondTree) (is : IsPrintableCond P c) → ShortCond c → Short (write_unit write (canon_part P canon c is))
    part_short (Compare op left right) is names = compared_short op left right is names.0 names.1
    part_short (Within of low high) is names = within_short of low high is names.0 names.1 names.2
    part_short (IsNull of) is names = null_test_short of is names
    part_short (Negation c) is names = enclosed (then (one (Key word.Not) refl) (part_short c is names))
    part_short (Both left right) is names = enclosed (then (part_short left is.0 names.0) (then (one (Key word.And) refl) (part_short right is.1 names.1)))
    part_short (Either left right) is names = enclosed (then (enclosed (cond_short left is.0 names.0)) (then (one (Key word.Or) refl) (enclosed (cond_short right is.1 names.1))))

where_short : (o : Option CondTree) (is : IfThere IsPrintableWhere o) → IfThere ShortCond o → Short (write_behind write_where (word.Where ∷ []) (canon_option IsPrintableWhere canon_where o is))
where_short None is names = nothing
where_short (Some c) is names = then (one (Key word.Where) refl) (cond_short IsPrintableExpr canon_operand write_expr operand_short c is names)

having_short : (o : Option CondTree) (is : IfThere IsPrintableHaving o) → IfThere ShortCond o → Short (write_behind (write_cond write_value) (word.Having ∷ []) (canon_option IsPrintableHaving canon_having o is))
having_short None is names = nothing
having_short (Some c) is names = then (one (Key word.Having) refl) (cond_short IsPrintableValue canon_value_operand write_value value_operand_short c is names)

-- ## Queries

alias_short : (alias : Option (List ℕ)) → IfThere IsShort alias → Short (write_alias (canon_alias alias))
alias_short None names = nothing
alias_short (Some alias) names = then (one (Key word.As) refl) (name_short alias names)

item_short : (item : ItemTree) (is : IsPrintableItem item) → ShortItem item → Short (write_item (canon_item item is))
item_short item is names = then (value_short item.expr is.0 names.0) (alias_short item.alias names.1)

items_short : (items : List ItemTree) (each : AllByRecursion IsPrintableItem items) → AllByRecursion ShortItem items → Short (write_items (canon_items items each))
items_short [] each names = one (sign symbol.Star) refl
items_short (item ∷ items) each names = then (item_short item each.0 names.0) (more_short IsPrintableItem canon_item write_item ShortItem item_short items each.1 names.1)

distinct_short : (distinct : Bool) → Short (write_distinct distinct)
distinct_short true = one (Key word.Distinct) refl
distinct_short false = nothing

source_short : (source : FromItem) → ShortSource source → Short (write_source (canon_source source))
source_short source names = then (name_short source.table names.0) (alias_short source.alias names.1)

joins_short : (froms : List FromItem) → AllByRecursion ShortSource froms → Short (write_joins (map canon_join froms))
joins_short [] names = nothing
joins_short (from ∷ froms) names = then (then (one (sign symbol.Comma) refl) (source_short from names.0)) (joins_short froms names.1)

froms_short : (froms : List FromItem) (each : EachOfSome IsPrintableSource froms) → AllByRecursion ShortSource froms → Short (λ ts. Key word.From ∷ write_source (canon_sources froms each).0 (write_joins (canon_sources froms each).1 ts))
froms_short [] each names = absurd each
froms_short (from ∷ froms) each names = then (one (Key word.From) refl) (then (source_short from names.0) (joins_short froms names.1))

column_short : (column : ColRef) (is : IsReference column) → ShortReference column → Short (write_column (canon_column_of column is))
column_short column is names = reference_short column names

place_short : (place : Place) → ShortPlace place → Short (write_place (canon_place place))
place_short (Position n) names = one (Digits (decimal n)) refl
place_short (Named column) names = reference_short column names

order_short : (ascending : Bool) → Short (write_order (canon_order ascending))
order_short true = nothing
order_short false = one (Key word.Desc) refl

key_short : (key : SortKey) (is : IsPrintableKey key) → ShortKey key → Short (write_key (canon_key key is))
key_short key is names = then (place_short key.at names) (order_short key.ascending)

limit_short : (limit : Option ℕ) → Short (write_behind write_digits (word.Limit ∷ []) (canon_limit limit))
limit_short None = nothing
limit_short (Some n) = then (one (Key word.Limit) refl) (one (Digits (decimal n)) refl)

from_short : (query : QueryTree) (is : IsPrintableQuery query) → ShortQuery query → Short (write_from (canon_from query is))
from_short query is names =
    then (froms_short query.froms is.froms_are names.froms_are)
    (then (where_short query.cond is.cond_is names.cond_is)
    (then (any_short IsReference canon_column_of write_column ShortReference column_short (word.Group ∷ word.By ∷ []) (then (one (Key word.Group) refl) (one (Key word.By) refl)) query.groups is.groups_are names.groups_are)
    (then (having_short query.having is.having_is names.having_is)
    (then (any_short IsPrintableKey canon_key write_key ShortKey key_short (word.Order ∷ word.By ∷ []) (then (one (Key word.Order) refl) (one (Key word.By) refl)) query.keys is.keys_are names.keys_are)
    (limit_short query.limit)))))

query_short : (query : QueryTree) (is : IsPrintableQuery query) → ShortQuery query → Short (write_query (canon_query query is))
query_short query is names =
    then (one (Key word.Select) refl) (then (distinct_short query.distinct) (then (items_short query.items is.items_are names.items_are) (from_short query is names)))

-- ## Columns of CREATE, rows of INSERT and sets of UPDATE

rule_short : (k : TypeRule) → Short (write_type k)
rule_short IntType = one (Key word.Int) refl
rule_short IntegerType = one (Key word.Integer) refl
rule_short BigintType = one (Key word.Bigint) refl
rule_short TextType = one (Key word.Text) refl
rule_short DateType = one (Key word.Date) refl
rule_short (VarcharType digits) = then (one (Key word.Varchar) refl) (enclosed (one (Digits digits) refl))

not_null_short : Short write_not_null
not_null_short = then (one (Key word.Not) refl) (one (Key word.Null) refl)

default_short : (l : LiteralRule) → Short (write_default l)
default_short l = then (one (Key word.Default) refl) (literal_short l)

end_short : (e : ColumnEnd) → Short (write_end e)
end_short PlainEnd = nothing
end_short NotNullEnd = not_null_short
end_short (DefaultEnd l) = default_short l
end_short (NotNullDefault l) = then not_null_short (default_short l)
end_short (DefaultNotNull l) = then (default_short l) not_null_short

coldef_short : (column : Column) (is : IsPrintableColumn column) → ShortColumn column → Short (write_coldef (canon_coldef column is))
coldef_short column is names = then (name_short column.name names) (then (rule_short (canon_type column.kind column.width)) (end_short (canon_end column.not_null column.default is.2)))

cell_short : (c : Cell) (is : IsLiteral c) → Unit {0} → Short (write_literal (canon_literal c is))
cell_short c is names = literal_short (canon_literal c is)

row_short : (row : List Cell) (each : EachOfSome IsLiteral row) → Unit {0} → Short (write_row (canon_row row each))
row_short row each names = enclosed (some_short IsLiteral canon_literal write_literal (λ x. Unit {0}) cell_short row each (all_true row))

listed_name_short : (name : List ℕ) (is : IsName name) → IsShort name → Short (write_name (canon_listed_name name is))
listed_name_short name is names = name_short name names

column_list_short : (columns : List (List ℕ)) (each : AllByRecursion IsName columns) → AllByRecursion IsShort columns → Short (write_column_list (canon_any IsName canon_listed_name columns each))
column_list_short [] each names = nothing
column_list_short (name ∷ more) each names = enclosed (some_short IsName canon_listed_name write_name IsShort listed_name_short (name ∷ more) each names)

set_short : (set : List ℕ × ExprTree) (is : IsPrintableSet set) → ShortSet set → Short (write_set (canon_set set is))
set_short set is names = then (name_short set.0 names.0) (then (one (sign symbol.Equal) refl) (expr_short set.1 is.1 names.1))

-- ## Statements

whole : {w : List Token → List Token} → Short w → ShortTokens (w [])
whole x = x.short [] tt

pub short_printed : (s : StmtTree) (is : IsPrintable s) → ShortStmt s → ShortTokens (write_stmt (canon_stmt s is))
short_printed (CreateTable table columns) is names =
    whole (then (one (Key word.Create) refl) (then (one (Key word.Table) refl) (then (name_short table names.0)
    (enclosed (some_short IsPrintableColumn canon_coldef write_coldef ShortColumn coldef_short columns is.1 names.1)))))
short_printed (DropTable table) is names = whole (then (one (Key word.Drop) refl) (then (one (Key word.Table) refl) (name_short table names)))
short_printed (AlterTable table column) is names =
    whole (then (one (Key word.Alter) refl) (then (one (Key word.Table) refl) (then (name_short table names.0)
    (then (one (Key word.Add) refl) (then (one (Key word.Column) refl) (coldef_short column is.1 names.1))))))
short_printed (InsertInto table columns rows) is names =
    whole (then (one (Key word.Insert) refl) (then (one (Key word.Into) refl) (then (name_short table names.0) (then (column_list_short columns is.1 names.1)
    (then (one (Key word.Values) refl) (some_short (EachOfSome IsLiteral) canon_row write_row (λ x. Unit {0}) row_short rows is.2 (all_true rows)))))))
short_printed (DeleteFrom table cond) is names =
    whole (then (one (Key word.Delete) refl) (then (one (Key word.From) refl) (then (name_short table names.0) (where_short cond is.1 names.1))))
short_printed (UpdateTable table sets cond) is names =
    whole (then (one (Key word.Update) refl) (then (name_short table names.0) (then (one (Key word.Set) refl)
    (then (some_short IsPrintableSet canon_set write_set ShortSet set_short sets is.1 names.1) (where_short cond is.2 names.2)))))
short_printed (Select query) is names = whole (query_short query is names)
short_printed (ExplainSelect query) is names = whole (then (one (Key word.Explain) refl) (query_short query is names))
