-- The chosen derivation of a statement stands for that statement.
use Rattle.std.proofs.Common.{◌≡◌, ℕ, suc, ◌≤◌, ◌^◌, ◌==◌, List, [], ◌∷◌, map, Bool, true, false, cond, Option, Some, None, option_map, pos, negsuc, neg_ℤ, refl, ap, sym, ◌∙◌, arith}
use Rattle.std.specs.Prelude.{decimal}
use Rattle.std.specs.List.{AllByRecursion}
use Rattle.std.specs.Str.Parse.{digits_value}
use Rattle.std.proofs.lemmas.Bool.{eqb-true}
use Rattle.std.proofs.lemmas.Fmt.{decimal_is_IsNumeral}
use Rattle.cell_core.specs.declared.cell.Cell.{Cell}
use Rattle.cell_core.specs.declared.cell.Cell.TheVariants as cell
use Rattle.cell_core.specs.declared.cell.Kind.{Kind}
use Rattle.cell_core.specs.declared.cell.Kind.TheVariants as kind
use Rattle.cell_core.specs.declared.table.Column.{Column}
use Rattle.sql_grammar.specs.Grammar.{all_of, any_of, name_of, literal_cell, column_of, LiteralRule, FactorRule, expr_of, factor_of, value_of, cmp_of, cond_of, unit_of, where_of, WhereRule}
use Rattle.sql_grammar.specs.Grammar.NameRule.{BareName, QuotedName}
use Rattle.sql_grammar.specs.Grammar.LiteralRule.{PlainDigits, MinusDigits, StringLiteral, DateLiteral, NullLiteral}
use Rattle.sql_grammar.specs.Statements.{alias_of, item_of, items_of, source_of, joined_source, on_conds, with_where, place_of, is_ascending, key_of, query_of, kind_of, length_of, width_of, is_required, default_of, coldef_of, set_of, row_of, stmt_of}
use Rattle.sql_grammar.specs.Grammar.{number_of}
use Rattle.sql_grammar.specs.Written.{IsLiteral}
use Rattle.sql_print_laws.proofs.NumberLemmas.{below_limit, negative_below_limit}
use Rattle.sql_print_laws.specs.CanonRules.{canon_all, canon_some, canon_any, canon_option, canon_name, canon_literal, column_rule, canon_reference, factor_rule, operator_rule, canon_factor, canon_operand, canon_expr, canon_value, canon_value_operand, canon_cmp, canon_cond, canon_part, canon_where, canon_having, canon_alias, canon_item, canon_items, canon_source, canon_join, canon_column_of, canon_place, canon_order, canon_key, canon_limit, canon_sources, canon_from, canon_query, canon_type, canon_end, canon_coldef, canon_listed_name, canon_row, canon_set, canon_stmt}
use Rattle.sql_print_laws.specs.Printable.{EachOfSome, IfThere, IsName, IsReference, IsPrintableExpr, IsPrintableValue, IsPrintableCond, IsPrintableWhere, IsPrintableHaving, IsPrintableItem, IsPrintableSource, IsPrintablePlace, IsPrintableKey, IsPrintableLimit, IsPrintableQuery, IsPrintableKind, IsPrintableColumn, IsPrintableSet, IsPrintable}
use Rattle.sql_print_laws.specs.Laws.{PrintedDerives}
use Rattle.sql_tree.specs.Names.{is_bare_name}
use Rattle.sql_tree.specs.Tree.{ExprTree, CondTree, ItemTree, QueryTree, StmtTree}
use Rattle.sql_tree.specs.Tree.ExprTree.{Literal, ColumnOf, Operator, AggregateAll, Aggregate}
use Rattle.sql_tree.specs.Tree.CondTree.{Compare, Within, IsNull, Negation, Both, Either}
use Rattle.sql_tree.specs.Tree.StmtTree.{CreateTable, DropTable, AlterTable, InsertInto, DeleteFrom, UpdateTable, Select, ExplainSelect}
use Rattle.sql_tree.specs.declared.tree.AggOp.{AggOp}
use Rattle.sql_tree.specs.declared.tree.AggOp.TheVariants as aggregate
use Rattle.sql_tree.specs.declared.tree.ArithOp.{ArithOp}
use Rattle.sql_tree.specs.declared.tree.ArithOp.TheVariants as arithmetic
use Rattle.sql_tree.specs.declared.tree.CmpOp.{CmpOp}
use Rattle.sql_tree.specs.declared.tree.CmpOp.TheVariants as compare
use Rattle.sql_tree.specs.declared.tree.ColRef.{ColRef}
use Rattle.sql_tree.specs.declared.tree.FromItem.{FromItem}
use Rattle.sql_tree.specs.declared.tree.Place.{Place}
use Rattle.sql_tree.specs.declared.tree.Place.TheVariants.{Position, Named}
use Rattle.sql_tree.specs.declared.tree.SortKey.{SortKey}

-- ## Lists and optional parts

module _ {X R : Type 0} (P : X → Type 0) (canon : (x : X) → P x → R) (meaning : R → X) (again : (x : X) (is : P x) → meaning (canon x is) ≡ x) where
  all_again : (xs : List X) (each : AllByRecursion P xs) → map meaning (canon_all P canon xs each) ≡ xs
  all_again [] each = refl
  all_again (x ∷ xs) each = λ i. again x each.0 i ∷ all_again xs each.1 i

  some_again : (xs : List X) (each : EachOfSome P xs) → map meaning (all_of (canon_some P canon xs each)) ≡ xs
  some_again [] each = absurd each
  some_again (x ∷ xs) each = λ i. again x each.0 i ∷ all_again xs each.1 i

  any_again : (xs : List X) (each : AllByRecursion P xs) → map meaning (any_of (canon_any P canon xs each)) ≡ xs
  any_again [] each = refl
  any_again (x ∷ xs) each = λ i. again x each.0 i ∷ all_again xs each.1 i

  option_again : (o : Option X) (is : IfThere P o) → option_map meaning (canon_option P canon o is) ≡ o
  option_again None is = refl
  option_again (Some x) is = ap Some (again x is)

-- ## Names and literals

name_again : (name : List ℕ) → name_of (canon_name name) ≡ name
name_again name = elim (is_bare_name name) as (λ b. name_of (cond b (BareName name) (QuotedName name)) ≡ name) [ true ↦ refl | false ↦ refl ]

digits_again : (n : ℕ) → n ≤ 2 ^ 63 → digits_value 10 (decimal n) ≡ n
digits_again n h = (decimal_is_IsNumeral n (omega (arith, h))).1

literal_again : (literal : Cell) (is : IsLiteral literal) → literal_cell (canon_literal literal is) ≡ literal
literal_again (cell.Int (pos n)) is = ap (λ k. cell.Int (pos k)) (digits_again n (omega (arith, below_limit n is)))
literal_again (cell.Int (negsuc n)) is = ap (λ k. cell.Int (neg_ℤ (pos k))) (digits_again (suc n) (omega (arith, negative_below_limit n is)))
literal_again (cell.Text text) is = refl
literal_again (cell.Day day) is = ap cell.Day is.2
literal_again cell.Nil is = refl
literal_again (cell.Huge n) is = absurd is
literal_again (cell.Bit b) is = absurd is
literal_again (cell.Oid n) is = absurd is

reference_is : (table : Option (List ℕ)) (column : List ℕ) → column_of (column_rule table column) ≡ record { table = table; column = column }
reference_is None column = λ i. record { table = None; column = name_again column i }
reference_is (Some table) column = λ i. record { table = Some (name_again table i); column = name_again column i }

reference_again : (reference : ColRef) → column_of (canon_reference reference) ≡ reference
reference_again reference = reference_is reference.table reference.column

-- ## Expressions

factor_is : (l : LiteralRule) → factor_of (factor_rule l) ≡ Literal (literal_cell l)
factor_is (PlainDigits digits) = refl
factor_is (MinusDigits digits) = refl
factor_is (StringLiteral text) = refl
factor_is (DateLiteral text is) = refl
factor_is NullLiteral = refl

operator_is : (op : ArithOp) (x y : FactorRule) → expr_of (operator_rule op x y) ≡ Operator op (factor_of x) (factor_of y)
operator_is arithmetic.Plus x y = refl
operator_is arithmetic.Minus x y = refl
operator_is arithmetic.Times x y = refl

factor_again : (e : ExprTree) (is : IsPrintableExpr e) → factor_of (canon_factor e is) ≡ e
factor_again (Literal literal) is = factor_is (canon_literal literal is) ∙ ap Literal (literal_again literal is)
factor_again (ColumnOf column) is = ap ColumnOf (reference_again column)
factor_again (Operator op left right) is = operator_is op (canon_factor left is.0) (canon_factor right is.1) ∙ (λ i. Operator op (factor_again left is.0 i) (factor_again right is.1 i))
factor_again (AggregateAll f) is = absurd is
factor_again (Aggregate f of) is = absurd is

operand_again : (e : ExprTree) (is : IsPrintableExpr e) → expr_of (canon_operand e is) ≡ e
operand_again e is = factor_again e is

expr_again : (e : ExprTree) (is : IsPrintableExpr e) → expr_of (canon_expr e is) ≡ e
expr_again (Literal literal) is = factor_again (Literal literal) is
expr_again (ColumnOf column) is = factor_again (ColumnOf column) is
expr_again (Operator op left right) is = factor_again (Operator op left right) is
expr_again (AggregateAll f) is = absurd is
expr_again (Aggregate f of) is = absurd is

of_all_rows : (f : AggOp) → IsPrintableValue (AggregateAll f) → AggregateAll aggregate.Count ≡ AggregateAll f
of_all_rows aggregate.Count is = refl
of_all_rows aggregate.Sum is = absurd is
of_all_rows aggregate.Min is = absurd is
of_all_rows aggregate.Max is = absurd is

value_again : (e : ExprTree) (is : IsPrintableValue e) → value_of (canon_value e is) ≡ e
value_again (Literal literal) is = expr_again (Literal literal) is
value_again (ColumnOf column) is = expr_again (ColumnOf column) is
value_again (Operator op left right) is = expr_again (Operator op left right) is
value_again (AggregateAll f) is = of_all_rows f is
value_again (Aggregate f of) is = ap (Aggregate f) (expr_again of is)

value_operand_again : (e : ExprTree) (is : IsPrintableValue e) → value_of (canon_value_operand e is) ≡ e
value_operand_again (Literal literal) is = operand_again (Literal literal) is
value_operand_again (ColumnOf column) is = operand_again (ColumnOf column) is
value_operand_again (Operator op left right) is = operand_again (Operator op left right) is
value_operand_again (AggregateAll f) is = of_all_rows f is
value_operand_again (Aggregate f of) is = ap (Aggregate f) (expr_again of is)

-- ## Conditions

cmp_again : (op : CmpOp) → cmp_of (canon_cmp op) ≡ op
cmp_again compare.Eq = refl
cmp_again compare.Ne = refl
cmp_again compare.Lt = refl
cmp_again compare.Le = refl
cmp_again compare.Gt = refl
cmp_again compare.Ge = refl

module _ {E : Type 0} (P : ExprTree → Type 0) (canon : (e : ExprTree) → P e → E) (tree : E → ExprTree) (again : (e : ExprTree) (is : P e) → tree (canon e is) ≡ e) where
  mutual
    cond_again : (c : CondTree) (is : IsPrintableCond P c) → cond_of tree (canon_cond P canon c is) ≡ c
    cond_again (Compare op left right) is = λ i. Compare (cmp_again op i) (again left is.0 i) (again right is.1 i)
    cond_again (Within of low high) is = λ i. Within (again of is.0 i) (again low is.1 i) (again high is.2 i)
    cond_again (IsNull of) is = ap IsNull (again of is)
    cond_again (Negation c) is = ap Negation (part_again c is)
    cond_again (Both left right) is = λ i. Both (part_again left is.0 i) (part_again right is.1 i)
    cond_again (Either left right) is = λ i. Either (cond_again left is.0 i) (cond_again right is.1 i)

    part_again : (c : CondTree) (is : IsPrintableCond P c) → unit_of tree (canon_part P canon c is) ≡ c
    part_again (Compare op left right) is = λ i. Compare (cmp_again op i) (again left is.0 i) (again right is.1 i)
    part_again (Within of low high) is = λ i. Within (again of is.0 i) (again low is.1 i) (again high is.2 i)
    part_again (IsNull of) is = ap IsNull (again of is)
    part_again (Negation c) is = ap Negation (part_again c is)
    part_again (Both left right) is = λ i. Both (part_again left is.0 i) (part_again right is.1 i)
    part_again (Either left right) is = λ i. Either (cond_again left is.0 i) (cond_again right is.1 i)

where_again : (c : CondTree) (is : IsPrintableWhere c) → where_of (canon_where c is) ≡ c
where_again c is = cond_again IsPrintableExpr canon_operand expr_of operand_again c is

having_again : (c : CondTree) (is : IsPrintableHaving c) → cond_of value_of (canon_having c is) ≡ c
having_again c is = cond_again IsPrintableValue canon_value_operand value_of value_operand_again c is

-- ## Queries

alias_again : (alias : Option (List ℕ)) → alias_of (canon_alias alias) ≡ alias
alias_again None = refl
alias_again (Some alias) = ap Some (name_again alias)

item_again : (item : ItemTree) (is : IsPrintableItem item) → item_of (canon_item item is) ≡ item
item_again item is = λ i. record { expr = value_again item.expr is.0 i; alias = alias_again item.alias i }

items_again : (items : List ItemTree) (each : AllByRecursion IsPrintableItem items) → items_of (canon_items items each) ≡ items
items_again [] each = refl
items_again (item ∷ items) each = λ i. item_again item each.0 i ∷ all_again IsPrintableItem canon_item item_of item_again items each.1 i

source_again : (source : FromItem) → source_of (canon_source source) ≡ source
source_again source = λ i. record { table = name_again source.table i; alias = alias_again source.alias i }

joins_again : (froms : List FromItem) → map joined_source (map canon_join froms) ≡ froms
joins_again [] = refl
joins_again (from ∷ froms) = λ i. source_again from i ∷ joins_again froms i

sources_again : (froms : List FromItem) (each : EachOfSome IsPrintableSource froms) → source_of (canon_sources froms each).0 ∷ map joined_source (canon_sources froms each).1 ≡ froms
sources_again [] each = absurd each
sources_again (from ∷ froms) each = λ i. source_again from i ∷ joins_again froms i

-- commas bring no conditions
no_conds : (so_far : Option CondTree) (froms : List FromItem) → on_conds so_far (map canon_join froms) ≡ so_far
no_conds so_far [] = refl
no_conds so_far (from ∷ froms) = no_conds so_far froms

sources_no_conds : (froms : List FromItem) (each : EachOfSome IsPrintableSource froms) → on_conds None (canon_sources froms each).1 ≡ None
sources_no_conds [] each = absurd each
sources_no_conds (from ∷ froms) each = no_conds None froms

with_where_alone : (o : Option WhereRule) → with_where None o ≡ option_map where_of o
with_where_alone None = refl
with_where_alone (Some cond) = refl

column_again : (column : ColRef) (is : IsReference column) → column_of (canon_column_of column is) ≡ column
column_again column is = reference_again column

place_again : (place : Place) → IsPrintablePlace place → place_of (canon_place place) ≡ place
place_again (Position n) is = ap Position (digits_again n (omega (arith, below_limit n is)))
place_again (Named column) is = ap Named (reference_again column)

order_again : (ascending : Bool) → is_ascending (canon_order ascending) ≡ ascending
order_again true = refl
order_again false = refl

key_again : (key : SortKey) (is : IsPrintableKey key) → key_of (canon_key key is) ≡ key
key_again key is = λ i. record { at = place_again key.at is i; ascending = order_again key.ascending i }

limit_again : (limit : Option ℕ) → IfThere IsPrintableLimit limit → option_map number_of (canon_limit limit) ≡ limit
limit_again None is = refl
limit_again (Some n) is = ap Some (digits_again n (omega (arith, below_limit n is)))

query_again : (query : QueryTree) (is : IsPrintableQuery query) → query_of (canon_query query is) ≡ query
query_again query is =
    let cond_is : with_where (on_conds None (canon_sources query.froms is.froms_are).1) (canon_from query is).cond ≡ query.cond =
    ap (λ so_far. with_where so_far (canon_from query is).cond) (sources_no_conds query.froms is.froms_are)
    ∙ with_where_alone (canon_from query is).cond
    ∙ option_again IsPrintableWhere canon_where where_of where_again query.cond is.cond_is in
    λ i. record {
      distinct = query.distinct;
      items = items_again query.items is.items_are i;
      froms = sources_again query.froms is.froms_are i;
      cond = cond_is i;
      groups = any_again IsReference canon_column_of column_of column_again query.groups is.groups_are i;
      having = option_again IsPrintableHaving canon_having (cond_of value_of) having_again query.having is.having_is i;
      keys = any_again IsPrintableKey canon_key key_of key_again query.keys is.keys_are i;
      limit = limit_again query.limit is.limit_is i;
    }

-- ## Statements

-- a length that is one
text_type_is : (width : ℕ) → IsPrintableKind kind.Text width → (kind_of (canon_type kind.Text width) ≡ kind.Text) × (width_of (canon_type kind.Text width) ≡ width)
text_type_is width is = by_zero (width == 0) refl
  where
    by_zero : (b : Bool) → (width == 0) ≡ b → (kind_of (canon_type kind.Text width) ≡ kind.Text) × (width_of (canon_type kind.Text width) ≡ width)
    by_zero true e = let none : width ≡ 0 = eqb-true width 0 e in rw none (refl, refl)
    by_zero false e =
        let number : number_of (decimal width) ≡ width = digits_again width (omega (arith, is)) in
        let length : length_of (number_of (decimal width)) ≡ width = ap length_of number ∙ ap (λ b. cond b 65536 width) e in
        rw e (refl, length)

kind_again : (k : Kind) (width : ℕ) → IsPrintableKind k width → kind_of (canon_type k width) ≡ k
kind_again kind.Int width is = refl
kind_again kind.Text width is = (text_type_is width is).0
kind_again kind.Day width is = refl
kind_again kind.Huge width is = absurd is
kind_again kind.Bit width is = absurd is
kind_again kind.Oid width is = absurd is

width_again : (k : Kind) (width : ℕ) → IsPrintableKind k width → width_of (canon_type k width) ≡ width
width_again kind.Int width is = sym is
width_again kind.Text width is = (text_type_is width is).1
width_again kind.Day width is = sym is
width_again kind.Huge width is = absurd is
width_again kind.Bit width is = absurd is
width_again kind.Oid width is = absurd is

required_again : (required : Bool) (default : Cell) (is : IsLiteral default) → is_required (canon_end required default is) ≡ required
required_again true cell.Nil is = refl
required_again false cell.Nil is = refl
required_again true default is = refl
required_again false default is = refl

default_again : (required : Bool) (default : Cell) (is : IsLiteral default) → default_of (canon_end required default is) ≡ default
default_again true cell.Nil is = refl
default_again false cell.Nil is = refl
default_again true default is = literal_again default is
default_again false default is = literal_again default is

coldef_again : (column : Column) (is : IsPrintableColumn column) → coldef_of (canon_coldef column is) ≡ column
coldef_again column is = λ i. record {
  name = name_again column.name i;
  kind = kind_again column.kind column.width is.1 i;
  width = width_again column.kind column.width is.1 i;
  not_null = required_again column.not_null column.default is.2 i;
  default = default_again column.not_null column.default is.2 i;
}

listed_name_again : (name : List ℕ) (is : IsName name) → name_of (canon_listed_name name is) ≡ name
listed_name_again name is = name_again name

row_again : (row : List Cell) (each : EachOfSome IsLiteral row) → row_of (canon_row row each) ≡ row
row_again row each = some_again IsLiteral canon_literal literal_cell literal_again row each

set_again : (set : List ℕ × ExprTree) (is : IsPrintableSet set) → set_of (canon_set set is) ≡ set
set_again set is = λ i. (name_again set.0 i, expr_again set.1 is.1 i)

pub stmt_again : (s : StmtTree) (is : IsPrintable s) → stmt_of (canon_stmt s is) ≡ s
stmt_again (CreateTable table columns) is = λ i. CreateTable (name_again table i) (some_again IsPrintableColumn canon_coldef coldef_of coldef_again columns is.1 i)
stmt_again (DropTable table) is = ap DropTable (name_again table)
stmt_again (AlterTable table column) is = λ i. AlterTable (name_again table i) (coldef_again column is.1 i)
stmt_again (InsertInto table columns rows) is = λ i. InsertInto (name_again table i) (any_again IsName canon_listed_name name_of listed_name_again columns is.1 i) (some_again (EachOfSome IsLiteral) canon_row row_of row_again rows is.2 i)
stmt_again (DeleteFrom table cond) is = λ i. DeleteFrom (name_again table i) (option_again IsPrintableWhere canon_where where_of where_again cond is.1 i)
stmt_again (UpdateTable table sets cond) is = λ i. UpdateTable (name_again table i) (some_again IsPrintableSet canon_set set_of set_again sets is.1 i) (option_again IsPrintableWhere canon_where where_of where_again cond is.2 i)
stmt_again (Select query) is = ap Select (query_again query is)
stmt_again (ExplainSelect query) is = ap ExplainSelect (query_again query is)

pub printed_derives_of : PrintedDerives
printed_derives_of s is = record { rule = canon_stmt s is; tokens_are = refl; statement_is = stmt_again s is }
