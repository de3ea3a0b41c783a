-- The tokens of a statement as it is printed are not too deep, where the statement passes no limit.
use Rattle.std.proofs.Common.{◌≡◌, ℕ, ◌≤◌, ◌==◌, List, [], ◌∷◌, ◌++◌, map, Bool, true, false, Option, Some, None, cond, arith}
use Rattle.std.specs.Prelude.{nat_lt, decimal}
use Rattle.std.specs.List.{AllByRecursion, list_any}
use Rattle.std.proofs.lemmas.Bool.{or_parts}
use Rattle.std.proofs.lemmas.Bool.Decides.{nat_tests}
use Rattle.cell_core.specs.declared.cell.Cell.{Cell}
use Rattle.cell_core.specs.declared.cell.Cell.TheVariants as cell
use Rattle.cell_core.specs.declared.cell.Kind.{Kind}
use Rattle.cell_core.specs.declared.cell.Kind.TheVariants as kind
use Rattle.cell_core.specs.declared.table.Column.{Column}
use Rattle.sql_grammar.specs.Grammar.{sign, write_behind, write_name, write_literal, write_column, write_where, write_cond, write_value}
use Rattle.sql_tree.specs.Exprs.{exprs_of_cond}
use Rattle.sql_grammar.specs.Refused.{expr_nodes, is_too_deep, nodes_of_cond, stmt_exprs, passes_conditions}
use Rattle.sql_grammar.specs.Statements.{write_alias, write_item, write_items, write_source, write_joins, write_place, write_order, write_key, write_digits, write_distinct, write_from, write_query, write_type, write_not_null, write_default, write_end, write_coldef, write_set, write_column_list, write_row, write_stmt}
use Rattle.sql_grammar.specs.Statements.TypeRule.{TextType, VarcharType}
use Rattle.sql_grammar.specs.Written.{IsLiteral}
use Rattle.sql_print_laws.proofs.LevelLemmas.{Deep, Level, flat, denial, enclosed, deeper, levelled, then, levels, both, no_more, shallow, more_level, some_deep, any_level, all_true}
use Rattle.sql_print_laws.proofs.LevelTrees.{name_deep, literal_deep, reference_deep, Small, small_expr_deep, value_deep, where_deep, having_deep}
use Rattle.sql_print_laws.proofs.NamedLemmas.{all_parts, all_mapped, none_of}
use Rattle.sql_print_laws.specs.CanonRules.{canon_any, canon_option, canon_where, canon_having, canon_alias, canon_item, canon_items, canon_source, canon_join, canon_column_of, canon_place, canon_order, canon_key, canon_limit, canon_sources, canon_from, canon_query, canon_literal, canon_type, canon_end, canon_coldef, canon_listed_name, canon_row, canon_set, canon_stmt}
use Rattle.sql_print_laws.specs.Printable.{EachOfSome, IfThere, IsName, IsReference, IsPrintableWhere, IsPrintableHaving, IsPrintableItem, IsPrintableKey, IsPrintableSource, IsPrintableQuery, IsPrintableColumn, IsPrintableSet, IsPrintable}
use Rattle.sql_tree.specs.Tree.{ExprTree, CondTree, ItemTree, QueryTree, StmtTree}
use Rattle.sql_tree.specs.Tree.StmtTree.{CreateTable, DropTable, AlterTable, InsertInto, DeleteFrom, UpdateTable, Select, ExplainSelect}
use Rattle.sql_tree.specs.declared.token.Keyword.TheVariants as word
use Rattle.sql_tree.specs.declared.token.Symbol.TheVariants as symbol
use Rattle.sql_tree.specs.declared.token.Token.{Token}
use Rattle.sql_tree.specs.declared.token.Token.TheVariants.{Digits, Key}
use Rattle.sql_tree.specs.declared.tree.ColRef.{ColRef}
use Rattle.sql_tree.specs.declared.tree.FromItem.{FromItem}
use Rattle.sql_tree.specs.declared.tree.Place.{Place}
use Rattle.sql_tree.specs.declared.tree.Place.TheVariants.{Position, Named}
use Rattle.sql_tree.specs.declared.tree.SortKey.{SortKey}

at_most : (n : ℕ) → nat_lt 128 n ≡ false → n ≤ 128
at_most n h = grind (arith, nat_tests)

-- ## Queries

alias_level : (alias : Option (List ℕ)) → Level 385 (write_alias (canon_alias alias))
alias_level None = no_more
alias_level (Some alias) = levelled (both (flat (Key word.As) (λ o r s h. h)) (name_deep 385 alias))

abbrev SmallItem : ItemTree → Type 0
SmallItem item = Small item.expr

item_deep : (item : ItemTree) (is : IsPrintableItem item) → SmallItem item → Deep 385 (write_item (canon_item item is))
item_deep item is small = then (deeper (value_deep item.expr is.0 small) (omega arith)) (alias_level item.alias)

items_deep : (items : List ItemTree) (each : AllByRecursion IsPrintableItem items) → AllByRecursion SmallItem items → Deep 385 (write_items (canon_items items each))
items_deep [] each small = flat (sign symbol.Star) (λ o r s h. h)
items_deep (item ∷ items) each small = then (item_deep item each.0 small.0) (more_level IsPrintableItem canon_item write_item SmallItem 385 item_deep items each.1 small.1)

distinct_level : (distinct : Bool) → Level 385 (write_distinct distinct)
distinct_level true = levelled (flat (Key word.Distinct) (λ o r s h. h))
distinct_level false = no_more

source_deep : (source : FromItem) → Deep 385 (write_source (canon_source source))
source_deep source = then (name_deep 385 source.table) (alias_level source.alias)

joins_level : (froms : List FromItem) → Level 385 (write_joins (map canon_join froms))
joins_level [] = no_more
joins_level (from ∷ froms) = levels (levelled (both (flat (sign symbol.Comma) (λ o r s h. h)) (source_deep from))) (joins_level froms)

froms_level : (froms : List FromItem) (each : EachOfSome IsPrintableSource froms) → Level 385 (λ ts. Key word.From ∷ write_source (canon_sources froms each).0 (write_joins (canon_sources froms each).1 ts))
froms_level [] each = absurd each
froms_level (from ∷ froms) each = levelled (both (flat (Key word.From) (λ o r s h. h)) (then (source_deep from) (joins_level froms)))

where_level : (o : Option CondTree) (is : IfThere IsPrintableWhere o) → AllByRecursion Small (exprs_of_cond o) → nodes_of_cond o ≤ 128 → Level 385 (write_behind write_where (word.Where ∷ []) (canon_option IsPrintableWhere canon_where o is))
where_level None is small h = no_more
where_level (Some c) is small h = levelled (both (flat (Key word.Where) (λ o r s h. h)) (deeper (where_deep c is small) (omega arith)))

having_level : (o : Option CondTree) (is : IfThere IsPrintableHaving o) → AllByRecursion Small (exprs_of_cond o) → nodes_of_cond o ≤ 128 → Level 385 (write_behind (write_cond write_value) (word.Having ∷ []) (canon_option IsPrintableHaving canon_having o is))
having_level None is small h = no_more
having_level (Some c) is small h = levelled (both (flat (Key word.Having) (λ o r s h. h)) (deeper (having_deep c is small) (omega arith)))

column_deep : (column : ColRef) (is : IsReference column) → Unit {0} → Deep 385 (write_column (canon_column_of column is))
column_deep column is small = reference_deep 385 column

place_deep : (place : Place) → Deep 385 (write_place (canon_place place))
place_deep (Position n) = flat (Digits (decimal n)) (λ o r s h. h)
place_deep (Named column) = reference_deep 385 column

order_level : (ascending : Bool) → Level 385 (write_order (canon_order ascending))
order_level true = no_more
order_level false = levelled (flat (Key word.Desc) (λ o r s h. h))

key_deep : (key : SortKey) (is : IsPrintableKey key) → Unit {0} → Deep 385 (write_key (canon_key key is))
key_deep key is small = then (place_deep key.at) (order_level key.ascending)

limit_level : (limit : Option ℕ) → Level 385 (write_behind write_digits (word.Limit ∷ []) (canon_limit limit))
limit_level None = no_more
limit_level (Some n) = levelled (both (flat (Key word.Limit) (λ o r s h. h)) (flat (Digits (decimal n)) (λ o r s h. h)))

two_words : (word_one word_two : Token) → Deep 385 (λ ts. word_one ∷ ts) → Deep 385 (λ ts. word_two ∷ ts) → Deep 385 (λ ts. word_one ∷ word_two ∷ ts)
two_words word_one word_two x y = both x y

from_level : (query : QueryTree) (is : IsPrintableQuery query) → AllByRecursion Small (exprs_of_cond query.cond) → AllByRecursion Small (exprs_of_cond query.having) → nodes_of_cond query.cond ≤ 128 → nodes_of_cond query.having ≤ 128 → Level 385 (write_from (canon_from query is))
from_level query is small_cond small_having few_cond few_having =
    levels (froms_level query.froms is.froms_are)
    (levels (where_level query.cond is.cond_is small_cond few_cond)
    (levels (any_level IsReference canon_column_of write_column (λ x. Unit {0}) 385 column_deep (word.Group ∷ word.By ∷ []) (two_words (Key word.Group) (Key word.By) (flat (Key word.Group) (λ o r s h. h)) (flat (Key word.By) (λ o r s h. h))) query.groups is.groups_are (all_true query.groups))
    (levels (having_level query.having is.having_is small_having few_having)
    (levels (any_level IsPrintableKey canon_key write_key (λ x. Unit {0}) 385 key_deep (word.Order ∷ word.By ∷ []) (two_words (Key word.Order) (Key word.By) (flat (Key word.Order) (λ o r s h. h)) (flat (Key word.By) (λ o r s h. h))) query.keys is.keys_are (all_true query.keys))
    (limit_level query.limit)))))

query_deep : (query : QueryTree) (is : IsPrintableQuery query) → passes_conditions (Select query) ≡ false → AllByRecursion Small (stmt_exprs (Select query)) → Deep 385 (write_query (canon_query query is))
query_deep query is few small =
    let parts = all_parts Small (map (λ (item : ItemTree). item.expr) query.items ++ exprs_of_cond query.cond) (exprs_of_cond query.having) small in
    let front = all_parts Small (map (λ (item : ItemTree). item.expr) query.items) (exprs_of_cond query.cond) parts.0 in
    let passed = or_parts (nat_lt 128 (nodes_of_cond query.cond)) (nat_lt 128 (nodes_of_cond query.having)) few in
    then (flat (Key word.Select) (λ o r s h. h)) (levels (distinct_level query.distinct)
    (levels (levelled (items_deep query.items is.items_are (all_mapped Small (λ (item : ItemTree). item.expr) query.items front.0)))
    (from_level query is front.1 parts.1 (at_most (nodes_of_cond query.cond) passed.0) (at_most (nodes_of_cond query.having) passed.1))))

-- ## Columns of CREATE and ALTER, rows of INSERT and sets of UPDATE

text_type_deep : (width : ℕ) → Deep 384 (write_type (canon_type kind.Text width))
text_type_deep width =
    elim (width == 0) as (λ b. Deep 384 (write_type (cond b TextType (VarcharType (decimal width))))) [
      | true ↦ flat (Key word.Text) (λ o r s h. h)
      | false ↦ both (flat (Key word.Varchar) (λ o r s h. h)) (enclosed (flat {d = 383} (Digits (decimal width)) (λ o r s h. h)))
    ]

type_deep : (k : Kind) (width : ℕ) → Deep 384 (write_type (canon_type k width))
type_deep kind.Int width = flat (Key word.Int) (λ o r s h. h)
type_deep kind.Text width = text_type_deep width
type_deep kind.Day width = flat (Key word.Date) (λ o r s h. h)
type_deep kind.Huge width = flat (Key word.Int) (λ o r s h. h)
type_deep kind.Bit width = flat (Key word.Int) (λ o r s h. h)
type_deep kind.Oid width = flat (Key word.Int) (λ o r s h. h)

not_null_level : Level 384 write_not_null
not_null_level = levelled (denial (flat {d = 383} (Key word.Null) (λ o r s h. h)))

default_level : (default : Cell) (is : IsLiteral default) → Level 384 (write_default (canon_literal default is))
default_level default is = levelled (both (flat (Key word.Default) (λ o r s h. h)) (deeper (literal_deep default is) (omega arith)))

end_level : (required : Bool) (default : Cell) (is : IsLiteral default) → Level 384 (write_end (canon_end required default is))
end_level true cell.Nil is = not_null_level
end_level false cell.Nil is = no_more
end_level true default is = levels not_null_level (default_level default is)
end_level false default is = default_level default is

coldef_deep : (column : Column) (is : IsPrintableColumn column) → Unit {0} → Deep 384 (write_coldef (canon_coldef column is))
coldef_deep column is small = both (name_deep 384 column.name) (then (type_deep column.kind column.width) (end_level column.not_null column.default is.2))

cell_deep : (c : Cell) (is : IsLiteral c) → Unit {0} → Deep 1 (write_literal (canon_literal c is))
cell_deep c is small = literal_deep c is

row_deep : (row : List Cell) (each : EachOfSome IsLiteral row) → Unit {0} → Deep 385 (write_row (canon_row row each))
row_deep row each small = deeper (enclosed (some_deep IsLiteral canon_literal write_literal (λ x. Unit {0}) 1 cell_deep row each (all_true row))) (omega arith)

listed_name_deep : (name : List ℕ) (is : IsName name) → Unit {0} → Deep 384 (write_name (canon_listed_name name is))
listed_name_deep name is small = name_deep 384 name

column_list_level : (columns : List (List ℕ)) (each : AllByRecursion IsName columns) → Level 385 (write_column_list (canon_any IsName canon_listed_name columns each))
column_list_level [] each = no_more
column_list_level (name ∷ names) each = levelled (enclosed (some_deep IsName canon_listed_name write_name (λ x. Unit {0}) 384 listed_name_deep (name ∷ names) each (all_true (name ∷ names))))

abbrev SmallSet : List ℕ × ExprTree → Type 0
SmallSet set = Small set.1

set_deep : (set : List ℕ × ExprTree) (is : IsPrintableSet set) → SmallSet set → Deep 385 (write_set (canon_set set is))
set_deep set is small = both (name_deep 385 set.0) (both (flat (sign symbol.Equal) (λ o r s h. h)) (deeper (small_expr_deep set.1 is.1 small) (omega arith)))

-- ## Statements

stmt_shallow : (s : StmtTree) (is : IsPrintable s) → passes_conditions s ≡ false → AllByRecursion Small (stmt_exprs s) → is_too_deep [] 0 (write_stmt (canon_stmt s is)) ≡ false
stmt_shallow (CreateTable table columns) is few small =
    shallow (both (flat (Key word.Create) (λ o r s h. h)) (both (flat (Key word.Table) (λ o r s h. h)) (both (name_deep 385 table)
    (enclosed (some_deep IsPrintableColumn canon_coldef write_coldef (λ x. Unit {0}) 384 coldef_deep columns is.1 (all_true columns)))))) (omega arith)
stmt_shallow (DropTable table) is few small = shallow (both (flat (Key word.Drop) (λ o r s h. h)) (both (flat (Key word.Table) (λ o r s h. h)) (name_deep 385 table))) (omega arith)
stmt_shallow (AlterTable table column) is few small =
    shallow (both (flat (Key word.Alter) (λ o r s h. h)) (both (flat (Key word.Table) (λ o r s h. h)) (both (name_deep 384 table)
    (both (flat (Key word.Add) (λ o r s h. h)) (both (flat (Key word.Column) (λ o r s h. h)) (coldef_deep column is.1 tt)))))) (omega arith)
stmt_shallow (InsertInto table columns rows) is few small =
    shallow (both (flat (Key word.Insert) (λ o r s h. h)) (both (flat (Key word.Into) (λ o r s h. h)) (then (name_deep 385 table) (levels (column_list_level columns is.1)
    (levelled (both (flat (Key word.Values) (λ o r s h. h)) (some_deep (EachOfSome IsLiteral) canon_row write_row (λ x. Unit {0}) 385 row_deep rows is.2 (all_true rows)))))))) (omega arith)
stmt_shallow (DeleteFrom table cond) is few small =
    shallow (both (flat (Key word.Delete) (λ o r s h. h)) (both (flat (Key word.From) (λ o r s h. h)) (then (name_deep 385 table) (where_level cond is.1 small (at_most (nodes_of_cond cond) few))))) (omega arith)
stmt_shallow (UpdateTable table sets cond) is few small =
    let parts = all_parts Small (map (λ (set : List ℕ × ExprTree). set.1) sets) (exprs_of_cond cond) small in
    shallow (both (flat (Key word.Update) (λ o r s h. h)) (both (name_deep 385 table) (both (flat (Key word.Set) (λ o r s h. h))
    (then (some_deep IsPrintableSet canon_set write_set SmallSet 385 set_deep sets is.1 (all_mapped Small (λ (set : List ℕ × ExprTree). set.1) sets parts.0))
    (where_level cond is.2 parts.1 (at_most (nodes_of_cond cond) few)))))) (omega arith)
stmt_shallow (Select query) is few small = shallow (query_deep query is few small) (omega arith)
stmt_shallow (ExplainSelect query) is few small = shallow (both (flat (Key word.Explain) (λ o r s h. h)) (query_deep query is few small)) (omega arith)

-- within the limits of conditions and expressions no token is too deep
pub not_too_deep_of : (s : StmtTree) (is : IsPrintable s) → passes_conditions s ≡ false → list_any (λ e. nat_lt 64 (expr_nodes e)) (stmt_exprs s) ≡ false → is_too_deep [] 0 (write_stmt (canon_stmt s is)) ≡ false
not_too_deep_of s is few small = stmt_shallow s is few (none_of (λ e. nat_lt 64 (expr_nodes e)) (stmt_exprs s) small)
