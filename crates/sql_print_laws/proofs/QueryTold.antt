-- Queries that tokens with names derive, and that have no number past its range.
use Rattle.std.proofs.Common.{◌≡◌, ℕ, List, [], ◌∷◌, ◌++◌, map, Bool, true, false, Option, Some, None, pos}
use Rattle.std.specs.List.{AllByRecursion, list_any}
use Rattle.std.proofs.lemmas.Bool.{or_parts}
use Rattle.sql_grammar.specs.Grammar.{number_of, write_behind, write_some, write_column, column_of, write_value, value_of, write_cond, cond_of, WhereRule, write_where, where_of}
use Rattle.sql_tree.specs.Exprs.{exprs_of_cond}
use Rattle.sql_grammar.specs.Refused.{query_left_out, stmt_exprs, has_wide_literal, is_wide_place, is_wide_limit, has_wide_number, passes_literal}
use Rattle.sql_grammar.specs.Statements.{write_alias, alias_of, write_item, item_of, ItemsRule, write_items, items_of, write_source, source_of, JoinRule, write_joins, joined_source, and_also, on_conds, with_where, OrderRule, write_order, write_key, key_of, FromRule, write_digits, write_from, write_distinct, write_optional_from, query_from, QueryRule, write_query, query_of}
use Rattle.sql_grammar.specs.Statements.AliasRule.{NoAlias, BareAlias, AsAlias}
use Rattle.sql_grammar.specs.Statements.ItemsRule.{AllColumns, SomeItems}
use Rattle.sql_grammar.specs.Statements.JoinRule.{CommaSource, JoinOn}
use Rattle.sql_grammar.specs.Statements.PlaceRule.{PositionKey, ColumnKey}
use Rattle.sql_grammar.specs.Statements.OrderRule.{NoOrder, AscOrder, DescOrder}
use Rattle.sql_print_laws.proofs.NumberLemmas.{in_range}
use Rattle.sql_print_laws.proofs.ExprTold.{NotWide, value_told, FineCond, FineWhere, FineHaving, where_told, having_told}
use Rattle.sql_print_laws.proofs.NamedLemmas.{Named, all_parts, all_mapped, all_meet, none_of, IsTold, some_told, any_told, option_told, name_told, column_told}
use Rattle.sql_print_laws.specs.Printable.{EachOfSome, IfThere, IsName, IsReference, IsPrintableExpr, IsPrintableValue, IsPrintableCond, IsPrintableWhere, IsPrintableItem, IsPrintableSource, IsPrintableKey, IsPrintableLimit, IsPrintableQuery}
use Rattle.sql_tree.specs.Tree.{ExprTree, CondTree, ItemTree, QueryTree}
use Rattle.sql_tree.specs.Tree.StmtTree.{Select}
use Rattle.sql_tree.specs.declared.token.Keyword.TheVariants as word
use Rattle.sql_tree.specs.declared.token.Token.{Token}
use Rattle.sql_tree.specs.declared.token.Token.TheVariants.{Key}
use Rattle.sql_tree.specs.declared.tree.SortKey.{SortKey}

-- ## Items, tables and keys

alias_told : IsTold write_alias alias_of (IfThere IsName)
alias_told NoAlias rest h = (tt, h)
alias_told (BareAlias name) rest h = name_told name rest h
alias_told (AsAlias name) rest h = name_told name rest h.1

abbrev FineItem : ItemTree → Type 0
FineItem item = NotWide item.expr → IsPrintableItem item

item_told : IsTold write_item item_of FineItem
item_told item rest h =
    let x = value_told item.0 (write_alias item.1 rest) h in
    let y = alias_told item.1 rest x.1 in
    (λ w. (x.0 w, y.0), y.1)

items_told : (r : ItemsRule) (rest : List Token) → Named (write_items r rest) → AllByRecursion FineItem (items_of r) × Named rest
items_told AllColumns rest h = (tt, h.1)
items_told (SomeItems items) rest h = some_told write_item item_of FineItem item_told items rest h

source_told : IsTold write_source source_of IsPrintableSource
source_told source rest h =
    let x = name_told source.0 (write_alias source.1 rest) h in
    let y = alias_told source.1 rest x.1 in
    ((x.0, y.0), y.1)

and_also_fine : (so_far : Option CondTree) (c : CondTree) → IfThere FineWhere so_far → FineWhere c → IfThere FineWhere (and_also so_far c)
and_also_fine None c x y = y
and_also_fine (Some left) c x y = λ w. let parts = all_parts NotWide _ _ w in (x parts.0, y parts.1)

joins_told : (joins : List JoinRule) (so_far : Option CondTree) (rest : List Token) → IfThere FineWhere so_far → Named (write_joins joins rest) → AllByRecursion IsPrintableSource (map joined_source joins) × IfThere FineWhere (on_conds so_far joins) × Named rest
joins_told [] so_far rest x h = (tt, x, h)
joins_told (CommaSource source ∷ joins) so_far rest x h =
    let y = source_told source (write_joins joins rest) h.1 in
    let more = joins_told joins so_far rest x y.1 in
    ((y.0, more.0), more.1, more.2)
joins_told (JoinOn true source on ∷ joins) so_far rest x h =
    let y = source_told source (Key word.On ∷ write_where on (write_joins joins rest)) h.1.1 in
    let z = where_told on (write_joins joins rest) y.1.1 in
    let more = joins_told joins (and_also so_far (where_of on)) rest (and_also_fine so_far (where_of on) x z.0) z.1 in
    ((y.0, more.0), more.1, more.2)
joins_told (JoinOn false source on ∷ joins) so_far rest x h =
    let y = source_told source (Key word.On ∷ write_where on (write_joins joins rest)) h.1 in
    let z = where_told on (write_joins joins rest) y.1.1 in
    let more = joins_told joins (and_also so_far (where_of on)) rest (and_also_fine so_far (where_of on) x z.0) z.1 in
    ((y.0, more.0), more.1, more.2)

with_where_told : (so_far : Option CondTree) (o : Option WhereRule) (rest : List Token) → IfThere FineWhere so_far → Named (write_behind write_where (word.Where ∷ []) o rest) → IfThere FineWhere (with_where so_far o) × Named rest
with_where_told so_far None rest x h = (x, h)
with_where_told so_far (Some c) rest x h = let y = where_told c rest h.1 in (and_also_fine so_far (where_of c) x y.0, y.1)

abbrev FineKey : SortKey → Type 0
FineKey key = is_wide_place key.at ≡ false → IsPrintableKey key

order_told : (r : OrderRule) (rest : List Token) → Named (write_order r rest) → Named rest
order_told NoOrder rest h = h
order_told AscOrder rest h = h.1
order_told DescOrder rest h = h.1

key_told : IsTold write_key key_of FineKey
key_told (PositionKey digits, order) rest h = (λ w. in_range (pos (number_of digits)) w, order_told order rest h.1)
key_told (ColumnKey column, order) rest h = let x = column_told column (write_order order rest) h in (λ w. x.0, order_told order rest x.1)

limit_fine : (o : Option ℕ) → is_wide_limit o ≡ false → IfThere IsPrintableLimit o
limit_fine None w = tt
limit_fine (Some n) w = in_range (pos n) w

-- ## Queries

-- the parts of a query that its tokens determine
record FineFrom (query : QueryTree) : Type 0 where
  froms_are : EachOfSome IsPrintableSource query.froms
  cond_is : IfThere FineWhere query.cond
  groups_are : AllByRecursion IsReference query.groups
  having_is : IfThere FineHaving query.having
  keys_are : AllByRecursion FineKey query.keys

from_told : (distinct : Bool) (items : List ItemTree) (from : FromRule) → Named (write_from from []) → FineFrom (query_from distinct items (Some from))
from_told distinct items from h =
    let last = write_behind write_digits (word.Limit ∷ []) from.limit [] in
    let keys = write_behind (write_some write_key) (word.Order ∷ word.By ∷ []) from.keys last in
    let having = write_behind (write_cond write_value) (word.Having ∷ []) from.having keys in
    let groups = write_behind (write_some write_column) (word.Group ∷ word.By ∷ []) from.groups having in
    let conds = write_behind write_where (word.Where ∷ []) from.cond groups in
    let s = source_told from.source (write_joins from.joins conds) h.1 in
    let j = joins_told from.joins None conds tt s.1 in
    let c = with_where_told (on_conds None from.joins) from.cond groups j.1 j.2 in
    let g = any_told write_column column_of IsReference column_told (word.Group ∷ word.By ∷ []) from.groups having c.1 in
    let b = option_told (write_cond write_value) (cond_of value_of) FineHaving having_told (word.Having ∷ []) from.having keys g.1 in
    let k = any_told write_key key_of FineKey key_told (word.Order ∷ word.By ∷ []) from.keys last b.1 in
    record { froms_are = (s.0, j.0); cond_is = c.0; groups_are = g.0; having_is = b.0; keys_are = k.0 }

cond_fine : (P : ExprTree → Type 0) (o : Option CondTree) → IfThere (FineCond P) o → AllByRecursion NotWide (exprs_of_cond o) → IfThere (IsPrintableCond P) o
cond_fine P None x w = tt
cond_fine P (Some c) x w = x w

pub where_fine : (o : Option CondTree) → IfThere FineWhere o → AllByRecursion NotWide (exprs_of_cond o) → IfThere IsPrintableWhere o
where_fine = cond_fine IsPrintableExpr

-- a query with a FROM
query_fine : (query : QueryTree) → AllByRecursion FineItem query.items → FineFrom query → passes_literal (Select query) ≡ false → IsPrintableQuery query
query_fine query items from narrow =
    let parts = or_parts (list_any has_wide_literal (stmt_exprs (Select query))) (has_wide_number query) narrow in
    let numbers = or_parts (list_any (λ (key : SortKey). is_wide_place key.at) query.keys) (is_wide_limit query.limit) parts.1 in
    let exprs = none_of has_wide_literal (stmt_exprs (Select query)) parts.0 in
    let values = map (λ (item : ItemTree). item.expr) query.items in
    let front = all_parts NotWide (values ++ exprs_of_cond query.cond) (exprs_of_cond query.having) exprs in
    let first = all_parts NotWide values (exprs_of_cond query.cond) front.0 in
    record {
      items_are = all_meet IsPrintableItem (λ item. NotWide item.expr) query.items items (all_mapped NotWide (λ (item : ItemTree). item.expr) query.items first.0);
      froms_are = from.froms_are;
      cond_is = where_fine query.cond from.cond_is first.1;
      groups_are = from.groups_are;
      having_is = cond_fine IsPrintableValue query.having from.having_is front.1;
      keys_are = all_meet IsPrintableKey (λ key. is_wide_place key.at ≡ false) query.keys from.keys_are (none_of (λ (key : SortKey). is_wide_place key.at) query.keys numbers.0);
      limit_is = limit_fine query.limit numbers.1;
    }

distinct_told : (distinct : Bool) (rest : List Token) → Named (write_distinct distinct rest) → Named rest
distinct_told true rest h = h.1
distinct_told false rest h = h

by_from : (distinct : Bool) (items : ItemsRule) (from : Option FromRule) → Named (write_items items (write_optional_from from [])) → query_left_out (query_from distinct (items_of items) from) ≡ None → passes_literal (Select (query_from distinct (items_of items) from)) ≡ false → IsPrintableQuery (query_from distinct (items_of items) from)
by_from distinct items None h kept narrow = cc
by_from distinct items (Some from) h kept narrow =
    let x = items_told items (write_from from []) h in
    query_fine (query_from distinct (items_of items) (Some from)) x.0 (from_told distinct (items_of items) from x.1) narrow

-- a query of which nothing is left out has a FROM
pub query_told : (r : QueryRule) → Named (write_query r []) → query_left_out (query_of r) ≡ None → passes_literal (Select (query_of r)) ≡ false → IsPrintableQuery (query_of r)
query_told r h kept narrow = by_from r.distinct r.items r.from (distinct_told r.distinct (write_items r.items (write_optional_from r.from [])) h.1) kept narrow
