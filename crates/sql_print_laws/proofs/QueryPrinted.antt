-- The tokens of lists and of queries as they are printed.
use Rattle.std.proofs.Common.{ℕ, List, [], ◌∷◌, ◌++◌, flat_map, map, Bool, true, false, Option, Some, None, codes, arith}
use Rattle.std.specs.Prelude.{if◌then◌else◌}
use Rattle.std.specs.List.{AllByRecursion}
use Rattle.sql_grammar.specs.Grammar.{write_more, write_some, write_behind, write_column, write_cond, write_value, write_where}
use Rattle.sql_grammar.specs.Statements.{write_alias, write_item, write_items, write_source, write_joins, write_place, write_order, write_key, write_digits, write_distinct, write_query}
use Rattle.sql_print_laws.proofs.NumberLemmas.{below_limit}
use Rattle.sql_print_laws.proofs.CutLemmas.{Lead, Middle, Printed, Tail, lead_lead, lead_then, then_tail, tails, no_tail, middle_lead, middle_then, from_lead, spaced, comma, star_mark}
use Rattle.sql_print_laws.proofs.ExprPrinted.{decimal_printed, reference_printed, value_printed, where_printed, having_printed}
use Rattle.sql_print_laws.proofs.WordLemmas.{key, key_blank, spaced_key, name_printed}
use Rattle.sql_print_laws.specs.CanonRules.{canon_all, canon_some, canon_any, canon_option, canon_where, canon_having, canon_alias, canon_item, canon_items, canon_source, canon_join, canon_column_of, canon_place, canon_order, canon_key, canon_limit, canon_sources, canon_query}
use Rattle.sql_print_laws.specs.Printable.{EachOfSome, IfThere, IsName, IsReference, IsPrintableWhere, IsPrintableHaving, IsPrintableItem, IsPrintableSource, IsPrintablePlace, IsPrintableKey, IsPrintableLimit, IsPrintableQuery}
use Rattle.sql_print.specs.Canon.{listed, listed_behind, reference_text, cond_after, alias_text, item_text, from_text, place_text, key_text, items_text, limit_text, query_text}
use Rattle.sql_tree.specs.Tree.{ItemTree, QueryTree}
use Rattle.sql_tree.specs.declared.token.Keyword.{Keyword}
use Rattle.sql_tree.specs.declared.token.Keyword.TheVariants as word
use Rattle.sql_tree.specs.declared.token.Token.{Token}
use Rattle.sql_tree.specs.declared.token.Token.TheVariants.{Key}
use Rattle.sql_tree.specs.declared.tree.ColRef.{ColRef}
use Rattle.sql_tree.specs.declared.tree.FromItem.{FromItem}
use Rattle.sql_tree.specs.declared.tree.Place.{Place}
use Rattle.sql_tree.specs.declared.tree.Place.TheVariants.{Position, Named}
use Rattle.sql_tree.specs.declared.tree.SortKey.{SortKey}

-- ## Lists and optional parts

module _ {X R : Type 0} (P : X → Type 0) (canon : (x : X) → P x → R) (text : X → List ℕ) (write : R → List Token → List Token) (printed : (x : X) (is : P x) → Printed (text x) (write (canon x is))) where
  more_printed : (xs : List X) (each : AllByRecursion P xs) → Tail (flat_map (λ more. codes ", " ++ more) (map text xs)) (write_more write (canon_all P canon xs each))
  more_printed [] each = no_tail
  more_printed (x ∷ xs) each = tails (middle_then comma (printed x each.0)) (more_printed xs each.1)

  pub some_printed : (xs : List X) (each : EachOfSome P xs) → Printed (listed (map text xs)) (write_some write (canon_some P canon xs each))
  some_printed [] each = absurd each
  some_printed (x ∷ xs) each = then_tail (printed x each.0) (more_printed xs each.1)

  -- after words
  pub any_printed : (words : List Keyword) (before : List ℕ) → Middle before (λ ts. map Key words ++ ts) → (xs : List X) (each : AllByRecursion P xs) → Tail (listed_behind before (map text xs)) (write_behind (write_some write) words (canon_any P canon xs each))
  any_printed words before is [] each = no_tail
  any_printed words before is (x ∷ xs) each = middle_then is (then_tail (printed x each.0) (more_printed xs each.1))

-- ## The part before FROM

alias_printed : (alias : Option (List ℕ)) → IfThere IsName alias → Tail (alias_text alias) (write_alias (canon_alias alias))
alias_printed None is = no_tail
alias_printed (Some alias) is = middle_then (spaced_key word.As) (name_printed alias is)

item_printed : (item : ItemTree) (is : IsPrintableItem item) → Printed (item_text item) (write_item (canon_item item is))
item_printed item is = then_tail (value_printed item.expr is.0) (alias_printed item.alias is.1)

items_printed : (items : List ItemTree) (each : AllByRecursion IsPrintableItem items) → Printed (items_text (map item_text items)) (write_items (canon_items items each))
items_printed [] each = from_lead star_mark
items_printed (item ∷ items) each = then_tail (item_printed item each.0) (more_printed IsPrintableItem canon_item item_text write_item item_printed items each.1)

distinct_printed : (distinct : Bool) → Lead (if distinct then codes "DISTINCT " else []) (write_distinct distinct)
distinct_printed true = key_blank word.Distinct
distinct_printed false = record { lead = λ rest ts cut. cut }

-- ## FROM and what follows it

source_printed : (source : FromItem) → IsPrintableSource source → Printed (from_text source) (write_source (canon_source source))
source_printed source is = then_tail (name_printed source.table is.0) (alias_printed source.alias is.1)

joins_printed : (froms : List FromItem) → AllByRecursion IsPrintableSource froms → Tail (flat_map (λ more. codes ", " ++ more) (map from_text froms)) (write_joins (map canon_join froms))
joins_printed [] each = no_tail
joins_printed (from ∷ froms) each = tails (middle_then comma (source_printed from each.0)) (joins_printed froms each.1)

froms_printed : (froms : List FromItem) (each : EachOfSome IsPrintableSource froms) → Tail (listed_behind (codes " FROM ") (map from_text froms)) (λ ts. Key word.From ∷ write_source (canon_sources froms each).0 (write_joins (canon_sources froms each).1 ts))
froms_printed [] each = absurd each
froms_printed (from ∷ froms) each = middle_then (spaced_key word.From) (then_tail (source_printed from each.0) (joins_printed froms each.1))

pub where_behind : (o : Option _) (is : IfThere IsPrintableWhere o) → Tail (cond_after (codes " WHERE ") o) (write_behind write_where (word.Where ∷ []) (canon_option IsPrintableWhere canon_where o is))
where_behind None is = no_tail
where_behind (Some c) is = middle_then (spaced_key word.Where) (where_printed c is)

having_behind : (o : Option _) (is : IfThere IsPrintableHaving o) → Tail (cond_after (codes " HAVING ") o) (write_behind (write_cond write_value) (word.Having ∷ []) (canon_option IsPrintableHaving canon_having o is))
having_behind None is = no_tail
having_behind (Some c) is = middle_then (spaced_key word.Having) (having_printed c is)

column_printed : (column : ColRef) (is : IsReference column) → Printed (reference_text column) (write_column (canon_column_of column is))
column_printed column is = reference_printed column is

place_printed : (place : Place) → IsPrintablePlace place → Printed (place_text place) (write_place (canon_place place))
place_printed (Position n) is = decimal_printed n (omega (arith, below_limit n is))
place_printed (Named column) is = reference_printed column is

order_printed : (ascending : Bool) → Tail (if ascending then [] else codes " DESC") (write_order (canon_order ascending))
order_printed true = no_tail
order_printed false = spaced (key word.Desc)

key_printed : (k : SortKey) (is : IsPrintableKey k) → Printed (key_text k) (write_key (canon_key k is))
key_printed k is = then_tail (place_printed k.at is) (order_printed k.ascending)

limit_printed : (limit : Option ℕ) → IfThere IsPrintableLimit limit → Tail (limit_text limit) (write_behind write_digits (word.Limit ∷ []) (canon_limit limit))
limit_printed None is = no_tail
limit_printed (Some n) is = middle_then (spaced_key word.Limit) (decimal_printed n (omega (arith, below_limit n is)))

pub query_printed : (query : QueryTree) (is : IsPrintableQuery query) → Printed (query_text query) (write_query (canon_query query is))
query_printed query is =
    then_tail (then_tail (then_tail (then_tail (then_tail (then_tail
    (lead_then (lead_lead (key_blank word.Select) (distinct_printed query.distinct)) (items_printed query.items is.items_are))
    (froms_printed query.froms is.froms_are))
    (where_behind query.cond is.cond_is))
    (any_printed IsReference canon_column_of reference_text write_column column_printed (word.Group ∷ word.By ∷ []) (codes " GROUP BY ") (middle_lead (spaced_key word.Group) (key_blank word.By)) query.groups is.groups_are))
    (having_behind query.having is.having_is))
    (any_printed IsPrintableKey canon_key key_text write_key key_printed (word.Order ∷ word.By ∷ []) (codes " ORDER BY ") (middle_lead (spaced_key word.Order) (key_blank word.By)) query.keys is.keys_are))
    (limit_printed query.limit is.limit_is)
