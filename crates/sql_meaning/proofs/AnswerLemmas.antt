-- The parts of an answer, put together.
use Rattle.std.proofs.Common.{◌≡◌, ℕ, List, ◌++◌, map, Bool, true, false, ◌||◌, cond, Option, Some, None, refl, ap, sym, ◌∙◌}
use Rattle.std.specs.Prelude.{filter_map, flat_map}
use Rattle.std.specs.List.{list_any}
use Rattle.std.specs.Option.{option_map}
use Rattle.cell_core.specs.declared.cell.Cell.{Cell}
use Rattle.cell_core.specs.declared.table.Db.{Db}
use Rattle.cell_core.specs.Keys.{is_keyed_below}
use Rattle.cell_core.specs.Sorted.{sorted_by}
use Rattle.sql_tree.specs.Tree.{ExprTree, ItemTree, QueryTree}
use Rattle.sql_tree.specs.declared.tree.ColRef.{ColRef}
use Rattle.sql_tree.specs.declared.tree.FromItem.{FromItem}
use Rattle.sql_tree.specs.declared.tree.SortKey.{SortKey}
use Rattle.sql_definitions.specs.Sources.{NamedSource, NamedTable, source_of, rows_of, from_tables}
use Rattle.sql_tree.specs.Exprs.{exprs_of_cond}
use Rattle.sql_definitions.specs.References.{items_of, is_grouped}
use Rattle.sql_definitions.specs.Values.{Choice, constant_overflows, over_choices}
use Rattle.sql_definitions.specs.Kept.{kept}
use Rattle.sql_definitions.specs.Rows.{kept_choices, groups_of, choice_row, rows_from, query_rows, overflows_for}
use Rattle.sql_definitions.specs.Answer.{key_place, limited, undoubled, arranged, answer_over, answer}
use Rattle.sql_meaning.specs.Shown.{row_of_group, is_group_shown, rows_of_shown}

-- the keys of a query with these items
pub arranged_done : (sources : List NamedSource) (query : QueryTree) (items : List ItemTree) (rows first sorted distinct_rows : List (List Cell)) (listed : List SortKey) (keys lent : List (ℕ × Bool))
    → items ≡ items_of sources query → listed ≡ query.keys
    → keys ≡ filter_map (λ (key : SortKey). option_map (λ n. (n, key.ascending)) (key_place sources items key.at)) listed → lent ≡ keys
    → distinct_rows ≡ undoubled query.distinct rows → sorted ≡ sorted_by (is_keyed_below lent) distinct_rows → first ≡ limited query.limit sorted
    → first ≡ arranged sources query rows
arranged_done sources query items rows first sorted distinct_rows listed keys lent is_items is_listed is_keys is_lent is_distinct is_sorted is_first =
    is_first
    ∙ ap (limited query.limit)
    (is_sorted ∙ ap (sorted_by (is_keyed_below lent)) is_distinct
    ∙ ap (λ k. sorted_by (is_keyed_below k) (undoubled query.distinct rows))
    (is_lent ∙ is_keys
    ∙ ap (λ (l : List SortKey). filter_map (λ (key : SortKey). option_map (λ n. (n, key.ascending)) (key_place sources items key.at)) l) is_listed
    ∙ ap (λ i. filter_map (λ (key : SortKey). option_map (λ n. (n, key.ascending)) (key_place sources i key.at)) query.keys) is_items))

abbrev exprs : List ItemTree → List ExprTree
exprs items = map (λ (item : ItemTree). item.expr) items

-- the rows of a grouped query
pub grouped_rows : (sources : List NamedSource) (query : QueryTree) (items : List ItemTree) (choices : List Choice) (refs : List ColRef) (groups : List (List Choice)) (rows : List (List Cell))
    → items ≡ items_of sources query → is_grouped query ≡ true → refs ≡ query.groups → groups ≡ groups_of sources refs choices
    → rows ≡ rows_of_shown sources (exprs items) query.having groups → rows ≡ rows_from sources query choices
unfolding row_of_group is_group_shown
grouped_rows sources query items choices refs groups rows is_items is_so is_refs is_groups is_rows =
    is_rows ∙ ap (λ i. rows_of_shown sources (exprs i) query.having groups) is_items
    ∙ ap (λ g. rows_of_shown sources (exprs (items_of sources query)) query.having g) (is_groups ∙ ap (λ r. groups_of sources r choices) is_refs)
    ∙ ap (λ b. cond b (rows_of_shown sources (exprs (items_of sources query)) query.having (groups_of sources query.groups choices)) (map (choice_row sources (exprs (items_of sources query))) choices)) (sym is_so)

-- the rows of another query
pub single_rows : (sources : List NamedSource) (query : QueryTree) (items : List ItemTree) (choices : List Choice) (rows : List (List Cell))
    → items ≡ items_of sources query → is_grouped query ≡ false
    → rows ≡ map (choice_row sources (exprs items)) choices → rows ≡ rows_from sources query choices
unfolding row_of_group is_group_shown
single_rows sources query items choices rows is_items is_so is_rows =
    is_rows ∙ ap (λ i. map (choice_row sources (exprs i)) choices) is_items
    ∙ ap (λ b. cond b (rows_of_shown sources (exprs (items_of sources query)) query.having (groups_of sources query.groups choices)) (map (choice_row sources (exprs (items_of sources query))) choices)) (sym is_so)

none_if : {X : Type 0} (c s : Bool) (x : X) → true ≡ (c || s) → None ≡ cond (c || s) None (Some x)
none_if true s x e = refl
none_if false true x e = refl
none_if false false x e = cc

some_if : {X : Type 0} (c s : Bool) (x : X) → false ≡ c → false ≡ s → Some x ≡ cond (c || s) None (Some x)
some_if false false x e f = refl
some_if true s x e f = cc
some_if false true x e f = cc

or_left : (c s : Bool) → true ≡ c → true ≡ (c || s)
or_left true s e = refl
or_left false s e = cc

or_right : (c s : Bool) → true ≡ s → true ≡ (c || s)
or_right true s e = refl
or_right false s e = e

-- the tests of a query's overflow, for its items over its tables
abbrev constants_of : QueryTree → List ItemTree → Bool
constants_of query items = list_any constant_overflows (exprs items ++ exprs_of_cond query.having ++ exprs_of_cond query.cond)

abbrev shown_of : QueryTree → List NamedSource → List ItemTree → List Choice → Bool
shown_of query sources items choices = list_any (overflows_for sources choices) (flat_map over_choices (exprs items ++ exprs_of_cond query.having))

constants_are : (tables : List NamedTable) (sources : List NamedSource) (query : QueryTree) (items : List ItemTree)
    → sources ≡ map source_of tables → items ≡ items_of sources query → constants_of query items ≡ constants_of query (items_of (map source_of tables) query)
constants_are tables sources query items is_sources is_items = ap (constants_of query) (is_items ∙ ap (λ s. items_of s query) is_sources)

choices_are : (tables : List NamedTable) (sources : List NamedSource) (query : QueryTree) (choices : List Choice)
    → sources ≡ map source_of tables → choices ≡ kept sources query.cond (map rows_of tables) → choices ≡ kept_choices tables query
choices_are tables sources query choices is_sources is_choices = is_choices ∙ ap (λ s. kept s query.cond (map rows_of tables)) is_sources

shown_are : (tables : List NamedTable) (sources : List NamedSource) (query : QueryTree) (items : List ItemTree) (choices : List Choice)
    → sources ≡ map source_of tables → items ≡ items_of sources query → choices ≡ kept_choices tables query
    → shown_of query sources items choices ≡ shown_of query (map source_of tables) (items_of (map source_of tables) query) (kept_choices tables query)
shown_are tables sources query items choices is_sources is_items is_choices =
    ap (λ i. shown_of query sources i choices) is_items ∙ ap (λ c. shown_of query sources (items_of sources query) c) is_choices
    ∙ ap (λ s. shown_of query s (items_of s query) (kept_choices tables query)) is_sources

-- an overflow of constants
pub constant_none : (tables : List NamedTable) (sources : List NamedSource) (query : QueryTree) (items : List ItemTree)
    → sources ≡ map source_of tables → items ≡ items_of sources query → true ≡ constants_of query items → None ≡ answer_over tables query
constant_none tables sources query items is_sources is_items overflows =
    none_if _ (shown_of query (map source_of tables) (items_of (map source_of tables) query) (kept_choices tables query)) (arranged (map source_of tables) query (query_rows tables query))
    (or_left _ _ (overflows ∙ constants_are tables sources query items is_sources is_items))

-- an overflow for some choice
pub shown_none : (tables : List NamedTable) (sources : List NamedSource) (query : QueryTree) (items : List ItemTree) (choices lent : List Choice)
    → sources ≡ map source_of tables → items ≡ items_of sources query → choices ≡ kept sources query.cond (map rows_of tables) → lent ≡ choices
    → true ≡ shown_of query sources items lent → None ≡ answer_over tables query
shown_none tables sources query items choices lent is_sources is_items is_choices is_lent shown =
    none_if (constants_of query (items_of (map source_of tables) query)) _ (arranged (map source_of tables) query (query_rows tables query))
    (or_right (constants_of query (items_of (map source_of tables) query)) _ (shown ∙ shown_are tables sources query items lent is_sources is_items (is_lent ∙ choices_are tables sources query choices is_sources is_choices)))

-- no overflow
pub shown_some : (tables : List NamedTable) (sources : List NamedSource) (query : QueryTree) (items : List ItemTree) (choices lent : List Choice) (rows answered : List (List Cell))
    → sources ≡ map source_of tables → items ≡ items_of sources query → choices ≡ kept sources query.cond (map rows_of tables) → lent ≡ choices
    → false ≡ constants_of query items → false ≡ shown_of query sources items lent
    → rows ≡ rows_from sources query choices → answered ≡ arranged sources query rows
    → Some answered ≡ answer_over tables query
shown_some tables sources query items choices lent rows answered is_sources is_items is_choices is_lent constants shown is_rows is_answered =
    let all : choices ≡ kept_choices tables query = choices_are tables sources query choices is_sources is_choices in
    ap Some (is_answered ∙ ap (arranged sources query) (is_rows ∙ ap (rows_from sources query) all) ∙ ap (λ s. arranged s query (rows_from s query (kept_choices tables query))) is_sources)
    ∙ some_if _ _ (arranged (map source_of tables) query (query_rows tables query))
    (constants ∙ constants_are tables sources query items is_sources is_items)
    (shown ∙ shown_are tables sources query items lent is_sources is_items (is_lent ∙ all))

-- over the tables of FROM
pub answer_is : (query : QueryTree) (db : Db) (froms : List FromItem) (tables lent : List NamedTable) (found : Option (List (List Cell)))
    → froms ≡ query.froms → tables ≡ from_tables froms db → lent ≡ tables → found ≡ answer_over lent query → found ≡ answer query db
answer_is query db froms tables lent found is_froms is_tables is_lent is_found =
    is_found ∙ ap (λ t. answer_over t query) (is_lent ∙ is_tables ∙ ap (λ f. from_tables f db) is_froms)
