-- The refusals of a query, one part after the other.
use Rattle.std.proofs.Common.{◌≡◌, ℕ, List, [], ◌++◌, map, not, Bool, true, false, ◌||◌, cond, Option, None, refl, ap, sym, ◌∙◌}
use Rattle.std.specs.Prelude.{flat_map}
use Rattle.std.specs.List.{list_any}
use Rattle.std.specs.Option.{option_or}
use Rattle.sql_tree.specs.Tree.{ExprTree, ItemTree, QueryTree}
use Rattle.sql_tree.specs.declared.tree.ColRef.{ColRef}
use Rattle.sql_tree.specs.declared.tree.FromItem.{FromItem}
use Rattle.sql_tree.specs.declared.tree.SortKey.{SortKey}
use Rattle.sql_definitions.specs.declared.refusal.Refusal.{Refusal}
use Rattle.sql_definitions.specs.declared.refusal.Refusal.TheVariants.{KindsDiffer}
use Rattle.sql_definitions.specs.declared.source.Schema.{Schema}
use Rattle.sql_definitions.specs.Sources.{NamedSource, from_name, from_sources}
use Rattle.sql_tree.specs.Exprs.{exprs_of_cond}
use Rattle.sql_definitions.specs.References.{items_of, item_exprs, outer_references, is_grouped}
use Rattle.sql_definitions.specs.Kinds.{is_misfit}
use Rattle.sql_definitions.specs.Check.{refused_if, names_twice, missing_tables, bad_references, bad_in_exprs, bad_keys, not_grouped, is_misfit_cond, is_misfit_query, column_refusals, query_refusals}
use Rattle.sql_check.specs.First.{first, first_by, bad_expr, ungrouped, ungrouped_expr, bad_keys_of}
use Rattle.sql_check.proofs.FirstLemmas.{first_in_both, by_both, bad_by_exprs, ungrouped_by_exprs}

abbrev exprs : List ItemTree → List ExprTree
exprs items = map (λ (item : ItemTree). item.expr) items

-- one part more
pub next : (before part : Option Refusal) (xs ys : List Refusal) → before ≡ first xs → part ≡ first ys → option_or before part ≡ first (xs ++ ys)
next before part xs ys e f = ap (λ x. option_or x part) e ∙ ap (option_or (first xs)) f ∙ sym (first_in_both xs ys)

-- a query that isn't grouped
pub not_grouped_none : (sources : List NamedSource) (query : QueryTree) → is_grouped query ≡ false → None ≡ first (not_grouped sources query)
not_grouped_none sources query e =
    ap (λ b. first (cond b (ungrouped sources query.groups (flat_map outer_references (item_exprs sources query ++ exprs_of_cond query.having))) [])) (sym e)

pub not_grouped_some : (sources : List NamedSource) (query : QueryTree) (items : List ItemTree) (groups : List ColRef) (in_items in_having : Option Refusal)
    → items ≡ items_of sources query → is_grouped query ≡ true → groups ≡ query.groups
    → in_items ≡ first_by (ungrouped_expr sources groups) (exprs items) → in_having ≡ first_by (ungrouped_expr sources groups) (exprs_of_cond query.having)
    → option_or in_items in_having ≡ first (not_grouped sources query)
not_grouped_some sources query items groups in_items in_having is_items is_so is_groups e f =
    ap (λ x. option_or x in_having) e ∙ ap (option_or (first_by (ungrouped_expr sources groups) (exprs items))) f
    ∙ sym (by_both (ungrouped_expr sources groups) (exprs items) (exprs_of_cond query.having))
    ∙ ungrouped_by_exprs sources groups (exprs items ++ exprs_of_cond query.having)
    ∙ ap (λ i. first (ungrouped sources groups (flat_map outer_references (exprs i ++ exprs_of_cond query.having)))) is_items
    ∙ ap (λ g. first (ungrouped sources g (flat_map outer_references (item_exprs sources query ++ exprs_of_cond query.having)))) is_groups
    ∙ ap (λ b. first (cond b (ungrouped sources query.groups (flat_map outer_references (item_exprs sources query ++ exprs_of_cond query.having))) [])) (sym is_so)

-- kinds, for these items
pub misfit_is : (sources : List NamedSource) (query : QueryTree) (items : List ItemTree) (result : Bool) → items ≡ items_of sources query
    → result ≡ (list_any (is_misfit sources) (exprs items) || is_misfit_cond sources query.cond || is_misfit_cond sources query.having)
    → result ≡ is_misfit_query sources query
misfit_is sources query items result is_items e =
    e ∙ ap (λ i. list_any (is_misfit sources) (exprs i) || is_misfit_cond sources query.cond || is_misfit_cond sources query.having) is_items

pub column_first : (sources : List NamedSource) (query : QueryTree) (items : List ItemTree) (groups : List ColRef) (keys : List SortKey)
    (in_items in_cond in_groups in_having in_keys ungrouped_column kinds : Option Refusal) (is_wrong : Bool)
    → items ≡ items_of sources query → groups ≡ query.groups → keys ≡ query.keys
    → in_items ≡ first_by (bad_expr sources) (exprs items) → in_cond ≡ first_by (bad_expr sources) (exprs_of_cond query.cond)
    → in_groups ≡ first (bad_references sources groups) → in_having ≡ first_by (bad_expr sources) (exprs_of_cond query.having)
    → in_keys ≡ first (bad_keys_of sources items keys) → ungrouped_column ≡ first (not_grouped sources query)
    → is_wrong ≡ is_misfit_query sources query → kinds ≡ first (refused_if is_wrong KindsDiffer)
    → option_or (option_or (option_or (option_or (option_or (option_or in_items in_cond) in_groups) in_having) in_keys) ungrouped_column) kinds ≡ first (column_refusals sources query)
column_first sources query items groups keys in_items in_cond in_groups in_having in_keys ungrouped_column kinds is_wrong is_items is_groups is_keys e_items e_cond e_groups e_having e_keys e_ungrouped is_so e_kinds =
    let shown : option_or in_items in_cond ≡ first (bad_in_exprs sources (item_exprs sources query ++ exprs_of_cond query.cond)) =
    ap (λ x. option_or x in_cond) e_items ∙ ap (option_or (first_by (bad_expr sources) (exprs items))) e_cond
    ∙ sym (by_both (bad_expr sources) (exprs items) (exprs_of_cond query.cond))
    ∙ bad_by_exprs sources (exprs items ++ exprs_of_cond query.cond)
    ∙ ap (λ i. first (bad_in_exprs sources (exprs i ++ exprs_of_cond query.cond))) is_items in
    let having : in_having ≡ first (bad_in_exprs sources (exprs_of_cond query.having)) = e_having ∙ bad_by_exprs sources (exprs_of_cond query.having) in
    let grouped : in_groups ≡ first (bad_references sources query.groups) = e_groups ∙ ap (λ g. first (bad_references sources g)) is_groups in
    let sorted : in_keys ≡ first (bad_keys sources query) =
    e_keys ∙ ap (λ i. first (bad_keys_of sources i keys)) is_items ∙ ap (λ (k : List SortKey). first (bad_keys_of sources (items_of sources query) k)) is_keys in
    let kinds_is : kinds ≡ first (refused_if (is_misfit_query sources query) KindsDiffer) = e_kinds ∙ ap (λ b. first (refused_if b KindsDiffer)) is_so in
    let xs1 = bad_in_exprs sources (item_exprs sources query ++ exprs_of_cond query.cond) in
    let xs2 = xs1 ++ bad_references sources query.groups in
    let xs3 = xs2 ++ bad_in_exprs sources (exprs_of_cond query.having) in
    let xs4 = xs3 ++ bad_keys sources query in
    let xs5 = xs4 ++ not_grouped sources query in
    next _ kinds xs5 (refused_if (is_misfit_query sources query) KindsDiffer)
    (next _ ungrouped_column xs4 (not_grouped sources query)
    (next _ in_keys xs3 (bad_keys sources query)
    (next _ in_having xs2 (bad_in_exprs sources (exprs_of_cond query.having))
    (next _ in_groups xs1 (bad_references sources query.groups) shown grouped)
    having)
    sorted)
    e_ungrouped)
    kinds_is

pub query_first : (query : QueryTree) (schema : Schema) (froms : List FromItem) (names : List (List ℕ)) (sources lent : List NamedSource) (missing twice column : Option Refusal)
    → froms ≡ query.froms → missing ≡ first (missing_tables froms schema) → names ≡ map from_name froms → twice ≡ first (names_twice names)
    → sources ≡ from_sources froms schema → lent ≡ sources → column ≡ first (column_refusals lent query)
    → option_or (option_or missing twice) column ≡ first (query_refusals query schema)
query_first query schema froms names sources lent missing twice column is_froms is_missing is_names is_twice is_sources is_lent is_column =
    let e_missing : missing ≡ first (missing_tables query.froms schema) = is_missing ∙ ap (λ f. first (missing_tables f schema)) is_froms in
    let e_twice : twice ≡ first (names_twice (map from_name query.froms)) = is_twice ∙ ap (λ n. first (names_twice n)) (is_names ∙ ap (map from_name) is_froms) in
    let e_column : column ≡ first (column_refusals (from_sources query.froms schema) query) =
    is_column ∙ ap (λ s. first (column_refusals s query)) (is_lent ∙ is_sources ∙ ap (λ f. from_sources f schema) is_froms) in
    next _ column (missing_tables query.froms schema ++ names_twice (map from_name query.froms)) (column_refusals (from_sources query.froms schema) query)
    (next missing twice (missing_tables query.froms schema) (names_twice (map from_name query.froms)) e_missing e_twice) e_column

pub true_unless : (b : Bool) → not b ≡ false → b ≡ true
true_unless true e = refl
true_unless false e = cc
