-- The plan of a checked query means its answer over every database that has its tables.
use Rattle.std.proofs.Common.{◌≡◌, ℕ, suc, ◌<◌, List, [], ◌∷◌, ◌++◌, length, map, Bool, true, false, cond, Option, Some, None, refl, ap, sym, ◌∙◌, subst, arith}
use Rattle.std.specs.Prelude.{◌==◌, slice_get, flat_map}
use Rattle.std.specs.List.{AllByRecursion, cons_option}
use Rattle.std.specs.Option.{option_map, option_map_or}
use Rattle.std.proofs.lemmas.Option.{same_Some}
use Rattle.cell_core.specs.declared.cell.Cell.{Cell}
use Rattle.cell_core.specs.declared.table.Table.{Table}
use Rattle.cell_core.specs.declared.table.Db.{Db}
use Rattle.cell_core.specs.Tables.{first_named}
use Rattle.mal_meaning.specs.Meaning.{plan_rows}
use Rattle.sql_grammar.specs.Formed.{IsFormed, IsShapedQuery}
use Rattle.sql_tree.specs.Tree.{ExprTree, ItemTree, QueryTree, StmtTree}
use Rattle.sql_tree.specs.Tree.ExprTree.{ColumnOf}
use Rattle.sql_tree.specs.Tree.StmtTree.{CreateTable, DropTable, AlterTable, InsertInto, DeleteFrom, UpdateTable, Select, ExplainSelect}
use Rattle.sql_tree.specs.Exprs.{exprs_of_cond}
use Rattle.sql_tree.specs.declared.tree.ColRef.{ColRef}
use Rattle.sql_tree.specs.declared.tree.FromItem.{FromItem}
use Rattle.sql_definitions.specs.declared.source.Source.{Source}
use Rattle.sql_definitions.specs.declared.source.Schema.{Schema}
use Rattle.sql_definitions.specs.declared.refusal.Refusal.{Refusal}
use Rattle.sql_definitions.specs.declared.refusal.Refusal.TheVariants.{KindsDiffer}
use Rattle.sql_definitions.specs.Sources.{NamedSource, source_of, rows_of, source_named, schema_of, from_name, from_tables, from_sources, called_sources, places}
use Rattle.sql_definitions.specs.References.{references, all_columns, items_of, item_exprs, column_item, has_aggregate, outer_references}
use Rattle.sql_definitions.specs.Answer.{answer}
use Rattle.sql_definitions.specs.Check.{misplaced, bad_references, bad_in_exprs, bad_keys, not_grouped, is_misfit_query, refused_if, names_twice, missing_tables, column_refusals, query_refusals, check_refusal, sources_named, called_in, tables_of}
use Rattle.sql_kinds.proofs.NameLemmas.{left_empty, right_empty}
use Rattle.sql_kinds.proofs.TableLemmas.{as_source, source_is}
use Rattle.pick_laws.proofs.ListLemmas.{all_both, all_along}
use Rattle.rows_to_mal.specs.Laws.{HoldsTables, rows_in}
use Rattle.rows_to_mal.specs.Rows.{condition_of, keeps_rows, statement_scope}
use Rattle.rows_to_mal.proofs.ChoiceLemmas.{choice_of, rows_at}
use Rattle.rows_to_mal.proofs.ConjunctLemmas.{expr_shape, ExprFits}
use Rattle.rows_to_mal.proofs.FitLemmas.{ArePlaced, all_placed}
use Rattle.rows_to_mal.proofs.FoundLemmas.{InDb, name_of, as_found, all_in_db, has_columns}
use Rattle.rows_to_mal.proofs.JoinLemmas.{Seat, columns}
use Rattle.rows_to_mal.proofs.StatementLemmas.{SameFound, StatementIs, in_schema, all_same, called_are, statement_is}
use Rattle.rows_to_mal.proofs.WhereLemmas.{CondChecked, seats_where, seats_rows, picks_where, rows_kept, picks_kept, picks_inside, some_where}
use Rattle.rows_to_mal.proofs.PlaceLemmas.{scope_of}
use Rattle.group_to_mal.specs.QueryPlan.{query_plan}
use Rattle.group_to_mal.specs.Laws.{PlansMeanAnswers}
use Rattle.group_to_mal.proofs.AnswerLemmas.{answer_from}
use Rattle.group_to_mal.proofs.PlanAnswers.{RowItem, GroupItem, WholeItem, QueryFits, plan_means_answer}
use Rattle.group_to_mal.proofs.QueryLemmas.{row_fits, first_known, group_item, row_item, whole_item, items_written, items_single, having_written, no_outer}
use Rattle.std.proofs.lemmas.List.Concat.{flat_map-append}
use Rattle.std.proofs.lemmas.List.{length-map}
use Rattle.sql_grammar.specs.Written.{IsValue}

-- ## What the check says of a query's parts

pub record PartsChecked (called : List NamedSource) (query : QueryTree) : Type 0 where
  pub items : bad_in_exprs called (item_exprs called query) ≡ []
  pub groups : bad_references called query.groups ≡ []
  pub having : bad_in_exprs called (exprs_of_cond query.having) ≡ []
  pub grouped : not_grouped called query ≡ []
  pub fit : is_misfit_query called query ≡ false

flat_first : {X Y : Type 0} (f : X → List Y) (xs ys : List X) → flat_map f (xs ++ ys) ≡ [] → flat_map f xs ≡ []
flat_first f [] ys e = refl
flat_first f (x ∷ xs) ys e =
    ap (λ r. r ++ flat_map f xs) (left_empty (f x) (flat_map f (xs ++ ys)) e) ∙ flat_first f xs ys (right_empty (f x) (flat_map f (xs ++ ys)) e)

first_placed : (called : List NamedSource) (exprs after : List ExprTree) → bad_in_exprs called (exprs ++ after) ≡ [] → bad_in_exprs called exprs ≡ []
first_placed called exprs after e = flat_first (λ (ref : ColRef). misplaced ref (places called ref)) (flat_map references exprs) (flat_map references after)
    (ap (bad_references called) (sym (flat_map-append references exprs after)) ∙ e)

not_refused : (cause : Bool) (refusal : Refusal) → refused_if cause refusal ≡ [] → cause ≡ false
not_refused true refusal e = cc
not_refused false refusal e = refl

parts_checked : (called : List NamedSource) (query : QueryTree) → column_refusals called query ≡ [] → PartsChecked called query
parts_checked called query e = record {
  items = first_placed called (item_exprs called query) (exprs_of_cond query.cond) (left_empty placed groups (left_empty (placed ++ groups) having three));
  groups = right_empty placed groups (left_empty (placed ++ groups) having three);
  having = right_empty (placed ++ groups) having three;
  grouped = right_empty (placed ++ groups ++ having ++ keys) grouped five;
  fit = not_refused (is_misfit_query called query) KindsDiffer (right_empty (placed ++ groups ++ having ++ keys ++ grouped) (refused_if (is_misfit_query called query) KindsDiffer) e);
}
  where
    placed : List Refusal
    placed = bad_in_exprs called (item_exprs called query ++ exprs_of_cond query.cond)

    groups : List Refusal
    groups = bad_references called query.groups

    having : List Refusal
    having = bad_in_exprs called (exprs_of_cond query.having)

    keys : List Refusal
    keys = bad_keys called query

    grouped : List Refusal
    grouped = not_grouped called query

    five : placed ++ groups ++ having ++ keys ++ grouped ≡ []
    five = left_empty (placed ++ groups ++ having ++ keys ++ grouped) (refused_if (is_misfit_query called query) KindsDiffer) e

    three : placed ++ groups ++ having ≡ []
    three = left_empty (placed ++ groups ++ having) keys (left_empty (placed ++ groups ++ having ++ keys) grouped five)

pub refs_placed : (called : List NamedSource) (refs : List ColRef) → bad_references called refs ≡ [] → AllByRecursion (λ ref. ArePlaced called (ColumnOf ref)) refs
refs_placed called [] e = tt
refs_placed called (ref ∷ refs) e =
    ((left_empty (misplaced ref (places called ref)) (bad_references called refs) e, tt), refs_placed called refs (right_empty (misplaced ref (places called ref)) (bad_references called refs) e))

-- ## There is an item

some_more : {X : Type 0} (xs ys : List X) → 0 < length xs → 0 < length (xs ++ ys)
some_more [] ys h = absurd (none h)
  where
    none : 0 < 0 → ⊥
    none h = omega arith
some_more (x ∷ xs) ys h = above (length (xs ++ ys))
  where
    above : (n : ℕ) → 0 < suc n
    above n = omega arith

some_mapped : {X Y : Type 0} (f : X → Y) (xs : List X) → 0 < length xs → 0 < length (map f xs)
some_mapped f xs h = subst (λ n. 0 < n) (sym (length-map xs f)) h

-- ## Over a database

module _ (db : Db) (names : List (List ℕ)) (source : Source) (sources : List Source) (there : AllByRecursion (InDb db) (source ∷ sources)) (query : QueryTree)
    (checked : CondChecked (scope_of names (source ∷ sources)).called query.cond) (shaped : IsShapedQuery query) (parts : PartsChecked (scope_of names (source ∷ sources)).called query)
    (named : 0 < length names) where
  abbrev called : List NamedSource
  called = called_sources names (source ∷ sources)

  abbrev these : List Seat
  these = seats_where db names source sources there query.cond checked

  abbrev lists : List (List (List Cell))
  lists = map (rows_in db) (source ∷ sources)

  abbrev Fits : ExprTree → Type 0
  Fits = ExprFits db (scope_of names (source ∷ sources)) these

  abbrev items : List ExprTree
  items = item_exprs called query

  pub written : AllByRecursion IsValue items
  written = items_written called query shaped.items

  pub having_is : AllByRecursion IsValue (exprs_of_cond query.having)
  having_is = having_written query.having shaped.having

  pub items_placed : AllByRecursion (ArePlaced called) items
  items_placed = all_placed called items parts.items

  pub having_placed : AllByRecursion (ArePlaced called) (exprs_of_cond query.having)
  having_placed = all_placed called (exprs_of_cond query.having) parts.having

  all_three : (Q R S T : ExprTree → Type 0) → ((x : ExprTree) → Q x → R x → S x → T x) → (xs : List ExprTree) → AllByRecursion Q xs → AllByRecursion R xs → AllByRecursion S xs → AllByRecursion T xs
  all_three Q R S T f [] a b c = tt
  all_three Q R S T f (x ∷ xs) a b c = (f x a.0 b.0 c.0, all_three Q R S T f xs a.1 b.1 c.1)

  all_halves : (Q : ExprTree → Type 0) (xs ys : List ExprTree) → AllByRecursion Q (xs ++ ys) → AllByRecursion Q xs × AllByRecursion Q ys
  all_halves Q [] ys a = (tt, a)
  all_halves Q (x ∷ xs) ys a = let more = all_halves Q xs ys a.1 in ((a.0, more.0), more.1)

  pub some_item : 0 < length items
  some_item = some_mapped (λ (item : ItemTree). item.expr) (items_of called query) (by_star (length query.items == 0) refl)
    where
      first_named_table : (names : List (List ℕ)) → 0 < length names → 0 < length (all_columns (called_sources names (source ∷ sources)))
      first_named_table [] h = absurd (none h)
        where
          none : 0 < 0 → ⊥
          none h = omega arith
      first_named_table (name ∷ names) h =
          some_more (map (column_item name) source.columns) (all_columns (called_sources names sources))
          (some_mapped (column_item name) source.columns (has_columns db source there.0))

      not_none : (xs : List ItemTree) → (length xs == 0) ≡ false → 0 < length xs
      not_none [] e = cc
      not_none (x ∷ xs) e = above (length xs)
        where
          above : (n : ℕ) → 0 < suc n
          above n = omega arith

      by_star : (star : Bool) → (length query.items == 0) ≡ star → 0 < length (cond star (all_columns called) query.items)
      by_star true e = first_named_table names named
      by_star false e = not_none query.items e

  query_fits : QueryFits db called lists (source ∷ sources) query (choice_of these) (λ ps. columns ps these) (λ ps. expr_shape db (scope_of names (source ∷ sources)) ps these) Fits
  query_fits = record {
    single = λ e. all_three IsValue (ArePlaced called) (λ x. has_aggregate x ≡ false) (RowItem Fits)
        (λ x v p s. row_item db names (source ∷ sources) there these at x v p s) items written items_placed (items_single called query e);
    whole = λ e f. let outer = all_halves (λ x. outer_references x ≡ []) items (exprs_of_cond query.having) (no_outer called query e f parts.grouped) in (
      all_three IsValue (ArePlaced called) (λ x. outer_references x ≡ []) (WholeItem Fits) (λ x v p o. whole_item db names (source ∷ sources) there these at x v p o) items written items_placed outer.0,
      all_three IsValue (ArePlaced called) (λ x. outer_references x ≡ []) (WholeItem Fits) (λ x v p o. whole_item db names (source ∷ sources) there these at x v p o) (exprs_of_cond query.having) having_is having_placed outer.1,
    );
    grouped = λ e f. (
      all_along (λ ref. ArePlaced called (ColumnOf ref)) (λ ref. Fits (ColumnOf ref)) (λ ref p. group_item db names (source ∷ sources) there these at (ColumnOf ref) tt p) query.groups (refs_placed called query.groups parts.groups),
      all_both IsValue (ArePlaced called) (GroupItem Fits) (λ x v p. group_item db names (source ∷ sources) there these at x v p) items written items_placed,
      all_both IsValue (ArePlaced called) (GroupItem Fits) (λ x v p. group_item db names (source ∷ sources) there these at x v p) (exprs_of_cond query.having) having_is having_placed,
    );
    some = some_item;
  }
    where
      at : rows_at these ≡ lists
      at = seats_rows db names source sources there query.cond checked

  pub means : plan_rows (query_plan (scope_of names (source ∷ sources)) query) db ≡ answer_from called lists query
  means =
      plan_means_answer db called lists (source ∷ sources) query (choice_of these) (λ ps. columns ps these) (λ ps. expr_shape db (scope_of names (source ∷ sources)) ps these) Fits
      (picks_where db names source sources there query.cond checked) (rows_kept db names source sources there query.cond checked) (picks_kept db names source sources there query.cond checked)
      (λ ps e. record {
        fits = λ rows x fits. row_fits db (scope_of names (source ∷ sources)) ps these (picks_inside db names source sources there query.cond checked ps e) (some_where db names source sources there query.cond checked) rows x fits;
        first = λ rows. first_known db (scope_of names (source ∷ sources)) ps these (picks_inside db names source sources there query.cond checked ps e) (some_where db names source sources there query.cond checked) rows;
      })
      query_fits

-- ## The tables of FROM

-- the table of a database that a name means
record TableFound (db : Db) (name : List ℕ) : Type 0 where
  table : Table
  is : first_named name db.tables ≡ Some table
  source : source_named name (schema_of db) ≡ Some (as_source table)
  rows : rows_in db (as_source table) ≡ table.rows

table_found : (db : Db) (name : List ℕ) (source : Source) → source_named name (schema_of db) ≡ Some source → TableFound db name
table_found db name source e =
    let found = as_found (first_named name db.tables) source (sym (source_is name db.tables) ∙ e) in
    record {
      table = found.0;
      is = found.1;
      source = source_is name db.tables ∙ ap (option_map as_source) found.1;
      rows = ap (λ o. option_map_or (λ (t : Table). t.rows) o []) (ap (λ n. first_named n db.tables) (name_of name db.tables found.0 found.1) ∙ found.1);
    }

module _ (db : Db) (inside : List ℕ → Option Source) where
  abbrev AllFound : List FromItem → Type 0
  AllFound froms = AllByRecursion (λ (item : FromItem). SameFound inside (in_schema db) item.table) froms

  abbrev tables_of_froms : List FromItem → List Source
  tables_of_froms froms = sources_named (map (λ (item : FromItem). item.table) froms) (schema_of db)

  froms_called : (froms : List FromItem) → AllFound froms → map source_of (from_tables froms db) ≡ called_sources (map from_name froms) (tables_of_froms froms)
  froms_called [] a = refl
  froms_called (item ∷ froms) a =
      let found = table_found db item.table a.0.source a.0.there in
      ap (λ o. map source_of (cons_option (option_map (λ (table : Table). record { name = from_name item; table = table }) o) (from_tables froms db))) found.is
      ∙ ap (λ r. record { name = from_name item; columns = found.table.columns } ∷ r) (froms_called froms a.1)
      ∙ ap (λ o. called_sources (from_name item ∷ map from_name froms) (cons_option o (tables_of_froms froms))) (sym found.source)

  froms_rows : (froms : List FromItem) → AllFound froms → map rows_of (from_tables froms db) ≡ map (rows_in db) (tables_of_froms froms)
  froms_rows [] a = refl
  froms_rows (item ∷ froms) a =
      let found = table_found db item.table a.0.source a.0.there in
      ap (λ o. map rows_of (cons_option (option_map (λ (table : Table). record { name = from_name item; table = table }) o) (from_tables froms db))) found.is
      ∙ ap (λ r. found.table.rows ∷ r) (froms_rows froms a.1)
      ∙ ap (λ rs. rs ∷ map (rows_in db) (tables_of_froms froms)) (sym found.rows)
      ∙ ap (λ o. map (rows_in db) (cons_option o (tables_of_froms froms))) (sym found.source)

-- ## Checked queries

pub no_refusal : (refusals : List Refusal) → slice_get refusals 0 ≡ None → refusals ≡ []
no_refusal [] e = refl
no_refusal (refusal ∷ more) e = cc

pub some_names : (froms : List FromItem) → (froms ≡ [] → ⊥) → 0 < length (map from_name froms)
some_names [] some = absurd (some refl)
some_names (item ∷ froms) some = above (length (map from_name froms))
  where
    above : (n : ℕ) → 0 < suc n
    above n = omega arith

-- what holds over tables of which there is one, where the check accepts the query, holds over the query's tables
pub query_over : (Goal : List Source → Type 0) (stmt : StmtTree) (query : QueryTree) (sources : List Source) (db : Db) → called_in stmt ≡ map from_name query.froms → condition_of stmt ≡ query.cond
    → StatementIs stmt sources → query_refusals query (record { tables = sources }) ≡ [] → sources ≡ sources_named (map (λ (item : FromItem). item.table) query.froms) (schema_of db) → AllByRecursion (InDb db) sources
    → ((first : Source) (others : List Source) → AllByRecursion (InDb db) (first ∷ others) → CondChecked (called_sources (map from_name query.froms) (first ∷ others)) query.cond
    → PartsChecked (called_sources (map from_name query.froms) (first ∷ others)) query → Goal (first ∷ others)) → Goal sources
query_over Goal stmt query sources db called is statement accepted tables there goal = over_tables sources statement.first statement.others statement.some there checked parts
  where
    schema : Schema
    schema = record { tables = sources }

    checked : CondChecked (called_sources (map from_name query.froms) sources) query.cond
    checked = subst (λ names. CondChecked (called_sources names sources) query.cond) called (subst (λ c. CondChecked (called_sources (called_in stmt) sources) c) is statement.checked)

    parts : PartsChecked (called_sources (map from_name query.froms) sources) query
    parts = subst (λ c. PartsChecked c query) (called_are db query sources there tables accepted)
        (parts_checked (from_sources query.froms schema) query
        (right_empty (missing_tables query.froms schema ++ names_twice (map from_name query.froms)) (column_refusals (from_sources query.froms schema) query) accepted))

    over_tables : (all : List Source) (first : Source) (others : List Source) → all ≡ first ∷ others → AllByRecursion (InDb db) all → CondChecked (called_sources (map from_name query.froms) all) query.cond
        → PartsChecked (called_sources (map from_name query.froms) all) query → Goal all
    over_tables all first others some a c p =
        subst (λ ss. AllByRecursion (InDb db) ss → CondChecked (called_sources (map from_name query.froms) ss) query.cond → PartsChecked (called_sources (map from_name query.froms) ss) query → Goal ss) (sym some)
        (λ a c p. goal first others a c p) a c p

query_means : (stmt : StmtTree) (query : QueryTree) (sources : List Source) (db : Db) → called_in stmt ≡ map from_name query.froms → condition_of stmt ≡ query.cond → IsShapedQuery query
    → StatementIs stmt sources → query_refusals query (record { tables = sources }) ≡ [] → sources ≡ sources_named (map (λ (item : FromItem). item.table) query.froms) (schema_of db) → AllByRecursion (InDb db) sources
    → plan_rows (query_plan (scope_of (map from_name query.froms) sources) query) db ≡ answer query db
query_means stmt query sources db called is shaped statement accepted tables there =
    query_over (λ all. plan_rows (query_plan (scope_of (map from_name query.froms) all) query) db ≡ answer_from (called_sources (map from_name query.froms) all) (map (rows_in db) all) query)
    stmt query sources db called is statement accepted tables there
    (λ first others a c p. means db (map from_name query.froms) first others a query c shaped p (some_names query.froms shaped.froms))
    ∙ ap (λ all. answer_from (called_sources (map from_name query.froms) all) (map (rows_in db) all) query) tables
    ∙ ap (λ c. answer_from c (map (rows_in db) (sources_named (map (λ (item : FromItem). item.table) query.froms) (schema_of db))) query) (sym (froms_called db (λ n. source_named n schema) query.froms same))
    ∙ ap (λ ls. answer_from (map source_of (from_tables query.froms db)) ls query) (sym (froms_rows db (λ n. source_named n schema) query.froms same))
  where
    schema : Schema
    schema = record { tables = sources }

    same : AllByRecursion (λ (item : FromItem). SameFound (λ n. source_named n (record { tables = sources })) (in_schema db) item.table) query.froms
    same = all_same db query sources there tables accepted

for_select : (stmt : StmtTree) (query : QueryTree) (sources : List Source) (db : Db) → called_in stmt ≡ map from_name query.froms → condition_of stmt ≡ query.cond → IsShapedQuery query
    → keeps_rows stmt ≡ true → IsFormed stmt → check_refusal stmt (record { tables = sources }) ≡ None → query_refusals query (record { tables = sources }) ≡ [] → HoldsTables stmt sources db
    → sources ≡ sources_named (map (λ (item : FromItem). item.table) query.froms) (schema_of db)
    → plan_rows (query_plan (scope_of (map from_name query.froms) sources) query) db ≡ answer query db
for_select stmt query sources db called is shaped keeps formed accepted refusals held tables =
    let there : AllByRecursion (InDb db) sources = subst (AllByRecursion (InDb db)) (sym held.tables) (all_in_db db held.valid (tables_of stmt)) in
    query_means stmt query sources db called is shaped (statement_is stmt sources db keeps formed accepted held.tables held.valid there) refusals tables there

pub plans_mean_answers : PlansMeanAnswers
plans_mean_answers (Select query) other sources db e formed accepted held =
    subst (λ q. plan_rows (query_plan (statement_scope (Select query) sources) q) db ≡ answer q db) (same_Some query other e)
    (for_select (Select query) query sources db refl refl formed.shaped refl formed accepted (no_refusal (query_refusals query (record { tables = sources })) accepted) held held.tables)
plans_mean_answers (ExplainSelect query) other sources db e formed accepted held =
    subst (λ q. plan_rows (query_plan (statement_scope (ExplainSelect query) sources) q) db ≡ answer q db) (same_Some query other e)
    (for_select (ExplainSelect query) query sources db refl refl formed.shaped refl formed accepted (no_refusal (query_refusals query (record { tables = sources })) accepted) held held.tables)
plans_mean_answers (CreateTable table columns) other sources db e formed accepted held = cc
plans_mean_answers (DropTable table) other sources db e formed accepted held = cc
plans_mean_answers (AlterTable table column) other sources db e formed accepted held = cc
plans_mean_answers (InsertInto table listed rows) other sources db e formed accepted held = cc
plans_mean_answers (DeleteFrom table condition) other sources db e formed accepted held = cc
plans_mean_answers (UpdateTable table sets condition) other sources db e formed accepted held = cc
