-- What is known of a checked statement's tables and condition over a valid database.
use Rattle.std.proofs.Common.{◌≡◌, ℕ, List, [], ◌∷◌, ◌++◌, length, map, Bool, true, false, ◌||◌, ◌==◌, cond, Option, Some, None, refl, ap, sym, ◌∙◌, subst}
use Rattle.std.specs.Prelude.{codes, bytes_eq, flat_map, filter, filter_map, find, slice_get, is_none}
use Rattle.std.specs.List.{AllByRecursion, cons_option, list_any}
use Rattle.std.specs.Option.{option_map}
use Rattle.std.proofs.lemmas.Bool.{or_parts}
use Rattle.std.proofs.lemmas.List.Concat.{flat_map-append}
use Rattle.std.proofs.lemmas.Option.{same_Some}
use Rattle.cell_core.specs.declared.table.Column.{Column}
use Rattle.cell_core.specs.declared.table.Db.{Db}
use Rattle.sql_tree.specs.Tree.{ExprTree, CondTree, QueryTree, StmtTree}
use Rattle.sql_tree.specs.Tree.StmtTree.{CreateTable, DropTable, AlterTable, InsertInto, DeleteFrom, UpdateTable, Select, ExplainSelect}
use Rattle.sql_tree.specs.Exprs.{exprs_of_cond}
use Rattle.sql_tree.specs.Names.{name_text}
use Rattle.sql_tree.specs.declared.tree.ColRef.{ColRef}
use Rattle.sql_tree.specs.declared.tree.FromItem.{FromItem}
use Rattle.sql_grammar.specs.Formed.{IsFormed, IfWritten}
use Rattle.sql_grammar.specs.Refused.{cond_left_out}
use Rattle.sql_grammar.specs.Written.{IsPlainCond}
use Rattle.sql_definitions.specs.declared.refusal.Refusal.{Refusal}
use Rattle.sql_definitions.specs.declared.refusal.Refusal.TheVariants.{NoTable, KindsDiffer}
use Rattle.sql_definitions.specs.declared.source.Source.{Source}
use Rattle.pick_laws.proofs.ListLemmas.{all_along}
use Rattle.rows_to_mal.specs.Rows.{condition_of, keeps_rows}
use Rattle.rows_to_mal.specs.Writes.{is_write, new_values}
use Rattle.rows_to_mal.proofs.FitLemmas.{ArePlaced, all_parts, all_placed}
use Rattle.rows_to_mal.proofs.FoundLemmas.{InDb}
use Rattle.rows_to_mal.proofs.WhereLemmas.{CondChecked}
use Rattle.sql_definitions.specs.declared.source.Schema.{Schema}
use Rattle.sql_definitions.specs.Sources.{NamedSource, places, source_named, schema_of, from_name, from_sources, called_sources}
use Rattle.sql_definitions.specs.References.{references, item_exprs}
use Rattle.sql_definitions.specs.Kinds.{is_misfit}
use Rattle.sql_definitions.specs.Check.{refused_if, misplaced, unknown_names, over_table, own_source, delete_refusals, update_refusals, query_refusals, missing_tables, names_twice, column_refusals, bad_in_exprs, bad_references, bad_keys, not_grouped, is_misfit_set, is_misfit_cond, is_misfit_query, refusals_of, check_refusal, sources_named, tables_of, called_in}
use Rattle.sql_definitions.specs.Valid.{IsValid}
use Rattle.sql_kinds.proofs.NameLemmas.{same_name, map_empty, left_empty, right_empty, none_left as none_first}
use Rattle.sql_kinds.proofs.TableLemmas.{as_source, source_is}

-- ## Refusals

no_refusal : (refusals : List Refusal) → slice_get refusals 0 ≡ None → refusals ≡ []
no_refusal [] e = refl
no_refusal (refusal ∷ more) e = cc

not_refused : (cause : Bool) (refusal : Refusal) → refused_if cause refusal ≡ [] → cause ≡ false
not_refused true refusal e = cc
not_refused false refusal e = refl

no_text : (b : Bool) (text : List ℕ) → cond b (Some text) None ≡ None → b ≡ false
no_text true text e = cc
no_text false text e = refl

flat_append : {X Y : Type 0} (f : X → List Y) (xs ys : List X) → flat_map f (xs ++ ys) ≡ [] → flat_map f ys ≡ []
flat_append f [] ys e = e
flat_append f (x ∷ xs) ys e = flat_append f xs ys (right_empty (f x) (flat_map f (xs ++ ys)) e)

-- the references of the last expressions mean columns where those of all do
later_placed : (called : List NamedSource) (before exprs : List ExprTree) → bad_in_exprs called (before ++ exprs) ≡ [] → bad_in_exprs called exprs ≡ []
later_placed called before exprs e = flat_append (λ (ref : ColRef). misplaced ref (places called ref)) (flat_map references before) (flat_map references exprs)
    (sym (ap (bad_references called) (both references before exprs)) ∙ e)
  where
    both : {X Y : Type 0} (f : X → List Y) (xs ys : List X) → flat_map f (xs ++ ys) ≡ flat_map f xs ++ flat_map f ys
    both f xs ys = flat_map-append f xs ys

-- ## The one table of a change

one_found : (table : List ℕ) (source other : Source) → source_named table (record { tables = source ∷ [] }) ≡ Some other → (source ≡ other) × (source.table ≡ table)
one_found table source other e = by_case (bytes_eq source.table table) refl e
  where
    by_case : (b : Bool) → bytes_eq source.table table ≡ b → cond b (Some source) None ≡ Some other → (source ≡ other) × (source.table ≡ table)
    by_case true f g = (same_Some source other g, same_name source.table table f)
    by_case false f g = cc

-- the table of a change that isn't refused, under its own name
record OneTable (table : List ℕ) (sources : List Source) (change : Source → List Refusal) : Type 0 where
  source : Source
  is : sources ≡ source ∷ []
  own : own_source source ∷ [] ≡ called_sources (table ∷ []) sources
  accepted : change source ≡ []

one_table : (table : List ℕ) (sources : List Source) (found : Option Source) (change : Source → List Refusal) → sources ≡ cons_option found []
    → over_table table (source_named table (record { tables = sources })) change ≡ [] → OneTable table sources change
one_table table [] None change is e = cc
one_table table (source ∷ sources) None change is e = cc
one_table table [] (Some source) change is e = cc
one_table table (first ∷ source ∷ sources) (Some other) change is e = cc
one_table table (source ∷ []) (Some first) change is e = by_found (source_named table (record { tables = source ∷ [] })) refl e
  where
    by_found : (o : Option Source) → source_named table (record { tables = source ∷ [] }) ≡ o → over_table table o change ≡ [] → OneTable table (source ∷ []) change
    by_found None f g = cc
    by_found (Some other) f g =
        let same = one_found table source other f in
        record {
          source = source;
          is = refl;
          own = ap (λ name. record { name = name; columns = source.columns } ∷ []) same.1;
          accepted = ap change same.0 ∙ g;
        }

-- ## The tables of FROM

-- the same table is found among those of the statement and in the database
pub record SameFound (inside outside : List ℕ → Option Source) (name : List ℕ) : Type 0 where
  pub source : Source
  pub within : inside name ≡ Some source
  pub there : outside name ≡ Some source

module _ (inside outside : List ℕ → Option Source) where
  abbrev named : FromItem → Option NamedSource
  named item = option_map (λ (source : Source). record { name = from_name item; columns = source.columns }) (inside item.table)

  abbrev found : List FromItem → List Source
  found froms = filter_map outside (map (λ (item : FromItem). item.table) froms)

  called_same : (froms : List FromItem) → AllByRecursion (λ (item : FromItem). SameFound inside outside item.table) froms → filter_map named froms ≡ called_sources (map from_name froms) (found froms)
  called_same [] a = refl
  called_same (item ∷ froms) a =
      ap (λ o. cons_option (option_map (λ (source : Source). record { name = from_name item; columns = source.columns }) o) (filter_map named froms)) a.0.within
      ∙ ap (λ r. record { name = from_name item; columns = a.0.source.columns } ∷ r) (called_same froms a.1)
      ∙ ap (λ o. called_sources (from_name item ∷ map from_name froms) (cons_option o (found froms))) (sym a.0.there)

-- a table of the statement is the database's
OwnIn : (List ℕ → Option Source) → Source → Type 0
OwnIn outside source = outside source.table ≡ Some source

own_found : (outside : List ℕ → Option Source) (sources : List Source) (name : List ℕ) (source : Source) → AllByRecursion (OwnIn outside) sources
    → find (λ (s : Source). bytes_eq s.table name) sources ≡ Some source → outside name ≡ Some source
unfolding OwnIn
own_found outside [] name source a e = cc
own_found outside (first ∷ sources) name source a e =
    elim (bytes_eq first.table name) as (λ b. bytes_eq first.table name ≡ b → cond b (Some first) (find (λ (s : Source). bytes_eq s.table name) sources) ≡ Some source → outside name ≡ Some source) [
      | true ↦ λ same is. ap outside (sym (same_name first.table name same)) ∙ a.0 ∙ is
      | false ↦ λ other is. own_found outside sources name source a.1 is
    ] refl e

module _ (db : Db) where
  abbrev pub in_schema : List ℕ → Option Source
  in_schema name = source_named name (schema_of db)

  own_in : (source : Source) → InDb db source → OwnIn in_schema source
  unfolding OwnIn
  own_in source there = source_is source.table db.tables ∙ ap (option_map as_source) there.named ∙ ap Some there.is

  all_own : (sources : List Source) → AllByRecursion (InDb db) sources → AllByRecursion (OwnIn in_schema) sources
  all_own sources a = all_along (InDb db) (OwnIn in_schema) own_in sources a

  found_same : (sources : List Source) → AllByRecursion (InDb db) sources → (name : List ℕ) (o : Option Source) → source_named name (record { tables = sources }) ≡ o → is_none o ≡ false
      → SameFound (λ n. source_named n (record { tables = sources })) in_schema name
  found_same sources a name None e f = cc
  found_same sources a name (Some source) e f = record { source = source; within = e; there = own_found in_schema sources name source (all_own sources a) e }

  none_missing : (sources : List Source) → AllByRecursion (InDb db) sources → (froms : List FromItem)
      → filter (λ (item : FromItem). is_none (source_named item.table (record { tables = sources }))) froms ≡ []
      → AllByRecursion (λ (item : FromItem). SameFound (λ n. source_named n (record { tables = sources })) in_schema item.table) froms
  none_missing sources a [] e = tt
  none_missing sources a (item ∷ froms) e =
      let parts = none_first (is_none (source_named item.table (record { tables = sources }))) item (filter (λ (item : FromItem). is_none (source_named item.table (record { tables = sources }))) froms) e in
      (found_same sources a item.table (source_named item.table (record { tables = sources })) refl parts.0, none_missing sources a froms parts.1)

-- ## Statements

-- there is a table, and the condition is a checked one
pub record StatementIs (stmt : StmtTree) (sources : List Source) : Type 0 where
  pub first : Source
  pub others : List Source
  pub some : sources ≡ first ∷ others
  pub checked : CondChecked (called_sources (called_in stmt) sources) (condition_of stmt)

-- a change of one table
change_is : (stmt : StmtTree) (table : List ℕ) (condition : Option CondTree) (sources : List Source) (found : Option Source) (change : Source → List Refusal)
    → called_in stmt ≡ table ∷ [] → condition_of stmt ≡ condition → IfWritten IsPlainCond condition → cond_left_out condition ≡ false
    → ((source : Source) → change source ≡ [] → (bad_in_exprs (own_source source ∷ []) (exprs_of_cond condition) ≡ []) × (is_misfit_cond (own_source source ∷ []) condition ≡ false))
    → sources ≡ cons_option found [] → over_table table (source_named table (record { tables = sources })) change ≡ [] → StatementIs stmt sources
change_is stmt table condition sources found change called is plain fine parts tables accepted =
    let one = one_table table sources found change tables accepted in
    let facts = parts one.source one.accepted in
    record {
      first = one.source;
      others = [];
      some = one.is;
      checked =
          subst (λ (names : List (List ℕ)). CondChecked (called_sources names sources) (condition_of stmt)) (sym called)
          (subst (λ (o : Option CondTree). CondChecked (called_sources (table ∷ []) sources) o) (sym is)
          (subst (λ (called : List NamedSource). CondChecked called condition) one.own (record { plain = plain; fine = fine; placed = facts.0; fit = facts.1 })));
    }

delete_parts : (condition : Option CondTree) (source : Source) → delete_refusals condition source ≡ []
    → (bad_in_exprs (own_source source ∷ []) (exprs_of_cond condition) ≡ []) × (is_misfit_cond (own_source source ∷ []) condition ≡ false)
delete_parts condition source e = (
  left_empty (bad_in_exprs (own_source source ∷ []) (exprs_of_cond condition)) (refused_if (is_misfit_cond (own_source source ∷ []) condition) KindsDiffer) e,
  not_refused (is_misfit_cond (own_source source ∷ []) condition) KindsDiffer (right_empty (bad_in_exprs (own_source source ∷ []) (exprs_of_cond condition)) (refused_if (is_misfit_cond (own_source source ∷ []) condition) KindsDiffer) e),
)

update_parts : (sets : List (List ℕ × ExprTree)) (condition : Option CondTree) (source : Source) → update_refusals sets condition source ≡ []
    → (bad_in_exprs (own_source source ∷ []) (exprs_of_cond condition) ≡ []) × (is_misfit_cond (own_source source ∷ []) condition ≡ false)
update_parts sets condition source e = (
  later_placed called (map (λ (set : List ℕ × ExprTree). set.1) sets) (exprs_of_cond condition) (right_empty unknown placed (left_empty (unknown ++ placed) twice (left_empty (unknown ++ placed ++ twice) misfit e))),
  (or_parts (list_any (is_misfit_set called source.columns) sets) (is_misfit_cond called condition)
      (not_refused (list_any (is_misfit_set called source.columns) sets || is_misfit_cond called condition) KindsDiffer (right_empty (unknown ++ placed ++ twice) misfit e))).1,
)
  where
    called : List NamedSource
    called = own_source source ∷ []

    unknown : List Refusal
    unknown = unknown_names source.columns (map (λ (set : List ℕ × ExprTree). set.0) sets)

    placed : List Refusal
    placed = bad_in_exprs called (map (λ (set : List ℕ × ExprTree). set.1) sets ++ exprs_of_cond condition)

    twice : List Refusal
    twice = names_twice (map (λ (set : List ℕ × ExprTree). set.0) sets)

    misfit : List Refusal
    misfit = refused_if (list_any (is_misfit_set called source.columns) sets || is_misfit_cond called condition) KindsDiffer

-- the refusals of a query's columns: the condition is fine
column_parts : (called : List NamedSource) (query : QueryTree) → column_refusals called query ≡ [] → (bad_in_exprs called (exprs_of_cond query.cond) ≡ []) × (is_misfit_cond called query.cond ≡ false)
column_parts called query e = (
  later_placed called (item_exprs called query) (exprs_of_cond query.cond) (left_empty placed groups (left_empty (placed ++ groups) having (left_empty (placed ++ groups ++ having) keys (left_empty (placed ++ groups ++ having ++ keys) grouped (left_empty (placed ++ groups ++ having ++ keys ++ grouped) misfit e))))),
  (or_parts (list_any (is_misfit called) (item_exprs called query)) (is_misfit_cond called query.cond)
      (or_parts (list_any (is_misfit called) (item_exprs called query) || is_misfit_cond called query.cond) (is_misfit_cond called query.having) (not_refused (is_misfit_query called query) KindsDiffer last)).0).1,
)
  where
    placed : List Refusal
    placed = bad_in_exprs called (item_exprs called query ++ exprs_of_cond query.cond)

    groups : List Refusal
    groups = bad_references called query.groups

    having : List Refusal
    having = bad_in_exprs called (exprs_of_cond query.having)

    keys : List Refusal
    keys = bad_keys called query

    grouped : List Refusal
    grouped = not_grouped called query

    misfit : List Refusal
    misfit = refused_if (is_misfit_query called query) KindsDiffer

    last : misfit ≡ []
    last = right_empty (placed ++ groups ++ having ++ keys ++ grouped) misfit e

query_left : (query : QueryTree) (b : Bool) → cond b (Some (codes "SELECT WITHOUT FROM")) (cond (cond_left_out query.cond || cond_left_out query.having) (Some (codes "ARITHMETIC IN WHERE")) None) ≡ None → cond_left_out query.cond ≡ false
query_left query true e = cc
query_left query false e = (or_parts (cond_left_out query.cond) (cond_left_out query.having) (no_text (cond_left_out query.cond || cond_left_out query.having) (codes "ARITHMETIC IN WHERE") e)).0

module _ (db : Db) (query : QueryTree) (sources : List Source) (there : AllByRecursion (InDb db) sources)
    (tables : sources ≡ found (λ n. source_named n (record { tables = sources })) (in_schema db) query.froms) (accepted : query_refusals query (record { tables = sources }) ≡ []) where
  abbrev schema : Schema
  schema = record { tables = sources }

  pub all_same : AllByRecursion (λ (item : FromItem). SameFound (λ n. source_named n schema) (in_schema db) item.table) query.froms
  all_same = none_missing db sources there query.froms
      (map_empty (λ (item : FromItem). NoTable (name_text item.table)) (filter (λ (item : FromItem). is_none (source_named item.table schema)) query.froms) (left_empty (missing_tables query.froms schema) (names_twice (map from_name query.froms)) (left_empty (missing_tables query.froms schema ++ names_twice (map from_name query.froms)) (column_refusals (from_sources query.froms schema) query) accepted)))

  -- the tables under their FROM names are those of the check
  pub called_are : from_sources query.froms schema ≡ called_sources (map from_name query.froms) sources
  called_are = called_same (λ n. source_named n schema) (in_schema db) query.froms all_same ∙ ap (called_sources (map from_name query.froms)) (sym tables)

  first_from : (froms : List FromItem) → (froms ≡ [] → ⊥) → AllByRecursion (λ (item : FromItem). SameFound (λ n. source_named n schema) (in_schema db) item.table) froms
      → (first : Source) × (others : List Source) × (found (λ n. source_named n schema) (in_schema db) froms ≡ first ∷ others)
  first_from [] some a = absurd (some refl)
  first_from (item ∷ froms) some a = (a.0.source, found (λ n. source_named n schema) (in_schema db) froms, ap (λ o. cons_option o (found (λ n. source_named n schema) (in_schema db) froms)) a.0.there)

  query_is : (stmt : StmtTree) → called_in stmt ≡ map from_name query.froms → condition_of stmt ≡ query.cond → (query.froms ≡ [] → ⊥) → IfWritten IsPlainCond query.cond → cond_left_out query.cond ≡ false → StatementIs stmt sources
  query_is stmt called is some plain fine =
      let one = first_from query.froms some all_same in
      let parts = column_parts (from_sources query.froms schema) query (right_empty (missing_tables query.froms schema ++ names_twice (map from_name query.froms)) (column_refusals (from_sources query.froms schema) query) accepted) in
      record {
        first = one.0;
        others = one.1;
        some = tables ∙ one.2;
        checked =
            subst (λ (names : List (List ℕ)). CondChecked (called_sources names sources) (condition_of stmt)) (sym called)
            (subst (λ (o : Option CondTree). CondChecked (called_sources (map from_name query.froms) sources) o) (sym is)
            (subst (λ (called : List NamedSource). CondChecked called query.cond) called_are (record { plain = plain; fine = fine; placed = parts.0; fit = parts.1 })));
      }

-- a checked statement that keeps rows, over a valid database
pub statement_is : (stmt : StmtTree) (sources : List Source) (db : Db) → keeps_rows stmt ≡ true → IsFormed stmt → check_refusal stmt (record { tables = sources }) ≡ None
    → sources ≡ sources_named (tables_of stmt) (schema_of db) → IsValid db → AllByRecursion (InDb db) sources → StatementIs stmt sources
statement_is (CreateTable table columns) sources db keeps formed accepted tables valid there = cc
statement_is (DropTable table) sources db keeps formed accepted tables valid there = cc
statement_is (AlterTable table column) sources db keeps formed accepted tables valid there = cc
statement_is (InsertInto table listed rows) sources db keeps formed accepted tables valid there = cc
statement_is (DeleteFrom table condition) sources db keeps formed accepted tables valid there =
    change_is (DeleteFrom table condition) table condition sources (source_named table (schema_of db)) (delete_refusals condition) refl refl formed.shaped
    (no_text (cond_left_out condition) (codes "ARITHMETIC IN WHERE") formed.kept) (delete_parts condition) tables
    (no_refusal (refusals_of (DeleteFrom table condition) (record { tables = sources })) accepted)
statement_is (UpdateTable table sets condition) sources db keeps formed accepted tables valid there =
    change_is (UpdateTable table sets condition) table condition sources (source_named table (schema_of db)) (update_refusals sets condition) refl refl formed.shaped.2
    (no_text (cond_left_out condition) (codes "ARITHMETIC IN WHERE") formed.kept) (update_parts sets condition) tables
    (no_refusal (refusals_of (UpdateTable table sets condition) (record { tables = sources })) accepted)
statement_is (Select query) sources db keeps formed accepted tables valid there =
    query_is db query sources there tables (no_refusal (query_refusals query (record { tables = sources })) accepted) (Select query) refl refl formed.shaped.froms formed.shaped.cond
    (query_left query (length query.froms == 0) formed.kept)
statement_is (ExplainSelect query) sources db keeps formed accepted tables valid there =
    query_is db query sources there tables (no_refusal (query_refusals query (record { tables = sources })) accepted) (ExplainSelect query) refl refl formed.shaped.froms formed.shaped.cond
    (query_left query (length query.froms == 0) formed.kept)

-- ## New values

set_placed : (sets : List (List ℕ × ExprTree)) (condition : Option CondTree) (source : Source) → update_refusals sets condition source ≡ []
    → bad_in_exprs (own_source source ∷ []) (map (λ (set : List ℕ × ExprTree). set.1) sets ++ exprs_of_cond condition) ≡ []
set_placed sets condition source e = right_empty unknown placed (left_empty (unknown ++ placed) twice (left_empty (unknown ++ placed ++ twice) misfit e))
  where
    unknown : List Refusal
    unknown = unknown_names source.columns (map (λ (set : List ℕ × ExprTree). set.0) sets)

    placed : List Refusal
    placed = bad_in_exprs (own_source source ∷ []) (map (λ (set : List ℕ × ExprTree). set.1) sets ++ exprs_of_cond condition)

    twice : List Refusal
    twice = names_twice (map (λ (set : List ℕ × ExprTree). set.0) sets)

    misfit : List Refusal
    misfit = refused_if (list_any (is_misfit_set (own_source source ∷ []) source.columns) sets || is_misfit_cond (own_source source ∷ []) condition) KindsDiffer

-- the references of the values that columns are set to mean columns
pub values_placed : (stmt : StmtTree) (sources : List Source) (db : Db) → is_write stmt ≡ true → check_refusal stmt (record { tables = sources }) ≡ None
    → sources ≡ sources_named (tables_of stmt) (schema_of db) → AllByRecursion (ArePlaced (called_sources (called_in stmt) sources)) (new_values stmt)
values_placed (DeleteFrom table condition) sources db w accepted tables = tt
values_placed (UpdateTable table sets condition) sources db w accepted tables =
    let one = one_table table sources (source_named table (schema_of db)) (update_refusals sets condition) tables (no_refusal (refusals_of (UpdateTable table sets condition) (record { tables = sources })) accepted) in
    subst (λ (called : List NamedSource). AllByRecursion (ArePlaced called) (map (λ (set : List ℕ × ExprTree). set.1) sets)) one.own
    (all_parts (ArePlaced (own_source one.source ∷ [])) (map (λ (set : List ℕ × ExprTree). set.1) sets) (exprs_of_cond condition)
    (all_placed (own_source one.source ∷ []) (map (λ (set : List ℕ × ExprTree). set.1) sets ++ exprs_of_cond condition) (set_placed sets condition one.source one.accepted))).0
values_placed (CreateTable table columns) sources db w accepted tables = cc
values_placed (DropTable table) sources db w accepted tables = cc
values_placed (AlterTable table column) sources db w accepted tables = cc
values_placed (InsertInto table listed rows) sources db w accepted tables = cc
values_placed (Select query) sources db w accepted tables = cc
values_placed (ExplainSelect query) sources db w accepted tables = cc

each_fit : (called : List NamedSource) (columns : List Column) (sets : List (List ℕ × ExprTree)) → list_any (is_misfit_set called columns) sets ≡ false
    → AllByRecursion (λ e. is_misfit called e ≡ false) (map (λ (set : List ℕ × ExprTree). set.1) sets)
each_fit called columns [] e = tt
each_fit called columns (set ∷ sets) e =
    let parts = or_parts (is_misfit_set called columns set) (list_any (is_misfit_set called columns) sets) e in
    ((or_parts (is_misfit called set.1) _ parts.0).0, each_fit called columns sets parts.1)

-- the kinds in the values that columns are set to fit
pub values_fit : (stmt : StmtTree) (sources : List Source) (db : Db) → is_write stmt ≡ true → check_refusal stmt (record { tables = sources }) ≡ None
    → sources ≡ sources_named (tables_of stmt) (schema_of db) → AllByRecursion (λ e. is_misfit (called_sources (called_in stmt) sources) e ≡ false) (new_values stmt)
values_fit (DeleteFrom table condition) sources db w accepted tables = tt
values_fit (UpdateTable table sets condition) sources db w accepted tables =
    let one = one_table table sources (source_named table (schema_of db)) (update_refusals sets condition) tables (no_refusal (refusals_of (UpdateTable table sets condition) (record { tables = sources })) accepted) in
    subst (λ (called : List NamedSource). AllByRecursion (λ e. is_misfit called e ≡ false) (map (λ (set : List ℕ × ExprTree). set.1) sets)) one.own
    (each_fit (own_source one.source ∷ []) one.source.columns sets
    (or_parts (list_any (is_misfit_set (own_source one.source ∷ []) one.source.columns) sets) (is_misfit_cond (own_source one.source ∷ []) condition)
    (not_refused (list_any (is_misfit_set (own_source one.source ∷ []) one.source.columns) sets || is_misfit_cond (own_source one.source ∷ []) condition) KindsDiffer
    (right_empty
    (unknown_names one.source.columns (map (λ (set : List ℕ × ExprTree). set.0) sets) ++ bad_in_exprs (own_source one.source ∷ []) (map (λ (set : List ℕ × ExprTree). set.1) sets ++ exprs_of_cond condition)
    ++ names_twice (map (λ (set : List ℕ × ExprTree). set.0) sets))
    (refused_if (list_any (is_misfit_set (own_source one.source ∷ []) one.source.columns) sets || is_misfit_cond (own_source one.source ∷ []) condition) KindsDiffer) one.accepted))).0)
values_fit (CreateTable table columns) sources db w accepted tables = cc
values_fit (DropTable table) sources db w accepted tables = cc
values_fit (AlterTable table column) sources db w accepted tables = cc
values_fit (InsertInto table listed rows) sources db w accepted tables = cc
values_fit (Select query) sources db w accepted tables = cc
values_fit (ExplainSelect query) sources db w accepted tables = cc
