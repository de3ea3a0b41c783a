-- A statement is refused over the tables that it names as it is over all.
use Rattle.std.proofs.Common.{◌≡◌, ℕ, List, [], ◌∷◌, ◌++◌, map, filter, filter_map, Bool, true, false, cond, refl, ap, sym, subst, ◌∙◌, Option, Some, None}
use Rattle.std.specs.Prelude.{bytes_eq, find, is_some, is_none, slice_get}
use Rattle.std.specs.List.{list_any, cons_option}
use Rattle.std.specs.Option.{option_map}
use Rattle.std.proofs.lemmas.List.{append_assoc}
use Rattle.std.proofs.lemmas.Slice.Eq.{bytes_eq-Decides}
use Rattle.cell_core.specs.declared.table.Column.{Column}
use Rattle.sql_tree.specs.Names.{name_text}
use Rattle.sql_tree.specs.Tree.{QueryTree, StmtTree}
use Rattle.sql_tree.specs.Tree.StmtTree.{CreateTable, DropTable, AlterTable, InsertInto, DeleteFrom, UpdateTable, Select, ExplainSelect}
use Rattle.sql_tree.specs.declared.tree.FromItem.{FromItem}
use Rattle.sql_definitions.specs.declared.refusal.Refusal.{Refusal}
use Rattle.sql_definitions.specs.declared.refusal.Refusal.TheVariants.{NoTable, TableExists, KindsDiffer}
use Rattle.sql_definitions.specs.declared.source.Schema.{Schema}
use Rattle.sql_definitions.specs.declared.source.Source.{Source}
use Rattle.sql_definitions.specs.Sources.{NamedSource, source_named, from_name, from_sources}
use Rattle.sql_definitions.specs.Check.{refused_if, names_twice, is_misfit_default, insert_refusals, alter_refusals, delete_refusals, update_refusals, drop_refusals, over_table, missing_tables, column_refusals, query_refusals, refusals_of, check_refusal, sources_named, tables_of}
use Rattle.sql_check.specs.First.{first}

-- ## The table of a name

-- the tables of a schema with these names, as a schema
abbrev own : List (List ℕ) → Schema → Schema
own names schema = record { tables = sources_named names schema }

has_name : (name : List ℕ) (tables : List Source) (source : Source) → find (λ (s : Source). bytes_eq s.table name) tables ≡ Some source → bytes_eq source.table name ≡ true
has_name name [] source e = cc
has_name name (s ∷ tables) source e =
    elim (bytes_eq s.table name) as (λ b. bytes_eq s.table name ≡ b → cond b (Some s) (find (λ (x : Source). bytes_eq x.table name) tables) ≡ Some source → bytes_eq source.table name ≡ true) [
      | true ↦ λ t f. let same : s ≡ source = cc in subst (λ (x : Source). bytes_eq x.table name ≡ true) same t
      | false ↦ λ t f. has_name name tables source f
    ] refl e

same_name : (a b : List ℕ) → bytes_eq a b ≡ true → a ≡ b
same_name a b e = (bytes_eq-Decides a b).0 e

-- a table that is found under one name isn't found under another under which there is none
not_named : (name other : List ℕ) (schema : Schema) (source : Source) → source_named other schema ≡ Some source → source_named name schema ≡ None
    → (b : Bool) → bytes_eq source.table name ≡ b → b ≡ false
not_named name other schema source found none false t = refl
not_named name other schema source found none true t =
    let is_name : source.table ≡ name = same_name source.table name t in
    let is_other : source.table ≡ other = same_name source.table other (has_name other schema.tables source found) in
    let again : source_named name schema ≡ Some source = ap (λ n. source_named n schema) (sym is_name ∙ is_other) ∙ found in
    cc

-- one more name, by what is found under it
abbrev with_found : List ℕ → Option Source → List Source → Option Source
with_found name found sources = find (λ (s : Source). bytes_eq s.table name) (cons_option found sources)

none_again : (name : List ℕ) (names : List (List ℕ)) (schema : Schema) → source_named name schema ≡ None → source_named name (own names schema) ≡ None
none_again name [] schema none = refl
none_again name (other ∷ names) schema none = by_found (none_again name names schema none) (source_named other schema) refl
  where
    by_found : source_named name (own names schema) ≡ None → (found : Option Source) → source_named other schema ≡ found
        → with_found name (source_named other schema) (sources_named names schema) ≡ None
    by_found again None e = ap (λ o. with_found name o (sources_named names schema)) e ∙ again
    by_found again (Some source) e =
        ap (λ o. with_found name o (sources_named names schema)) e
        ∙ ap (λ b. cond b (Some source) (source_named name (own names schema))) (not_named name other schema source e none (bytes_eq source.table name) refl)
        ∙ again

-- under a name that is one of these, the same is found
found_again : (front : List (List ℕ)) (name : List ℕ) (back : List (List ℕ)) (schema : Schema) → source_named name (own (front ++ name ∷ back) schema) ≡ source_named name schema
found_again [] name back schema = by_found (source_named name schema) refl
  where
    by_found : (found : Option Source) → source_named name schema ≡ found → with_found name (source_named name schema) (sources_named back schema) ≡ source_named name schema
    by_found None e = ap (λ o. with_found name o (sources_named back schema)) e ∙ none_again name back schema e ∙ sym e
    by_found (Some source) e =
        ap (λ o. with_found name o (sources_named back schema)) e
        ∙ ap (λ b. cond b (Some source) (source_named name (own back schema))) (has_name name schema.tables source e) ∙ sym e
found_again (other ∷ front) name back schema = by_found (found_again front name back schema) (source_named other schema) refl
  where
    rest : List (List ℕ)
    rest = front ++ name ∷ back

    by_name : source_named name (own rest schema) ≡ source_named name schema → (source : Source) → source_named other schema ≡ Some source → (b : Bool) → bytes_eq source.table name ≡ b
        → cond b (Some source) (source_named name (own rest schema)) ≡ source_named name schema
    by_name again source e true t =
        sym (ap (λ n. source_named n schema) (sym (same_name source.table name t) ∙ same_name source.table other (has_name other schema.tables source e)) ∙ e)
    by_name again source e false t = again

    by_found : source_named name (own rest schema) ≡ source_named name schema → (found : Option Source) → source_named other schema ≡ found
        → with_found name (source_named other schema) (sources_named rest schema) ≡ source_named name schema
    by_found again None e = ap (λ o. with_found name o (sources_named rest schema)) e ∙ again
    by_found again (Some source) e = ap (λ o. with_found name o (sources_named rest schema)) e ∙ by_name again source e (bytes_eq source.table name) refl

-- ## Queries

abbrev table_of : FromItem → List ℕ
table_of from = from.table

-- under the name of each table of FROM the same is found in two schemas
abbrev FindSame : Schema → Schema → List FromItem → Type 0
FindSame a b [] = Unit {0}
FindSame a b (from ∷ froms) = (source_named from.table a ≡ source_named from.table b) × FindSame a b froms

find_same : (front : List (List ℕ)) (froms : List FromItem) (schema : Schema) → FindSame (own (front ++ map table_of froms) schema) schema froms
find_same front [] schema = tt
find_same front (from ∷ froms) schema = (
  found_again front from.table (map table_of froms) schema,
  subst (λ names. FindSame (own names schema) schema froms) (append_assoc front (from.table ∷ []) (map table_of froms)) (find_same (front ++ from.table ∷ []) froms schema),
)

missing_same : (a b : Schema) (froms : List FromItem) → FindSame a b froms → missing_tables froms a ≡ missing_tables froms b
missing_same a b [] same = refl
missing_same a b (from ∷ froms) same =
    ap (λ (o : Option Source). map (λ (f : FromItem). NoTable (name_text f.table)) (cond (is_none o) (from ∷ filter (λ (f : FromItem). is_none (source_named f.table a)) froms) (filter (λ (f : FromItem). is_none (source_named f.table a)) froms))) same.0
    ∙ step (is_none (source_named from.table b)) (missing_same a b froms same.1)
  where
    left : Schema → List FromItem
    left schema = filter (λ (f : FromItem). is_none (source_named f.table schema)) froms

    step : (missing : Bool) → map (λ (f : FromItem). NoTable (name_text f.table)) (left a) ≡ map (λ (f : FromItem). NoTable (name_text f.table)) (left b)
        → map (λ (f : FromItem). NoTable (name_text f.table)) (cond missing (from ∷ left a) (left a)) ≡ map (λ (f : FromItem). NoTable (name_text f.table)) (cond missing (from ∷ left b) (left b))
    step true e = ap (λ (l : List Refusal). NoTable (name_text from.table) ∷ l) e
    step false e = e

abbrev named : FromItem → Source → NamedSource
named from source = record { name = from_name from; columns = source.columns }

sources_same : (a b : Schema) (froms : List FromItem) → FindSame a b froms → from_sources froms a ≡ from_sources froms b
sources_same a b [] same = refl
sources_same a b (from ∷ froms) same =
    ap (λ (o : Option Source). cons_option (option_map (named from) o) (from_sources froms a)) same.0
    ∙ ap (cons_option (option_map (named from) (source_named from.table b))) (sources_same a b froms same.1)

query_same : (query : QueryTree) (schema : Schema) → query_refusals query (own (map table_of query.froms) schema) ≡ query_refusals query schema
query_same query schema =
    let same = find_same [] query.froms schema in
    let over = own (map table_of query.froms) schema in
    ap (λ (l : List Refusal). l ++ names_twice (map from_name query.froms) ++ column_refusals (from_sources query.froms over) query) (missing_same over schema query.froms same)
    ∙ ap (λ (l : List NamedSource). missing_tables query.froms schema ++ names_twice (map from_name query.froms) ++ column_refusals l query) (sources_same over schema query.froms same)

-- ## Statements

change_same : (name : List ℕ) (schema : Schema) (change : Source → List Refusal)
    → first (over_table name (source_named name (own (name ∷ []) schema)) change) ≡ first (over_table name (source_named name schema) change)
change_same name schema change = ap (λ (o : Option Source). first (over_table name o change)) (found_again [] name [] schema)

-- a statement that isn't refused over a schema isn't refused over the tables that it names
pub accepted_over_own : (stmt : StmtTree) (schema : Schema) → check_refusal stmt schema ≡ None → check_refusal stmt (own (tables_of stmt) schema) ≡ None
accepted_over_own (CreateTable name columns) schema e = create (is_some (source_named name schema)) e
  where
    create : (there : Bool) → first (refused_if there (TableExists (name_text name)) ++ names_twice (map (λ (column : Column). column.name) columns) ++ refused_if (list_any is_misfit_default columns) KindsDiffer) ≡ None
        → first (names_twice (map (λ (column : Column). column.name) columns) ++ refused_if (list_any is_misfit_default columns) KindsDiffer) ≡ None
    create true f = cc
    create false f = f
accepted_over_own (DropTable name) schema e = ap (λ (o : Option Source). first (refused_if (is_none o) (NoTable (name_text name)))) (found_again [] name [] schema) ∙ e
accepted_over_own (AlterTable name column) schema e = change_same name schema (alter_refusals column) ∙ e
accepted_over_own (InsertInto name listed rows) schema e = change_same name schema (insert_refusals listed rows) ∙ e
accepted_over_own (DeleteFrom name c) schema e = change_same name schema (delete_refusals c) ∙ e
accepted_over_own (UpdateTable name sets c) schema e = change_same name schema (update_refusals sets c) ∙ e
accepted_over_own (Select query) schema e = ap first (query_same query schema) ∙ e
accepted_over_own (ExplainSelect query) schema e = ap first (query_same query schema) ∙ e

-- the same of an equal statement and equal tables
pub accepted_over : (stmt copy : StmtTree) (schema : Schema) (sources : List Source) → copy ≡ stmt → sources ≡ sources_named (tables_of stmt) schema
    → check_refusal stmt schema ≡ None → check_refusal copy (record { tables = sources }) ≡ None
accepted_over stmt copy schema sources is_copy are_sources e =
    ap (λ (t : StmtTree). check_refusal t (record { tables = sources })) is_copy
    ∙ ap (λ (l : List Source). check_refusal stmt (record { tables = l })) are_sources
    ∙ accepted_over_own stmt schema e
