-- Which statements are refused over a schema: the refusals of a statement in their order, of which the first is the answer.
use Rattle.std.specs.Prelude.{ℕ, List, [], ◌∷◌, ◌++◌, length, map, filter, filter_map, flat_map, take, zip, find, Bool, false, not, ◌||◌, ◌==◌, nat_lt, if◌then◌else◌, bytes_eq, decimal, slice_get, Option, Some, None, is_some, is_none}
use Rattle.std.specs.List.{enumerate_from, list_any}
use Rattle.std.specs.Option.{option_to_list}
use Rattle.cell_core.specs.declared.cell.Cell.{Cell}
use Rattle.cell_core.specs.declared.table.Column.{Column}
use Rattle.cell_core.specs.Kinds.{kind_of, agrees}
use Rattle.sql_tree.specs.Names.{name_text}
use Rattle.sql_tree.specs.Tree.{ExprTree, CondTree, ItemTree, QueryTree, StmtTree}
use Rattle.sql_tree.specs.Tree.StmtTree.{CreateTable, DropTable, AlterTable, InsertInto, DeleteFrom, UpdateTable, Select, ExplainSelect}
use Rattle.sql_tree.specs.declared.tree.ColRef.{ColRef}
use Rattle.sql_tree.specs.declared.tree.FromItem.{FromItem}
use Rattle.sql_tree.specs.declared.tree.Place.{Place}
use Rattle.sql_tree.specs.declared.tree.Place.TheVariants.{Position, Named}
use Rattle.sql_tree.specs.declared.tree.SortKey.{SortKey}
use Rattle.sql_definitions.specs.declared.refusal.Refusal.{Refusal}
use Rattle.sql_definitions.specs.declared.refusal.Refusal.TheVariants.{NoTable, TableExists, NoColumn, Ambiguous, KindsDiffer, WrongCount, NameTwice, NotGrouped}
use Rattle.sql_definitions.specs.declared.source.Schema.{Schema}
use Rattle.sql_definitions.specs.declared.source.Source.{Source}
use Rattle.sql_definitions.specs.Sources.{NamedSource, source_named, from_name, from_sources, called_sources, places, place_of, same_place}
use Rattle.sql_tree.specs.Exprs.{exprs_of_cond}
use Rattle.sql_definitions.specs.References.{references, outer_references, items_of, item_exprs, is_grouped}
use Rattle.sql_definitions.specs.Kinds.{kind_of_expr, is_misfit, is_cond_misfit}
use Rattle.sql_definitions.specs.Answer.{key_place}

-- ## Parts

-- the refusal, where its cause holds
abbrev pub refused_if : Bool → Refusal → List Refusal
refused_if cause refusal = if cause then refusal ∷ [] else []

-- the names that repeat an earlier one
abbrev pub repeated : List (List ℕ) → List (List ℕ)
repeated names =
    map (λ (at : ℕ × List ℕ). at.1) (filter (λ (at : ℕ × List ℕ). list_any (bytes_eq at.1) (take at.0 names)) (enumerate_from 0 names))

abbrev pub names_twice : List (List ℕ) → List Refusal
names_twice names = map (λ name. NameTwice (name_text name)) (repeated names)

-- the columns with these names
abbrev pub column_named : List Column → List ℕ → Option Column
column_named columns name = find (λ (column : Column). bytes_eq column.name name) columns

-- the names that no column has
abbrev pub unknown_names : List Column → List (List ℕ) → List Refusal
unknown_names columns names =
    map (λ name. NoColumn (name_text name)) (filter (λ name. is_none (column_named columns name)) names)

-- the refusal of a reference with these places: it means no column, or more than one
abbrev pub misplaced : ColRef → List (ℕ × ℕ) → List Refusal
misplaced ref [] = NoColumn (name_text ref.column) ∷ []
misplaced ref (place ∷ []) = []
misplaced ref (place ∷ other ∷ more) = Ambiguous (name_text ref.column) ∷ []

abbrev pub bad_references : List NamedSource → List ColRef → List Refusal
bad_references sources refs = flat_map (λ (ref : ColRef). misplaced ref (places sources ref)) refs

abbrev pub bad_in_exprs : List NamedSource → List ExprTree → List Refusal
bad_in_exprs sources exprs = bad_references sources (flat_map references exprs)

abbrev pub is_misfit_cond : List NamedSource → Option CondTree → Bool
is_misfit_cond sources None = false
is_misfit_cond sources (Some cond) = is_cond_misfit sources cond

-- ## CREATE, DROP and ALTER

-- the default is of another kind than the column
abbrev pub is_misfit_default : Column → Bool
is_misfit_default column = not (agrees (kind_of column.default) (Some column.kind))

abbrev pub create_refusals : List ℕ → List Column → Schema → List Refusal
create_refusals table columns schema =
    refused_if (is_some (source_named table schema)) (TableExists (name_text table))
    ++ names_twice (map (λ (column : Column). column.name) columns)
    ++ refused_if (list_any is_misfit_default columns) KindsDiffer

abbrev pub drop_refusals : List ℕ → Schema → List Refusal
drop_refusals table schema = refused_if (is_none (source_named table schema)) (NoTable (name_text table))

-- the refusals of an added column: another column has its name, or its default is of another kind
abbrev pub alter_refusals : Column → Source → List Refusal
alter_refusals column source =
    refused_if (is_some (column_named source.columns column.name)) (NameTwice (name_text column.name)) ++ refused_if (is_misfit_default column) KindsDiffer

-- ## INSERT

-- the columns that the values of a row go to: all of them where none is listed
abbrev pub targets : List Column → List (List ℕ) → List Column
targets columns listed = if length listed == 0 then columns else filter_map (column_named columns) listed

-- a row has more or fewer values than there are columns that they go to
abbrev pub is_wrong_count : List Column → List (List Cell) → Bool
is_wrong_count columns rows = list_any (λ (row : List Cell). not (length row == length columns)) rows

-- a value is of another kind than its column
abbrev pub is_misfit_row : List Column → List Cell → Bool
is_misfit_row columns row = list_any (λ (at : Column × Cell). not (agrees (kind_of at.1) (Some at.0.kind))) (zip columns row)

abbrev pub insert_refusals : List (List ℕ) → List (List Cell) → Source → List Refusal
insert_refusals listed rows source =
    unknown_names source.columns listed
    ++ names_twice listed
    ++ refused_if (is_wrong_count (targets source.columns listed) rows) WrongCount
    ++ refused_if (list_any (is_misfit_row (targets source.columns listed)) rows) KindsDiffer

-- ## DELETE and UPDATE

-- the one table of a change, under its own name
abbrev pub own_source : Source → NamedSource
own_source source = record { name = source.table; columns = source.columns }

abbrev pub delete_refusals : Option CondTree → Source → List Refusal
delete_refusals cond source =
    bad_in_exprs (own_source source ∷ []) (exprs_of_cond cond)
    ++ refused_if (is_misfit_cond (own_source source ∷ []) cond) KindsDiffer

-- a column is set to a value of another kind
abbrev pub is_misfit_set : List NamedSource → List Column → List ℕ × ExprTree → Bool
is_misfit_set sources columns set =
    is_misfit sources set.1 || list_any (λ (column : Column). not (agrees (kind_of_expr sources set.1) (Some column.kind))) (option_to_list (column_named columns set.0))

abbrev pub update_refusals : List (List ℕ × ExprTree) → Option CondTree → Source → List Refusal
update_refusals sets cond source =
    unknown_names source.columns (map (λ (set : List ℕ × ExprTree). set.0) sets)
    ++ bad_in_exprs (own_source source ∷ []) (map (λ (set : List ℕ × ExprTree). set.1) sets ++ exprs_of_cond cond)
    ++ names_twice (map (λ (set : List ℕ × ExprTree). set.0) sets)
    ++ refused_if (list_any (is_misfit_set (own_source source ∷ []) source.columns) sets || is_misfit_cond (own_source source ∷ []) cond) KindsDiffer

-- ## Queries

abbrev pub missing_tables : List FromItem → Schema → List Refusal
missing_tables froms schema =
    map (λ (from : FromItem). NoTable (name_text from.table)) (filter (λ (from : FromItem). is_none (source_named from.table schema)) froms)

-- the number of a key is no position among the items
abbrev pub bad_key : List NamedSource → List ItemTree → Place → List Refusal
bad_key sources items (Position n) = refused_if (is_none (key_place sources items (Position n))) (NoColumn (decimal n))
bad_key sources items (Named ref) =
    if is_some (key_place sources items (Named ref)) then []
    else if nat_lt 1 (length (places sources ref)) then Ambiguous (name_text ref.column) ∷ [] else NoColumn (name_text ref.column) ∷ []

abbrev pub bad_keys : List NamedSource → QueryTree → List Refusal
bad_keys sources query = flat_map (λ (key : SortKey). bad_key sources (items_of sources query) key.at) query.keys

-- the column is one of those of GROUP BY
abbrev pub is_group_column : List NamedSource → List ColRef → ColRef → Bool
is_group_column sources groups ref = list_any (λ group. same_place (place_of sources group) (place_of sources ref)) groups

-- the columns of items and of HAVING, outside aggregates, that a grouped query isn't grouped by
abbrev pub not_grouped : List NamedSource → QueryTree → List Refusal
not_grouped sources query =
    if is_grouped query
    then map (λ (ref : ColRef). NotGrouped (name_text ref.column)) (filter (λ ref. not (is_group_column sources query.groups ref)) (flat_map outer_references (item_exprs sources query ++ exprs_of_cond query.having)))
    else []

-- kinds don't fit somewhere in the query
abbrev pub is_misfit_query : List NamedSource → QueryTree → Bool
is_misfit_query sources query =
    list_any (is_misfit sources) (item_exprs sources query) || is_misfit_cond sources query.cond || is_misfit_cond sources query.having

-- the refusals of a query whose tables exist, under names that differ
abbrev pub column_refusals : List NamedSource → QueryTree → List Refusal
column_refusals sources query =
    bad_in_exprs sources (item_exprs sources query ++ exprs_of_cond query.cond)
    ++ bad_references sources query.groups
    ++ bad_in_exprs sources (exprs_of_cond query.having)
    ++ bad_keys sources query
    ++ not_grouped sources query
    ++ refused_if (is_misfit_query sources query) KindsDiffer

abbrev pub query_refusals : QueryTree → Schema → List Refusal
query_refusals query schema =
    missing_tables query.froms schema
    ++ names_twice (map from_name query.froms)
    ++ column_refusals (from_sources query.froms schema) query

-- ## Statements

-- the refusals of a change of a table, or that no table has this name
abbrev pub over_table : List ℕ → Option Source → (Source → List Refusal) → List Refusal
over_table table None change = NoTable (name_text table) ∷ []
over_table table (Some source) change = change source

-- all refusals of a statement, in their order
abbrev pub refusals_of : StmtTree → Schema → List Refusal
refusals_of (CreateTable table columns) schema = create_refusals table columns schema
refusals_of (DropTable table) schema = drop_refusals table schema
refusals_of (AlterTable table column) schema = over_table table (source_named table schema) (alter_refusals column)
refusals_of (InsertInto table listed rows) schema = over_table table (source_named table schema) (insert_refusals listed rows)
refusals_of (DeleteFrom table cond) schema = over_table table (source_named table schema) (delete_refusals cond)
refusals_of (UpdateTable table sets cond) schema = over_table table (source_named table schema) (update_refusals sets cond)
refusals_of (Select query) schema = query_refusals query schema
refusals_of (ExplainSelect query) schema = query_refusals query schema

-- the refusal of a statement by the check, or None where it is accepted
abbrev pub check_refusal : StmtTree → Schema → Option Refusal
check_refusal stmt schema = slice_get (refusals_of stmt schema) 0

-- ## What a checked statement carries

-- the tables of a schema with these names
abbrev pub sources_named : List (List ℕ) → Schema → List Source
sources_named names schema = filter_map (λ name. source_named name schema) names

-- the tables that a statement names: of a query those of FROM, in order, of CREATE none, and of any other its own
abbrev pub tables_of : StmtTree → List (List ℕ)
tables_of (CreateTable table columns) = []
tables_of (DropTable table) = table ∷ []
tables_of (AlterTable table column) = table ∷ []
tables_of (InsertInto table listed rows) = table ∷ []
tables_of (DeleteFrom table cond) = table ∷ []
tables_of (UpdateTable table sets cond) = table ∷ []
tables_of (Select query) = map (λ (from : FromItem). from.table) query.froms
tables_of (ExplainSelect query) = map (λ (from : FromItem). from.table) query.froms

-- the names that it calls them
abbrev pub called_in : StmtTree → List (List ℕ)
called_in (Select query) = map from_name query.froms
called_in (ExplainSelect query) = map from_name query.froms
called_in (CreateTable table columns) = []
called_in (DropTable table) = table ∷ []
called_in (AlterTable table column) = table ∷ []
called_in (InsertInto table listed rows) = table ∷ []
called_in (DeleteFrom table cond) = table ∷ []
called_in (UpdateTable table sets cond) = table ∷ []

-- tables under the names that a statement calls them
abbrev pub sources_called : StmtTree → List Source → List NamedSource
sources_called stmt sources = called_sources (called_in stmt) sources
