-- What a formed statement leaves of a valid database is valid.
use Rattle.std.proofs.Common.{◌≡◌, ℕ, ◌==◌, List, [], ◌∷◌, ◌++◌, map, filter, length, Bool, true, false, not, ◌||◌, cond, Option, Some, None, refl, ap, sym, ◌∙◌, arith}
use Rattle.std.specs.Prelude.{◌≢◌, bytes_eq, is_some, is_none, slice_get, Ok, Err, IfOk}
use Rattle.std.specs.List.{list_any, list_all, AllByRecursion}
use Rattle.std.specs.Option.{option_map}
use Rattle.std.proofs.lemmas.Bool.{and_parts, and_from, or_parts, not-false}
use Rattle.std.proofs.lemmas.List.{map-append}
use Rattle.std.proofs.lemmas.List.Folds.{list_all-append}
use Rattle.cell_core.specs.declared.cell.Cell.{Cell}
use Rattle.cell_core.specs.declared.cell.Kind.{Kind}
use Rattle.cell_core.specs.declared.cell.Kind.TheVariants as kind
use Rattle.cell_core.specs.declared.table.Column.{Column}
use Rattle.cell_core.specs.declared.table.Table.{Table}
use Rattle.cell_core.specs.declared.table.Db.{Db}
use Rattle.cell_core.specs.Tables.{first_named, grown, named_table, with_column, names_differ}
use Rattle.sql_tree.specs.Names.{name_text}
use Rattle.sql_tree.specs.Tree.{ExprTree, CondTree, StmtTree}
use Rattle.sql_tree.specs.Tree.StmtTree.{CreateTable, DropTable, AlterTable, InsertInto, DeleteFrom, UpdateTable, Select, ExplainSelect}
use Rattle.sql_definitions.specs.declared.refusal.Refusal.{Refusal}
use Rattle.sql_definitions.specs.declared.refusal.Refusal.TheVariants.{TableExists, WrongCount, KindsDiffer, NameTwice, TextTooLong}
use Rattle.sql_definitions.specs.declared.source.Source.{Source}
use Rattle.sql_tree.specs.Exprs.{exprs_of_cond}
use Rattle.sql_definitions.specs.Sources.{source_named, schema_of}
use Rattle.sql_definitions.specs.Check.{refused_if, names_twice, unknown_names, column_named, targets, is_wrong_count, is_misfit_row, is_misfit_set, is_misfit_cond, is_misfit_default, bad_in_exprs, create_refusals, alter_refusals, insert_refusals, update_refusals, over_table, check_refusal}
use Rattle.sql_definitions.specs.Effect.{Change, unless_refused, placed, inserted, own_table, is_hit, deleted, updated_row, updated, changed_by, changed, done_by, is_long_default, column_refused, created, dropped, altered, accepted, effect_unless, effect, replay_from}
use Rattle.sql_definitions.specs.Valid.{column_names, is_stored, is_valid_column, are_valid_columns, fits_columns, is_valid_table, IsValid}
use Rattle.sql_grammar.specs.Formed.{IsColumnKind, IsShapedColumn, IsShaped, IsFormed}
use Rattle.sql_kinds.proofs.NameLemmas.{map_empty, left_empty, right_empty, differ, names_more, not_there}
use Rattle.sql_kinds.proofs.CellLemmas.{cell_agrees}
use Rattle.sql_kinds.proofs.RowLemmas.{columns_differ, columns_valid, fits_more, placed_fits, updated_fits}
use Rattle.sql_kinds.proofs.TableLemmas.{all_left, all_mapped, all_made, as_source, source_is, found_holds, same_names, changed_hold, new_differs, left_differ}

-- ## Refusals

none_first : (refusals : List Refusal) → slice_get refusals 0 ≡ None → refusals ≡ []
none_first [] e = refl
none_first (refusal ∷ more) e = cc

not_refused : (b : Bool) (refusal : Refusal) → refused_if b refusal ≡ [] → b ≡ false
not_refused true refusal e = cc
not_refused false refusal e = refl

-- an accepted change is one of a table that exists, and is accepted over its columns
over_found : (name : List ℕ) (db : Db) (table : Table) (change : Source → List Refusal) → named_table name db ≡ Some table
    → slice_get (over_table name (source_named name (schema_of db)) change) 0 ≡ None → change (as_source table) ≡ []
over_found name db table change found e =
    none_first (change (as_source table))
    (sym (ap (λ o. slice_get (over_table name o change) 0) (source_is name db.tables ∙ ap (option_map as_source) found)) ∙ e)

-- ## Changes

-- the rows that a change leaves fit the columns
abbrev FitAfter : List Column → Change → Type 0
FitAfter columns change = IfOk change (λ outcome. list_all (fits_columns columns) outcome.0 ≡ true)

unless_fit : (columns : List Column) (refusals : List Refusal) (rows : List (List Cell)) (n : ℕ) → list_all (fits_columns columns) rows ≡ true
    → FitAfter columns (unless_refused refusals (rows, n))
unless_fit columns [] rows n e = e
unless_fit columns (refusal ∷ more) rows n e = tt

abbrev new_rows : List (List Cell) → Table → Table
new_rows rows table = record table { rows = rows }

changed_holds : (name : List ℕ) (db : Db) (table : Table) (change : Change) → IsValid db → named_table name db ≡ Some table → is_valid_table table ≡ true
    → FitAfter table.columns change → IsValid (changed_by name change db).0
changed_holds name db table (Err refusal) holds found valid fit = holds
changed_holds name db table (Ok outcome) holds found valid fit = record {
  names = ap names_differ (same_names name (new_rows outcome.0) (λ t. refl) db.tables) ∙ holds.names;
  tables = changed_hold name (new_rows outcome.0) db.tables table holds.names holds.tables found (and_from _ _ (and_parts _ _ valid).0 fit);
}

change_holds : (name : List ℕ) (db : Db) (change : Table → Change) → IsValid db
    → ((table : Table) → named_table name db ≡ Some table → is_valid_table table ≡ true → FitAfter table.columns (change table))
    → (found : Option Table) → named_table name db ≡ found → IsValid (changed name change found db).0
change_holds name db change holds fit None e = holds
change_holds name db change holds fit (Some table) e =
    let valid : is_valid_table table ≡ true = found_holds name db.tables table holds.tables e in
    changed_holds name db table (change table) holds e valid (fit table e valid)

-- ## INSERT

inserted_fit : (listed : List (List ℕ)) (rows : List (List Cell)) (table : Table) → is_valid_table table ≡ true → insert_refusals listed rows (as_source table) ≡ []
    → FitAfter table.columns (inserted listed rows table)
inserted_fit listed rows table holds accepted =
    unless_fit table.columns _ (table.rows ++ map (placed table.columns listed) rows) (length rows)
    (list_all-append (fits_columns table.columns) table.rows (map (placed table.columns listed) rows)
    ∙ and_from _ _ (and_parts _ _ holds).1
    (all_made (λ (row : List Cell). not (length row == length (targets table.columns listed))) (is_misfit_row (targets table.columns listed)) (fits_columns table.columns) (placed table.columns listed)
    (λ row count fits. placed_fits table.columns listed row (and_parts _ _ holds).0 known (not-false _ count) fits) rows counted fitting))
  where
    unknown : List Refusal
    unknown = unknown_names table.columns listed

    twice : List Refusal
    twice = names_twice listed

    wrong : List Refusal
    wrong = refused_if (is_wrong_count (targets table.columns listed) rows) WrongCount

    misfit : List Refusal
    misfit = refused_if (list_any (is_misfit_row (targets table.columns listed)) rows) KindsDiffer

    first_three : (unknown ++ twice) ++ wrong ≡ []
    first_three = left_empty ((unknown ++ twice) ++ wrong) misfit accepted

    known : filter (λ name. is_none (column_named table.columns name)) listed ≡ []
    known = map_empty _ _ (left_empty unknown twice (left_empty (unknown ++ twice) wrong first_three))

    counted : is_wrong_count (targets table.columns listed) rows ≡ false
    counted = not_refused _ WrongCount (right_empty (unknown ++ twice) wrong first_three)

    fitting : list_any (is_misfit_row (targets table.columns listed)) rows ≡ false
    fitting = not_refused _ KindsDiffer (right_empty ((unknown ++ twice) ++ wrong) misfit accepted)

-- ## DELETE and UPDATE

deleted_fit : (c : Option CondTree) (table : Table) → is_valid_table table ≡ true → FitAfter table.columns (deleted c table)
deleted_fit c table holds =
    unless_fit table.columns _ (filter (λ row. not (is_hit c table row)) table.rows) (length (filter (is_hit c table) table.rows))
    (all_left (fits_columns table.columns) (λ row. not (is_hit c table row)) table.rows (and_parts _ _ holds).1)

updated_fit : (sets : List (List ℕ × ExprTree)) (c : Option CondTree) (table : Table) → is_valid_table table ≡ true → update_refusals sets c (as_source table) ≡ []
    → FitAfter table.columns (updated sets c table)
updated_fit sets c table holds accepted =
    unless_fit table.columns _ (map (λ row. cond (is_hit c table row) (updated_row sets table row) row) table.rows) (length (filter (is_hit c table) table.rows))
    (all_mapped (fits_columns table.columns) (fits_columns table.columns) (λ row. cond (is_hit c table row) (updated_row sets table row) row) kept table.rows (and_parts _ _ holds).1)
  where
    others : List Refusal
    others = unknown_names table.columns (map (λ (set : List ℕ × ExprTree). set.0) sets)
        ++ bad_in_exprs (own_table table) (map (λ (set : List ℕ × ExprTree). set.1) sets ++ exprs_of_cond c)
        ++ names_twice (map (λ (set : List ℕ × ExprTree). set.0) sets)

    fitting : list_any (is_misfit_set (own_table table) table.columns) sets ≡ false
    fitting = (or_parts _ _ (not_refused (list_any (is_misfit_set (own_table table) table.columns) sets || is_misfit_cond (own_table table) c) KindsDiffer (right_empty others _ accepted))).0

    kept : (row : List Cell) → fits_columns table.columns row ≡ true → fits_columns table.columns (cond (is_hit c table row) (updated_row sets table row) row) ≡ true
    kept row fits = elim (is_hit c table row) as (λ b. fits_columns table.columns (cond b (updated_row sets table row) row) ≡ true) [
      | true ↦ updated_fits table sets (columns_differ table.columns (and_parts _ _ holds).0) fitting row fits
      | false ↦ fits
    ]

-- ## CREATE, ALTER and DROP

-- what a statement that replies that it is done leaves
done_holds : (refusals : List Refusal) (left db : Db) → IsValid db → IsValid left → IsValid (done_by (unless_refused refusals left) db).0
done_holds [] left db holds valid = valid
done_holds (refusal ∷ more) left db holds valid = holds

-- columns that can be written, with defaults of their kinds, are valid
stored : (k : Kind) → IsColumnKind k → is_stored k ≡ true
stored kind.Int h = refl
stored kind.Text h = refl
stored kind.Day h = refl
stored kind.Huge h = absurd h
stored kind.Bit h = absurd h
stored kind.Oid h = absurd h

column_valid : (column : Column) → IsShapedColumn column → is_misfit_default column ≡ false → is_valid_column column ≡ true
column_valid column shaped fits = and_from _ _ (stored column.kind shaped.kind) (cell_agrees column.kind column.default (not-false _ fits))

each_valid : (columns : List Column) → AllByRecursion IsShapedColumn columns → list_any is_misfit_default columns ≡ false → list_all is_valid_column columns ≡ true
each_valid [] shaped fits = refl
each_valid (column ∷ columns) shaped fits =
    and_from _ _ (column_valid column shaped.0 (or_parts _ _ fits).0) (each_valid columns shaped.1 (or_parts _ _ fits).1)

some_column : (columns : List Column) → columns ≢ [] → not (length columns == 0) ≡ true
some_column [] h = absurd (h refl)
some_column (column ∷ columns) h = grind arith

created_holds : (name : List ℕ) (columns : List Column) (db : Db) → IsValid db → columns ≢ [] → AllByRecursion IsShapedColumn columns
    → create_refusals name columns (schema_of db) ≡ [] → IsValid (created name columns db).0
created_holds name columns db holds some shaped accepted = done_holds (refused_if (list_any is_long_default columns) TextTooLong) (record { tables = db.tables ++ record { name = name; columns = columns; rows = [] } ∷ [] }) db holds (record {
  names = new_differs (record { name = name; columns = columns; rows = [] }) db.tables absent holds.names;
  tables = list_all-append is_valid_table db.tables (record { name = name; columns = columns; rows = [] } ∷ [])
      ∙ and_from _ _ holds.tables (and_from _ _ (and_from _ _ valid refl) refl);
})
  where
    exists : List Refusal
    exists = refused_if (is_some (source_named name (schema_of db))) (TableExists (name_text name))

    twice : List Refusal
    twice = names_twice (column_names columns)

    misfit : List Refusal
    misfit = refused_if (list_any is_misfit_default columns) KindsDiffer

    first_two : exists ++ twice ≡ []
    first_two = left_empty (exists ++ twice) misfit accepted

    some_source : (found : Option Table) → is_some (option_map as_source found) ≡ is_some found
    some_source None = refl
    some_source (Some table) = refl

    absent : is_some (first_named name db.tables) ≡ false
    absent = sym (some_source (first_named name db.tables)) ∙ ap (λ (o : Option Source). is_some o) (sym (source_is name db.tables))
        ∙ not_refused (is_some (source_named name (schema_of db))) (TableExists (name_text name)) (left_empty exists twice first_two)

    valid : are_valid_columns columns ≡ true
    valid = and_from _ _
        (and_from _ _ (some_column columns some) (each_valid columns shaped (not_refused _ KindsDiffer (right_empty (exists ++ twice) misfit accepted))))
        (differ (column_names columns) (right_empty exists twice first_two))

grown_valid : (column : Column) (table : Table) → is_valid_table table ≡ true → IsShapedColumn column → alter_refusals column (as_source table) ≡ []
    → is_valid_table (grown column table) ≡ true
grown_valid column table valid shaped accepted =
    let columns : are_valid_columns table.columns ≡ true = (and_parts _ _ valid).0 in
    and_from _ _
    (and_from _ _
    (and_from _ _ (still_some table.columns)
    (list_all-append is_valid_column table.columns (column ∷ []) ∙ and_from _ _ (columns_valid table.columns columns) (and_from _ _ fits refl)))
    (ap names_differ (map-append (λ (c : Column). c.name) table.columns (column ∷ []))
    ∙ names_more (column_names table.columns) column.name (columns_differ table.columns columns) (not_there column.name table.columns absent)))
    (all_mapped (fits_columns table.columns) (fits_columns (table.columns ++ column ∷ [])) (λ (row : List Cell). row ++ column.default ∷ [])
    (λ row row_fits. fits_more table.columns row column (and_parts _ _ fits).1 row_fits) table.rows (and_parts _ _ valid).1)
  where
    twice : List Refusal
    twice = refused_if (is_some (column_named table.columns column.name)) (NameTwice (name_text column.name))

    misfit : List Refusal
    misfit = refused_if (is_misfit_default column) KindsDiffer

    absent : is_some (column_named table.columns column.name) ≡ false
    absent = not_refused _ (NameTwice (name_text column.name)) (left_empty twice misfit accepted)

    fits : is_valid_column column ≡ true
    fits = column_valid column shaped (not_refused _ KindsDiffer (right_empty twice misfit accepted))

    still_some : (columns : List Column) → not (length (columns ++ column ∷ []) == 0) ≡ true
    still_some [] = refl
    still_some (first ∷ columns) = grind arith

altered_holds : (name : List ℕ) (column : Column) (db : Db) → IsValid db → IsShapedColumn column
    → ((table : Table) → named_table name db ≡ Some table → alter_refusals column (as_source table) ≡ [])
    → (found : Option Table) → named_table name db ≡ found → IsValid (altered name column found db).0
altered_holds name column db holds shaped accepted None e = holds
altered_holds name column db holds shaped accepted (Some table) e = done_holds (column_refused column table) (record { tables = map (with_column name column) db.tables }) db holds (record {
  names = ap names_differ (same_names name (grown column) (λ t. refl) db.tables) ∙ holds.names;
  tables = changed_hold name (grown column) db.tables table holds.names holds.tables e
      (grown_valid column table (found_holds name db.tables table holds.tables e) shaped (accepted table e));
})

dropped_holds : (name : List ℕ) (db : Db) → IsValid db → IsValid (dropped name db).0
dropped_holds name db holds = record {
  names = left_differ (λ (table : Table). not (bytes_eq table.name name)) db.tables holds.names;
  tables = all_left is_valid_table (λ (table : Table). not (bytes_eq table.name name)) db.tables holds.tables;
}

-- ## Statements

accepted_holds : (stmt : StmtTree) (db : Db) → IsShaped stmt → IsValid db → check_refusal stmt (schema_of db) ≡ None → IsValid (accepted stmt db).0
accepted_holds (CreateTable name columns) db shaped holds e = created_holds name columns db holds shaped.0 shaped.1 (none_first _ e)
accepted_holds (DropTable name) db shaped holds e = dropped_holds name db holds
accepted_holds (AlterTable name column) db shaped holds e =
    altered_holds name column db holds shaped (λ table found. over_found name db table (alter_refusals column) found e) (named_table name db) refl
accepted_holds (InsertInto name listed rows) db shaped holds e =
    change_holds name db (inserted listed rows) holds (λ table found fit. inserted_fit listed rows table fit (over_found name db table (insert_refusals listed rows) found e)) (named_table name db) refl
accepted_holds (DeleteFrom name c) db shaped holds e = change_holds name db (deleted c) holds (λ table found fit. deleted_fit c table fit) (named_table name db) refl
accepted_holds (UpdateTable name sets c) db shaped holds e =
    change_holds name db (updated sets c) holds (λ table found fit. updated_fit sets c table fit (over_found name db table (update_refusals sets c) found e)) (named_table name db) refl
accepted_holds (Select query) db shaped holds e = holds
accepted_holds (ExplainSelect query) db shaped holds e = holds

unless_holds : (refusal : Option Refusal) (stmt : StmtTree) (db : Db) → IsValid db → (refusal ≡ None → IsValid (accepted stmt db).0) → IsValid (effect_unless refusal stmt db).0
unless_holds (Some refusal) stmt db holds keeps = holds
unless_holds None stmt db holds keeps = keeps refl

pub effect_holds : (stmt : StmtTree) (db : Db) → IsFormed stmt → IsValid db → IsValid (effect stmt db).0
effect_holds stmt db formed holds = unless_holds (check_refusal stmt (schema_of db)) stmt db holds (accepted_holds stmt db formed.shaped holds)

replay_holds_from : (stmts : List StmtTree) (db : Db) → AllByRecursion IsFormed stmts → IsValid db → IsValid (replay_from db stmts)
replay_holds_from [] db formed holds = holds
replay_holds_from (stmt ∷ stmts) db formed holds = replay_holds_from stmts (effect stmt db).0 formed.1 (effect_holds stmt db formed.0 holds)

pub replay_holds : (stmts : List StmtTree) → AllByRecursion IsFormed stmts → IsValid (replay_from (record { tables = [] }) stmts)
replay_holds stmts formed = replay_holds_from stmts (record { tables = [] }) formed (record { names = refl; tables = refl })
