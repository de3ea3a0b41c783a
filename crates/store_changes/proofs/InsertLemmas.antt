-- What an INSERT comes to.
use Rattle.std.proofs.Common.{◌≡◌, ℕ, suc, ◌+◌, List, [], ◌∷◌, ◌++◌, length, map, Bool, true, false, not, cond, Option, Some, None, refl, ap, sym, ◌∙◌, subst, append_assoc, length-append}
use Rattle.std.specs.Prelude.{Ok, Err, bytes_eq, unwrap_or, IfSome}
use Rattle.std.specs.List.{list_any, list_all, enumerate_from}
use Rattle.std.specs.Option.{option_map, option_map_or}
use Rattle.std.proofs.lemmas.Bool.{and_parts, or_parts}
use Rattle.std.proofs.lemmas.List.Folds.{list_all-append}
use Rattle.cell_core.specs.declared.cell.Cell.{Cell}
use Rattle.cell_core.specs.declared.table.Column.{Column}
use Rattle.cell_core.specs.declared.table.Table.{Table}
use Rattle.cell_core.specs.declared.table.Db.{Db}
use Rattle.cell_core.specs.Pairs.{Pairs, numbered}
use Rattle.cell_core.specs.Relations.{column_cells}
use Rattle.cell_core.specs.Tables.{all_columns, column_place, named_table, row_count, names_differ}
use Rattle.sql_tree.specs.Tree.{StmtTree}
use Rattle.sql_tree.specs.Tree.StmtTree.{InsertInto}
use Rattle.sql_grammar.specs.Formed.{IsFormed}
use Rattle.sql_definitions.specs.declared.refusal.Refusal.{Refusal}
use Rattle.sql_definitions.specs.declared.refusal.Reply.{Reply}
use Rattle.sql_definitions.specs.declared.refusal.Reply.TheVariants.{Rows}
use Rattle.sql_definitions.specs.Check.{check_refusal}
use Rattle.sql_definitions.specs.Effect.{Change, changed, changed_by, effect, inserted}
use Rattle.sql_definitions.specs.Sources.{schema_of}
use Rattle.sql_definitions.specs.Valid.{IsValid, are_valid_columns, column_names, fits_columns, is_valid_table}
use Rattle.sql_changes.specs.Added.{added_rows, added_to}
use Rattle.sql_changes.specs.declared.insert.AddedRows.{AddedRows}
use Rattle.sql_kinds.specs.Laws.{StatementsKeepValid}
use Rattle.sql_kinds.proofs.NameLemmas.{own_name}
use Rattle.sql_kinds.proofs.TableLemmas.{found_holds}
use Rattle.pool_policy.specs.declared.touched.Touched.{Touched}
use Rattle.run_log.specs.Touches as log
use Rattle.run_log.proofs.NamedLemmas.{own_named}
use Rattle.run_log.proofs.ColumnLemmas.{pairs_of}
use Rattle.table_columns.specs.Rows.{AreWide}
use Rattle.table_store.specs.Changes.{IsPrepared, rows_of, with_rows}
use Rattle.table_store.specs.Content.{Content}
use Rattle.table_store.specs.Touches.{columns_beside, whole_columns}
use Rattle.store_changes.specs.declared.outcome.Ready.{Ready}
use Rattle.store_changes.specs.Rewrites.{ComesTo}
use Rattle.store_changes.proofs.DefineLemmas.{effect_accepted, ready_comes, refused_comes}
use Rattle.store_changes.proofs.NamedLemmas.{rows_found}

-- ## Rows of a valid table

fits_long : (columns : List Column) (row : List Cell) → fits_columns columns row ≡ true → length row ≡ length columns
fits_long [] [] e = refl
fits_long [] (cell ∷ row) e = cc
fits_long (column ∷ columns) [] e = cc
fits_long (column ∷ columns) (cell ∷ row) e = ap suc (fits_long columns row (and_parts _ _ e).1)

all_wide : (columns : List Column) (rows : List (List Cell)) → list_all (fits_columns columns) rows ≡ true → AreWide (length columns) rows
all_wide columns [] e = tt
all_wide columns (row ∷ rows) e = (fits_long columns row (and_parts _ _ e).0, all_wide columns rows (and_parts _ _ e).1)

-- ## Columns by their names and by their places

not_among : (p : List ℕ → Bool) (before : List Column) (column : Column) (rest : List Column) → list_any p (column_names (before ++ column ∷ rest)) ≡ false → p column.name ≡ false
not_among p [] column rest e = (or_parts _ _ e).0
not_among p (first ∷ before) column rest e = not_among p before column rest (or_parts _ _ e).1

not_true : (b : Bool) → not b ≡ true → b ≡ false
not_true true e = cc
not_true false e = refl

place_is : (before : List Column) (column : Column) (rest : List Column) → names_differ (column_names (before ++ column ∷ rest)) ≡ true → column_place column.name (before ++ column ∷ rest) ≡ Some (length before)
place_is [] column rest e = ap (λ b. cond b (Some 0) (option_map suc (column_place column.name rest))) (own_name column.name)
place_is (first ∷ before) column rest e =
    let both = and_parts _ _ e in
    ap (λ b. cond b (Some 0) (option_map suc (column_place column.name (before ++ column ∷ rest)))) (not_among (bytes_eq first.name) before column rest (not_true _ both.0))
    ∙ ap (option_map suc) (place_is before column rest both.1)

module _ (rows : List (List Cell)) where
  abbrev at_place : ℕ × Column → List ℕ × Pairs
  at_place at = (at.1.name, numbered (column_cells at.0 rows))

  abbrev cells_named : List Column → List ℕ → Pairs
  cells_named columns name = unwrap_or (option_map (λ place. numbered (column_cells place rows)) (column_place name columns)) []

  named_beside : (before columns : List Column) → names_differ (column_names (before ++ columns)) ≡ true
      → map at_place (enumerate_from (length before) columns) ≡ map (λ (name : List ℕ). (name, cells_named (before ++ columns) name)) (map (λ (c : Column). c.name) columns)
  named_beside before [] e = refl
  named_beside before (column ∷ columns) e =
      ap (λ (o : Option ℕ). (column.name, unwrap_or (option_map (λ place. numbered (column_cells place rows)) o) []) ∷ map at_place (enumerate_from (length before + 1) columns)) (sym (place_is before column columns e))
      ∙ ap (λ (rest : List (List ℕ × Pairs)). (column.name, cells_named (before ++ column ∷ columns) column.name) ∷ rest)
      (ap (λ n. map at_place (enumerate_from n columns)) (sym (length-append before (column ∷ [])))
      ∙ named_beside (before ++ column ∷ []) columns (ap (λ (cs : List Column). names_differ (column_names cs)) (append_assoc before (column ∷ []) columns) ∙ e)
      ∙ ap (λ (cs : List Column). map (λ (name : List ℕ). (name, cells_named cs name)) (map (λ (c : Column). c.name) columns)) (append_assoc before (column ∷ []) columns))

-- the columns of a table whose names differ, by their places and by their names
whole_named : (name : List ℕ) (db : Db) (table : Table) → named_table name db ≡ Some table → names_differ (column_names table.columns) ≡ true → whole_columns name db ≡ log.whole_columns name db
whole_named name db table found differ =
    ap (λ (o : Option Table). option_map_or (λ (t : Table). columns_beside 0 t.columns t.rows) o []) found
    ∙ named_beside table.rows [] table.columns differ
    ∙ sym (ap (λ (o : Option Table). map (λ (n : List ℕ). (n, pairs_of n o)) (option_map_or (λ (t : Table). map (λ (c : Column). c.name) t.columns) o [])) found)

-- ## An INSERT that the check accepts

module _ (name : List ℕ) (listed : List (List ℕ)) (rows : List (List Cell)) (content : Content) (e : check_refusal (InsertInto name listed rows) (schema_of content.db) ≡ None)
    (table : Table) (found : named_table name content.db ≡ Some table) where
  abbrev stmt : StmtTree
  stmt = InsertInto name listed rows

  insert_is : (change : Change) → change ≡ inserted listed rows table → effect stmt content.db ≡ changed_by name change content.db
  insert_is change is =
      effect_accepted stmt content.db e ∙ ap (λ (o : Option Table). changed name (inserted listed rows) o content.db) found ∙ ap (λ (c : Change). changed_by name c content.db) (sym is)

  pub insert_refused : (refusal : Refusal) → added_to table (Err refusal) ≡ inserted listed rows table → ComesTo stmt content (Err refusal)
  insert_refused refusal is = refused_comes stmt content refusal (insert_is (Err refusal) is)

  module _ (given : AddedRows) (is : added_to table (Ok given) ≡ inserted listed rows table) where
    abbrev added : List (List Cell)
    added = added_rows given

    abbrev longer : Table → Table
    longer t = record t { rows = table.rows ++ added }

    abbrev left : Db
    left = with_rows name (table.rows ++ added) content.db

    effect_left : effect stmt content.db ≡ (left, Rows (length added))
    effect_left = insert_is (Ok (table.rows ++ added, length added)) is

    found_left : named_table name left ≡ Some (longer table)
    found_left = own_named name longer (λ t. refl) content.db.tables ∙ ap (option_map longer) found

    module _ (keeps : StatementsKeepValid) (formed : IsFormed stmt) (holds : IsValid content.db) where
      valid_left : IsValid left
      valid_left = subst (λ (out : Db × Reply). IsValid out.0) effect_left (keeps stmt content.db formed holds)

      valid_longer : is_valid_table (longer table) ≡ true
      valid_longer = found_holds name left.tables (longer table) valid_left.tables found_left

      -- the rows that are added have a cell for each column
      pub wide : IfSome (named_table name content.db) (λ (t : Table). AreWide (length t.columns) added)
      wide =
          let all = (and_parts (are_valid_columns table.columns) (list_all (fits_columns table.columns) (table.rows ++ added)) valid_longer).1 in
          let both = and_parts (list_all (fits_columns table.columns) table.rows) (list_all (fits_columns table.columns) added) (sym (list_all-append (fits_columns table.columns) table.rows added) ∙ all) in
          subst (λ (o : Option Table). IfSome o (λ (t : Table). AreWide (length t.columns) added)) (sym found) (all_wide table.columns added both.1)

      differ_left : names_differ (column_names table.columns) ≡ true
      differ_left = (and_parts _ (names_differ (column_names table.columns)) (and_parts (are_valid_columns table.columns) (list_all (fits_columns table.columns) (table.rows ++ added)) valid_longer).0).1

      abbrev touch_with : List (List ℕ × Pairs) → Touched
      touch_with whole = record { table = name; columns = all_columns name content.db; old_rows = row_count name content.db; added = Some whole }

      pub insert_comes : (ready : Ready) → IsPrepared ready.change content → ready.change.content.db ≡ with_rows name (rows_of name content.db ++ added) content.db → ready.rows ≡ Some (length added)
          → ready.change.touched ≡ touch_with (whole_columns name ready.change.content.db) → ComesTo stmt content (Ok ready)
      insert_comes ready prepared made counted told =
          let left_is : ready.change.content.db ≡ left = made ∙ ap (λ (old : List (List Cell)). with_rows name (old ++ added) content.db) (rows_found name content.db table found) in
          ready_comes stmt content ready left (Some (length added)) (touch_with (whole_columns name ready.change.content.db)) effect_left prepared left_is counted told
          (ap touch_with (ap (whole_columns name) left_is ∙ whole_named name left (longer table) found_left differ_left ∙ ap (λ (out : Db × Reply). log.whole_columns name out.0) (sym effect_left)))
