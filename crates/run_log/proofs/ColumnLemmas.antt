-- The columns that a statement doesn't touch keep their cells.
use Rattle.std.proofs.Common.{◌≡◌, ℕ, zero, suc, List, [], ◌∷◌, ◌++◌, map, filter, length, Bool, true, false, not, ◌&&◌, cond, Option, Some, None, refl, ap, sym, ◌∙◌}
use Rattle.std.specs.Prelude.{bytes_eq, find, zip, slice_index_or, unwrap_or, Ok, Err}
use Rattle.std.specs.List.{list_any, list_all}
use Rattle.std.specs.Option.{option_map, option_map_or, option_and_then}
use Rattle.std.proofs.lemmas.Bool.{and_parts, or_parts}
use Rattle.cell_core.specs.declared.cell.Cell.{Cell}
use Rattle.cell_core.specs.declared.cell.Cell.TheVariants.{Nil}
use Rattle.cell_core.specs.declared.table.Column.{Column}
use Rattle.cell_core.specs.declared.table.Table.{Table}
use Rattle.cell_core.specs.declared.table.Db.{Db}
use Rattle.cell_core.specs.Kinds.{is_of_kind}
use Rattle.cell_core.specs.Pairs.{Pairs, numbered}
use Rattle.cell_core.specs.Relations.{column_cells}
use Rattle.cell_core.specs.Tables.{all_columns, column_place, first_named, grown, has_column, named_table}
use Rattle.mal_meaning.specs.Meaning.{column_pairs}
use Rattle.sql_tree.specs.Tree.{ExprTree, CondTree, StmtTree}
use Rattle.sql_tree.specs.Tree.StmtTree.{CreateTable, DropTable, AlterTable, InsertInto, DeleteFrom, UpdateTable, Select, ExplainSelect}
use Rattle.sql_definitions.specs.Check.{check_refusal}
use Rattle.sql_definitions.specs.Effect.{Change, accepted, altered, changed, changed_by, column_refused, created, deleted, done_by, effect, effect_unless, inserted, is_hit, own_table, placed, set_cell, unless_refused, updated, updated_row}
use Rattle.sql_definitions.specs.Sources.{schema_of}
use Rattle.sql_definitions.specs.Valid.{IsValid, fits_columns, is_valid_table}
use Rattle.sql_definitions.specs.declared.refusal.Refusal.{Refusal}
use Rattle.sql_kinds.proofs.NameLemmas.{same_name, own_name, other_name}
use Rattle.sql_kinds.proofs.TableLemmas.{where_named, found_holds}
use Rattle.pool_policy.specs.Versions.{is_of}
use Rattle.run_log.specs.Touches.{touched_by}
use Rattle.run_log.proofs.NamedLemmas.{other_named, own_named, found_before, found_behind, left_named, none_named}

-- ## A column of one table

abbrev pub pairs_in : List ℕ → Table → Option Pairs
pairs_in column table = option_map (λ place. numbered (column_cells place table.rows)) (column_place column table.columns)

-- the cells of a column of the table that is found, or none
abbrev pub pairs_of : List ℕ → Option Table → Pairs
pairs_of column found = unwrap_or (option_and_then (pairs_in column) found) []

-- where no column has the name
pub no_place : (name : List ℕ) (columns : List Column) → list_any (bytes_eq name) (map (λ (c : Column). c.name) columns) ≡ false → column_place name columns ≡ None
no_place name [] e = refl
no_place name (column ∷ columns) e =
    ap (λ b. cond b (Some 0) (option_map suc (column_place name columns))) (other_name name column.name (or_parts _ _ e).0)
    ∙ ap (option_map suc) (no_place name columns (or_parts _ _ e).1)

pub not_had : (name : List ℕ) (columns : List Column) → list_any (λ (c : Column). bytes_eq c.name name) columns ≡ false → column_place name columns ≡ None
not_had name [] e = refl
not_had name (column ∷ columns) e =
    ap (λ b. cond b (Some 0) (option_map suc (column_place name columns))) (or_parts _ _ e).0
    ∙ ap (option_map suc) (not_had name columns (or_parts _ _ e).1)

no_pairs : (name : List ℕ) (table : Table) → column_place name table.columns ≡ None → pairs_in name table ≡ None
no_pairs name table e = ap (option_map (λ place. numbered (column_cells place table.rows))) e

-- a column that isn't there has no cells
pub absent_column : (table column : List ℕ) (db : Db) → has_column table column db ≡ false → column_pairs table column db ≡ []
absent_column table column db e = go (named_table table db) e
  where
    go : (found : Option Table) → option_map_or (λ (t : Table). list_any (λ (c : Column). bytes_eq c.name column) t.columns) found false ≡ false → pairs_of column found ≡ []
    go None h = refl
    go (Some t) h = ap (λ o. unwrap_or o []) (no_pairs column t (not_had column t.columns h))

-- ## Rows that are changed

-- cells that are changed where the column has another name
changed_at : (name : List ℕ) (f : Column → Cell → Cell) → ((column : Column) (cell : Cell) → bytes_eq column.name name ≡ true → f column cell ≡ cell)
    → (columns : List Column) (row : List Cell) → fits_columns columns row ≡ true → (place : ℕ) → column_place name columns ≡ Some place
    → slice_index_or (map (λ (at : Column × Cell). f at.0 at.1) (zip columns row)) place Nil ≡ slice_index_or row place Nil
changed_at name f keeps [] row fits place e = cc
changed_at name f keeps (column ∷ columns) [] fits place e = cc
changed_at name f keeps (column ∷ columns) (cell ∷ row) fits place e =
    go (bytes_eq column.name name) refl (column_place name columns) refl place e (λ n at. changed_at name f keeps columns row (and_parts _ _ fits).1 n at)
  where
    go : (b : Bool) → bytes_eq column.name name ≡ b → (found : Option ℕ) → column_place name columns ≡ found → (place : ℕ) → cond b (Some 0) (option_map suc found) ≡ Some place
        → ((n : ℕ) → column_place name columns ≡ Some n → slice_index_or (map (λ (at : Column × Cell). f at.0 at.1) (zip columns row)) n Nil ≡ slice_index_or row n Nil)
        → slice_index_or (f column cell ∷ map (λ (at : Column × Cell). f at.0 at.1) (zip columns row)) place Nil ≡ slice_index_or (cell ∷ row) place Nil
    go true is found at place h rest = let same : 0 ≡ place = cc in
        ap (λ n. slice_index_or (f column cell ∷ map (λ (at : Column × Cell). f at.0 at.1) (zip columns row)) n Nil) (sym same) ∙ keeps column cell is ∙ ap (λ n. slice_index_or (cell ∷ row) n Nil) same
    go false is None at place h rest = cc
    go false is (Some n) at place h rest = let same : suc n ≡ place = cc in
        ap (λ k. slice_index_or (f column cell ∷ map (λ (at : Column × Cell). f at.0 at.1) (zip columns row)) k Nil) (sym same)
        ∙ rest n at ∙ ap (λ k. slice_index_or (cell ∷ row) k Nil) same

-- a cell more at the end of a row
longer_at : (name : List ℕ) (columns : List Column) (row : List Cell) (last : Cell) → fits_columns columns row ≡ true → (place : ℕ) → column_place name columns ≡ Some place
    → slice_index_or (row ++ last ∷ []) place Nil ≡ slice_index_or row place Nil
longer_at name [] row last fits place e = cc
longer_at name (column ∷ columns) [] last fits place e = cc
longer_at name (column ∷ columns) (cell ∷ row) last fits place e =
    go (bytes_eq column.name name) (column_place name columns) refl place e (λ n at. longer_at name columns row last (and_parts _ _ fits).1 n at)
  where
    go : (b : Bool) (found : Option ℕ) → column_place name columns ≡ found → (place : ℕ) → cond b (Some 0) (option_map suc found) ≡ Some place
        → ((n : ℕ) → column_place name columns ≡ Some n → slice_index_or (row ++ last ∷ []) n Nil ≡ slice_index_or row n Nil)
        → slice_index_or (cell ∷ row ++ last ∷ []) place Nil ≡ slice_index_or (cell ∷ row) place Nil
    go true found at place h rest = let same : 0 ≡ place = cc in
        ap (λ n. slice_index_or (cell ∷ row ++ last ∷ []) n Nil) (sym same) ∙ ap (λ n. slice_index_or (cell ∷ row) n Nil) same
    go false None at place h rest = cc
    go false (Some n) at place h rest = let same : suc n ≡ place = cc in
        ap (λ k. slice_index_or (cell ∷ row ++ last ∷ []) k Nil) (sym same)
        ∙ rest n at ∙ ap (λ k. slice_index_or (cell ∷ row) k Nil) same

-- rows of which each keeps the cell at a place
cells_kept : (f : List Cell → List Cell) (place : ℕ) (columns : List Column) (rows : List (List Cell)) → list_all (fits_columns columns) rows ≡ true
    → ((row : List Cell) → fits_columns columns row ≡ true → slice_index_or (f row) place Nil ≡ slice_index_or row place Nil)
    → column_cells place (map f rows) ≡ column_cells place rows
cells_kept f place columns [] fits keeps = refl
cells_kept f place columns (row ∷ rows) fits keeps =
    ap (λ c. c ∷ column_cells place (map f rows)) (keeps row (and_parts _ _ fits).0)
    ∙ ap (λ (cs : List Cell). slice_index_or row place Nil ∷ cs) (cells_kept f place columns rows (and_parts _ _ fits).1 keeps)

pairs_kept : (name : List ℕ) (f : List Cell → List Cell) (columns : List Column) (rows : List (List Cell)) → list_all (fits_columns columns) rows ≡ true
    → ((row : List Cell) (place : ℕ) → fits_columns columns row ≡ true → column_place name columns ≡ Some place → slice_index_or (f row) place Nil ≡ slice_index_or row place Nil)
    → option_map (λ place. numbered (column_cells place (map f rows))) (column_place name columns) ≡ option_map (λ place. numbered (column_cells place rows)) (column_place name columns)
pairs_kept name f columns rows fits keeps = go (column_place name columns) refl
  where
    go : (found : Option ℕ) → column_place name columns ≡ found → option_map (λ place. numbered (column_cells place (map f rows))) found ≡ option_map (λ place. numbered (column_cells place rows)) found
    go None e = refl
    go (Some place) e = ap (λ cells. Some (numbered cells)) (cells_kept f place columns rows fits (λ row h. keeps row place h e))

-- ## UPDATE

abbrev set_names : List (List ℕ × ExprTree) → List (List ℕ)
set_names sets = map (λ (set : List ℕ × ExprTree). set.0) sets

-- no expression is set for a column that isn't named
not_set : (name : List ℕ) (sets : List (List ℕ × ExprTree)) → list_any (bytes_eq name) (set_names sets) ≡ false → find (λ (set : List ℕ × ExprTree). bytes_eq set.0 name) sets ≡ None
not_set name [] e = refl
not_set name (set ∷ sets) e =
    ap (λ b. cond b (Some set) (find (λ (s : List ℕ × ExprTree). bytes_eq s.0 name) sets)) (other_name name set.0 (or_parts _ _ e).0) ∙ not_set name sets (or_parts _ _ e).1

updated_at : (name : List ℕ) (sets : List (List ℕ × ExprTree)) (condition : Option CondTree) (table : Table) → list_any (bytes_eq name) (set_names sets) ≡ false
    → (row : List Cell) (place : ℕ) → fits_columns table.columns row ≡ true → column_place name table.columns ≡ Some place
    → slice_index_or (cond (is_hit condition table row) (updated_row sets table row) row) place Nil ≡ slice_index_or row place Nil
updated_at name sets condition table none row place fits e = elim (is_hit condition table row) as (λ b. slice_index_or (cond b (updated_row sets table row) row) place Nil ≡ slice_index_or row place Nil) [
  | false ↦ refl
  | true ↦ changed_at name (λ column cell. set_cell (own_table table) row (find (λ (set : List ℕ × ExprTree). bytes_eq set.0 column.name) sets) cell)
      (λ column cell is. ap (λ found. set_cell (own_table table) row found cell) (ap (λ n. find (λ (set : List ℕ × ExprTree). bytes_eq set.0 n) sets) (same_name column.name name is) ∙ not_set name sets none))
      table.columns row fits place e
]

-- ## Statements

module _ (db : Db) (valid : IsValid db) where
  -- a change of one table leaves the columns of the others
  changed_others : (name : List ℕ) (f : Table → Table) → ((table : Table) → (f table).name ≡ table.name) → (table column : List ℕ) → bytes_eq table name ≡ false
      → column_pairs table column (record { tables = map (where_named name f) db.tables }) ≡ column_pairs table column db
  changed_others name f keeps table column other = ap (pairs_of column) (other_named name f keeps table db.tables other)

  -- and those columns of its own that it keeps
  changed_own : (name : List ℕ) (f : Table → Table) → ((table : Table) → (f table).name ≡ table.name) → (table column : List ℕ) → bytes_eq table name ≡ true
      → ((found : Table) → named_table name db ≡ Some found → pairs_in column (f found) ≡ pairs_in column found)
      → column_pairs table column (record { tables = map (where_named name f) db.tables }) ≡ column_pairs table column db
  changed_own name f keeps table column own kept =
      ap (λ n. column_pairs n column (record { tables = map (where_named name f) db.tables })) (same_name table name own)
      ∙ ap (pairs_of column) (own_named name f keeps db.tables) ∙ go (first_named name db.tables) refl
      ∙ ap (λ n. column_pairs n column db) (sym (same_name table name own))
    where
      go : (found : Option Table) → first_named name db.tables ≡ found → pairs_of column (option_map f found) ≡ pairs_of column found
      go None e = refl
      go (Some t) e = ap (λ o. unwrap_or o []) (kept t e)

  abbrev rows_set : List (List Cell) → Table → Table
  rows_set rows table = record table { rows = rows }

  -- a change of a table's rows
  change_kept : (name : List ℕ) (touched : List (List ℕ)) (change : Table → Change) (table column : List ℕ) → (bytes_eq table name && list_any (bytes_eq column) touched) ≡ false
      → ((found : Table) (outcome : List (List Cell) × ℕ) → named_table name db ≡ Some found → change found ≡ Ok outcome → list_any (bytes_eq column) touched ≡ false → pairs_in column (rows_set outcome.0 found) ≡ pairs_in column found)
      → (found : Option Table) → named_table name db ≡ found → column_pairs table column (changed name change found db).0 ≡ column_pairs table column db
  change_kept name touched change table column out kept None e = refl
  change_kept name touched change table column out kept (Some t) e = go (change t) refl
    where
      go : (said : Change) → change t ≡ said → column_pairs table column (changed_by name said db).0 ≡ column_pairs table column db
      go (Err refusal) is = refl
      go (Ok outcome) is = by (bytes_eq table name) refl out
        where
          by : (b : Bool) → bytes_eq table name ≡ b → (b && list_any (bytes_eq column) touched) ≡ false → column_pairs table column (changed_by name (Ok outcome) db).0 ≡ column_pairs table column db
          by false other _ = changed_others name (rows_set outcome.0) (λ t. refl) table column other
          by true own none = changed_own name (rows_set outcome.0) (λ t. refl) table column own (λ found at.
              let same : t ≡ found = (let both : Some t ≡ Some found = sym e ∙ at in cc) in
              kept found outcome at (ap change (sym same) ∙ is) none)

  -- a column that isn't among those of the table has no cells, whatever its rows
  unnamed : (name column : List ℕ) → list_any (bytes_eq column) (all_columns name db) ≡ false → (found : Table) → named_table name db ≡ Some found
      → (rows : List (List Cell)) → pairs_in column (rows_set rows found) ≡ pairs_in column found
  unnamed name column none found e rows =
      let nowhere : column_place column found.columns ≡ None = no_place column found.columns (ap (λ o. list_any (bytes_eq column) (option_map_or (λ (t : Table). map (λ (c : Column). c.name) t.columns) o [])) (sym e) ∙ none) in
      no_pairs column (rows_set rows found) nowhere ∙ sym (no_pairs column found nowhere)

  rows_of_valid : (name : List ℕ) (found : Table) → named_table name db ≡ Some found → list_all (fits_columns found.columns) found.rows ≡ true
  rows_of_valid name found e = (and_parts _ _ (found_holds name db.tables found valid.tables e)).1

  unless_is : (refusals : List Refusal) (rows : List (List Cell)) (n : ℕ) (outcome : List (List Cell) × ℕ) → unless_refused refusals (rows, n) ≡ Ok outcome → rows ≡ outcome.0
  unless_is [] rows n outcome e = cc
  unless_is (refusal ∷ more) rows n outcome e = cc

  done_kept : (refusals : List Refusal) (left : Db) (table column : List ℕ) → column_pairs table column left ≡ column_pairs table column db
      → column_pairs table column (done_by (unless_refused refusals left) db).0 ≡ column_pairs table column db
  done_kept [] left table column e = e
  done_kept (refusal ∷ more) left table column e = refl

  create_kept : (name : List ℕ) (columns : List Column) (table column : List ℕ) → (bytes_eq table name && list_any (bytes_eq column) (map (λ (c : Column). c.name) columns)) ≡ false
      → column_pairs table column (record { tables = db.tables ++ record { name = name; columns = columns; rows = [] } ∷ [] }) ≡ column_pairs table column db
  create_kept name columns table column out = go (first_named table db.tables) refl
    where
      new : Table
      new = record { name = name; columns = columns; rows = [] }

      fresh : (b : Bool) → bytes_eq name table ≡ b → pairs_of column (cond b (Some new) None) ≡ []
      fresh false e = refl
      fresh true e = ap (λ o. unwrap_or o []) (no_pairs column new (no_place column columns
          (let own : bytes_eq table name ≡ true = ap (λ n. bytes_eq n name) (sym (same_name name table e)) ∙ own_name name in ap (λ b. b && list_any (bytes_eq column) (map (λ (c : Column). c.name) columns)) (sym own) ∙ out)))

      go : (found : Option Table) → first_named table db.tables ≡ found → column_pairs table column (record { tables = db.tables ++ new ∷ [] }) ≡ column_pairs table column db
      go None e = ap (pairs_of column) (found_behind table db.tables new e) ∙ fresh (bytes_eq name table) refl ∙ ap (pairs_of column) (sym e)
      go (Some t) e = ap (pairs_of column) (found_before table db.tables new t e ∙ sym e)

  drop_kept : (name table column : List ℕ) → (bytes_eq table name && list_any (bytes_eq column) (all_columns name db)) ≡ false
      → column_pairs table column (record { tables = filter (λ (t : Table). not (bytes_eq t.name name)) db.tables }) ≡ column_pairs table column db
  drop_kept name table column out = by (bytes_eq table name) refl out
    where
      by : (b : Bool) → bytes_eq table name ≡ b → (b && list_any (bytes_eq column) (all_columns name db)) ≡ false
          → column_pairs table column (record { tables = filter (λ (t : Table). not (bytes_eq t.name name)) db.tables }) ≡ column_pairs table column db
      by false other _ = ap (pairs_of column) (left_named name table db.tables other)
      by true own none =
          ap (λ n. column_pairs n column (record { tables = filter (λ (t : Table). not (bytes_eq t.name name)) db.tables })) (same_name table name own)
          ∙ ap (pairs_of column) (none_named name db.tables) ∙ sym (gone (first_named name db.tables) refl) ∙ ap (λ n. column_pairs n column db) (sym (same_name table name own))
        where
          gone : (found : Option Table) → first_named name db.tables ≡ found → pairs_of column found ≡ []
          gone None e = refl
          gone (Some t) e = ap (λ o. unwrap_or o []) (no_pairs column t (no_place column t.columns (ap (λ o. list_any (bytes_eq column) (option_map_or (λ (t : Table). map (λ (c : Column). c.name) t.columns) o [])) (sym e) ∙ none)))

  place_more : (name : List ℕ) (columns : List Column) (last : Column) → bytes_eq last.name name ≡ false → column_place name (columns ++ last ∷ []) ≡ column_place name columns
  place_more name [] last other = ap (λ b. cond b (Some 0) (option_map suc None)) other
  place_more name (column ∷ columns) last other = ap (λ o. cond (bytes_eq column.name name) (Some 0) (option_map suc o)) (place_more name columns last other)

  alter_kept : (name : List ℕ) (new : Column) (table column : List ℕ) → (bytes_eq table name && list_any (bytes_eq column) (new.name ∷ [])) ≡ false
      → column_pairs table column (record { tables = map (where_named name (grown new)) db.tables }) ≡ column_pairs table column db
  alter_kept name new table column out = by (bytes_eq table name) refl out
    where
      by : (b : Bool) → bytes_eq table name ≡ b → (b && list_any (bytes_eq column) (new.name ∷ [])) ≡ false
          → column_pairs table column (record { tables = map (where_named name (grown new)) db.tables }) ≡ column_pairs table column db
      by false other _ = changed_others name (grown new) (λ t. refl) table column other
      by true own none = changed_own name (grown new) (λ t. refl) table column own (λ found at.
          ap (option_map (λ place. numbered (column_cells place (grown new found).rows))) (place_more column found.columns new (other_name column new.name (or_parts _ _ none).0))
          ∙ pairs_kept column (λ (row : List Cell). row ++ new.default ∷ []) found.columns found.rows (rows_of_valid name found at) (λ row place fits e. longer_at column found.columns row new.default fits place e))

  alter_unless : (name : List ℕ) (new : Column) (table column : List ℕ) → (bytes_eq table name && list_any (bytes_eq column) (new.name ∷ [])) ≡ false
      → (found : Option Table) → column_pairs table column (altered name new found db).0 ≡ column_pairs table column db
  alter_unless name new table column out None = refl
  alter_unless name new table column out (Some t) = done_kept (column_refused new t) (record { tables = map (where_named name (grown new)) db.tables }) table column (alter_kept name new table column out)

  accepted_kept : (stmt : StmtTree) (table column : List ℕ) → is_of (touched_by stmt db) table column ≡ false → column_pairs table column (accepted stmt db).0 ≡ column_pairs table column db
  accepted_kept (CreateTable name columns) table column out = done_kept _ (record { tables = db.tables ++ record { name = name; columns = columns; rows = [] } ∷ [] }) table column (create_kept name columns table column out)
  accepted_kept (DropTable name) table column out = drop_kept name table column out
  accepted_kept (AlterTable name new) table column out = alter_unless name new table column out (named_table name db)
  accepted_kept (InsertInto name listed rows) table column out = change_kept name (all_columns name db) (inserted listed rows) table column out
      (λ found outcome at is none. unnamed name column none found at outcome.0) (named_table name db) refl
  accepted_kept (DeleteFrom name condition) table column out = change_kept name (all_columns name db) (deleted condition) table column out
      (λ found outcome at is none. unnamed name column none found at outcome.0) (named_table name db) refl
  accepted_kept (UpdateTable name sets condition) table column out = change_kept name (set_names sets) (updated sets condition) table column out
      (λ found outcome at is none.
      ap (λ (rows : List (List Cell)). pairs_in column (rows_set rows found)) (sym (unless_is _ (map (λ row. cond (is_hit condition found row) (updated_row sets found row) row) found.rows) _ outcome is))
      ∙ pairs_kept column (λ row. cond (is_hit condition found row) (updated_row sets found row) row) found.columns found.rows (rows_of_valid name found at) (updated_at column sets condition found none))
      (named_table name db) refl
  accepted_kept (Select query) table column out = refl
  accepted_kept (ExplainSelect query) table column out = refl

  unless_kept : (why : Option Refusal) (stmt : StmtTree) (table column : List ℕ) → is_of (touched_by stmt db) table column ≡ false → column_pairs table column (effect_unless why stmt db).0 ≡ column_pairs table column db
  unless_kept (Some refusal) stmt table column out = refl
  unless_kept None stmt table column out = accepted_kept stmt table column out

  -- what a statement doesn't touch keeps its cells
  pub untouched : (stmt : StmtTree) (table column : List ℕ) → is_of (touched_by stmt db) table column ≡ false → column_pairs table column (effect stmt db).0 ≡ column_pairs table column db
  untouched stmt table column out = unless_kept (check_refusal stmt (schema_of db)) stmt table column out
