-- The database once a table of it has other rows, or one more column.
use Rattle.std.proofs.Common.{◌≡◌, ℕ, ◌+◌, List, [], ◌∷◌, ◌++◌, length, map, Option, Some, None, ap, sym, ◌∙◌, slice_set}
use Rattle.std.specs.Option.{option_map_or}
use Rattle.std.proofs.lemmas.List.{length-append}
use Rattle.cell_core.specs.declared.cell.Cell.{Cell}
use Rattle.cell_core.specs.declared.table.Column.{Column}
use Rattle.cell_core.specs.declared.table.Table.{Table}
use Rattle.cell_core.specs.declared.table.Db.{Db}
use Rattle.cell_core.specs.Tables.{named_table, row_count}
use Rattle.table_columns.specs.Rows.{KeptTable}
use Rattle.table_store.specs.declared.heading.Heading.{Heading}
use Rattle.table_store.specs.Changes.{NamesDiffer, columns_of, rows_of, with_last_column, with_rows}
use Rattle.table_store.specs.Content.{Content, version_in, version_of}
use Rattle.table_store.specs.Kept.{IsKept, heading_at, kept_at, rows_at, table_at, table_from, table_place}
use Rattle.table_store.specs.Touches.{columns_beside, whole_columns}
use Rattle.table_store.proofs.PlaceLemmas.{longer_version, named_there, none_changes, not_named, one_changes, rows_version}

-- ## The table is there

module _ (name : List ℕ) (db : Db) (place : ℕ) (at : table_place name db.tables ≡ Some place) where
  pub there : named_table name db ≡ Some (table_at place db)
  there = named_there name db.tables place at

  pub rows_there : rows_of name db ≡ (table_at place db).rows
  rows_there = ap (λ (found : Option Table). option_map_or (λ (t : Table). t.rows) found []) there

  pub columns_there : columns_of name db ≡ (table_at place db).columns
  columns_there = ap (λ (found : Option Table). option_map_or (λ (t : Table). t.columns) found []) there

  pub count_there : row_count name db ≡ length (table_at place db).rows
  count_there = ap (λ (found : Option Table). option_map_or (λ (t : Table). length t.rows) found 0) there

  pub whole_there : whole_columns name db ≡ columns_beside 0 (table_at place db).columns (table_at place db).rows
  whole_there = ap (λ (found : Option Table). option_map_or (λ (t : Table). columns_beside 0 t.columns t.rows) found []) there

  -- the table has other rows, and the others stay
  pub other_rows : NamesDiffer db → (left : Db) (rows new : List (List Cell)) → left.tables ≡ rows_at place rows db.tables → rows ≡ new → left ≡ with_rows name new db
  other_rows differ left rows new is same =
      ap (λ tables. record { tables = tables })
      (is ∙ ap (λ (r : List (List Cell)). rows_at place r db.tables) same ∙ one_changes name (λ (t : Table). record t { rows = new }) db.tables place differ at)

-- ## It isn't there

module _ (name : List ℕ) (db : Db) (at : table_place name db.tables ≡ None) where
  pub nothing_there : named_table name db ≡ None
  nothing_there = not_named name db.tables at

  pub no_rows_change : (new : List (List Cell)) (left : Db) → left ≡ db → left ≡ with_rows name new db
  no_rows_change new left same = same ∙ ap (λ tables. record { tables = tables }) (sym (none_changes name (λ (t : Table). record t { rows = new }) db.tables at))

  pub no_column_comes : (column : Column) (left : Db) → left ≡ db → left ≡ with_last_column name column db
  no_column_comes column left same =
      same ∙ ap (λ tables. record { tables = tables })
      (sym (none_changes name (λ (t : Table). record t { columns = t.columns ++ column ∷ []; rows = map (λ (row : List Cell). row ++ column.default ∷ []) t.rows }) db.tables at))

  pub count_none : row_count name db ≡ 0
  count_none = ap (λ (found : Option Table). option_map_or (λ (t : Table). length t.rows) found 0) nothing_there

  pub rows_none : rows_of name db ≡ []
  rows_none = ap (λ (found : Option Table). option_map_or (λ (t : Table). t.rows) found []) nothing_there

  pub whole_none : whole_columns name db ≡ []
  whole_none = ap (λ (found : Option Table). option_map_or (λ (t : Table). columns_beside 0 t.columns t.rows) found []) nothing_there

-- ## Versions

-- other rows leave them
pub versions_stay : (content left : Content) (place : ℕ) (rows : List (List Cell)) → left.db.tables ≡ rows_at place rows content.db.tables → left.versions ≡ content.versions
    → (table column : List ℕ) → version_of table column left ≡ version_of table column content
versions_stay content left place rows is same table column =
    ap (λ tables. version_in table column tables left.versions) is
    ∙ ap (version_in table column (rows_at place rows content.db.tables)) same
    ∙ rows_version table column rows content.db.tables content.versions place

-- ## One more column

module _ (content : Content) (place : ℕ) (column : Column) (heading : Heading) (old new : KeptTable)
    (named : heading ≡ record (heading_at place content.db) { columns = (heading_at place content.db).columns ++ column ∷ [] })
    (is : old ≡ kept_at place content) (beside : length old.versions ≡ old.width)
    (grown : new ≡ record { width = old.width + 1; rows = map (λ (row : List Cell). row ++ column.default ∷ []) old.rows; versions = old.versions ++ 0 ∷ [] }) where
  columns_long : length heading.columns ≡ old.width + 1
  columns_long =
      ap (λ (h : Heading). length h.columns) named ∙ length-append (table_at place content.db).columns (column ∷ []) ∙ ap (λ (k : KeptTable). k.width + 1) (sym is)

  pub longer_is_kept : IsKept heading new
  longer_is_kept = record {
    width = ap (λ (k : KeptTable). k.width) grown ∙ sym columns_long;
    versions = ap (λ (k : KeptTable). length k.versions) grown ∙ length-append old.versions (0 ∷ []) ∙ ap (λ n. n + 1) beside ∙ sym columns_long;
  }

  abbrev longer_table : Table
  longer_table = record (table_at place content.db) {
    columns = (table_at place content.db).columns ++ column ∷ [];
    rows = map (λ (row : List Cell). row ++ column.default ∷ []) (table_at place content.db).rows;
  }

  table_is : table_from heading new ≡ longer_table
  table_is =
      ap (λ (h : Heading). table_from h new) named
      ∙ ap (λ (rows : List (List Cell)). record { name = (table_at place content.db).name; columns = (table_at place content.db).columns ++ column ∷ []; rows = rows })
      (ap (λ (k : KeptTable). k.rows) grown ∙ ap (λ (k : KeptTable). map (λ (row : List Cell). row ++ column.default ∷ []) k.rows) is)

  pub column_comes : (name : List ℕ) → NamesDiffer content.db → table_place name content.db.tables ≡ Some place → (left : Db)
      → left.tables ≡ slice_set content.db.tables place (table_from heading new) → left ≡ with_last_column name column content.db
  column_comes name differ at left tables =
      ap (λ ts. record { tables = ts })
      (tables ∙ ap (slice_set content.db.tables place) table_is
      ∙ one_changes name (λ (t : Table). record t { columns = t.columns ++ column ∷ []; rows = map (λ (row : List Cell). row ++ column.default ∷ []) t.rows }) content.db.tables place differ at)

  pub column_version_stays : (left : Content) → left.db.tables ≡ slice_set content.db.tables place (table_from heading new) → left.versions ≡ slice_set content.versions place new.versions
      → (table name : List ℕ) → version_of table name left ≡ version_of table name content
  column_version_stays left tables versions table name =
      ap (λ ts. version_in table name ts left.versions) (tables ∙ ap (slice_set content.db.tables place) table_is)
      ∙ ap (version_in table name (slice_set content.db.tables place longer_table))
      (versions ∙ ap (slice_set content.versions place) (ap (λ (k : KeptTable). k.versions) grown ∙ ap (λ (k : KeptTable). k.versions ++ 0 ∷ []) is))
      ∙ longer_version table name column (map (λ (row : List Cell). row ++ column.default ∷ []) (table_at place content.db).rows) content.db.tables content.versions place
      (sym (ap (λ (k : KeptTable). length k.versions) is) ∙ beside ∙ ap (λ (k : KeptTable). k.width) is)
