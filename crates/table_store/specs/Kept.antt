-- Tables that are kept as columns; only private contracts use them.
use Rattle.std.specs.Prelude.{◌≡◌, ℕ, suc, List, [], ◌∷◌, length, map, if◌then◌else◌, bytes_eq, slice_index_or, slice_set, Option, Some, None}
use Rattle.std.specs.Option.{option_map}
use Rattle.cell_core.specs.declared.cell.Cell.{Cell}
use Rattle.cell_core.specs.declared.table.Column.{Column}
use Rattle.cell_core.specs.declared.table.Table.{Table}
use Rattle.table_store.specs.declared.heading.Heading.{Heading}
use Rattle.table_columns.specs.Rows.{KeptTable, stamped}
use Rattle.cell_core.specs.declared.table.Db.{Db}
use Rattle.table_store.specs.Content.{Content}

abbrev pub table_from : Heading → KeptTable → Table
table_from heading kept = record { name = heading.name; columns = heading.columns; rows = kept.rows }

abbrev pub tables_from : List Heading → List KeptTable → List Table
tables_from [] kept = []
tables_from (heading ∷ headings) [] = []
tables_from (heading ∷ headings) (first ∷ kept) = table_from heading first ∷ tables_from headings kept

abbrev pub content_from : List Heading → List KeptTable → Content
content_from headings kept = record { db = record { tables = tables_from headings kept }; versions = map (λ (k : KeptTable). k.versions) kept }

-- as many columns and versions as the table has
pub record IsKept (heading : Heading) (kept : KeptTable) : Type 0 where
  pub width : kept.width ≡ length heading.columns
  pub versions : length kept.versions ≡ length heading.columns

abbrev pub AreKept : List Heading → List KeptTable → Type 0
AreKept [] [] = Unit {0}
AreKept [] (first ∷ kept) = ⊥
AreKept (heading ∷ headings) [] = ⊥
AreKept (heading ∷ headings) (first ∷ kept) = IsKept heading first × AreKept headings kept

-- ## A table by its name

-- the place of the first table with this name
abbrev pub heading_place : List ℕ → List Heading → Option ℕ
heading_place name [] = None
heading_place name (heading ∷ headings) = if bytes_eq heading.name name then Some 0 else option_map suc (heading_place name headings)

-- the place of the first table with this name among tables
abbrev pub table_place : List ℕ → List Table → Option ℕ
table_place name [] = None
table_place name (table ∷ tables) = if bytes_eq table.name name then Some 0 else option_map suc (table_place name tables)

-- the table at a place, and what is kept of it
abbrev pub table_at : ℕ → Db → Table
table_at place db = slice_index_or db.tables place (record { name = []; columns = []; rows = [] })

abbrev pub heading_at : ℕ → Db → Heading
heading_at place db = record { name = (table_at place db).name; columns = (table_at place db).columns }

abbrev pub kept_at : ℕ → Content → KeptTable
kept_at place content =
    record { width = length (table_at place content.db).columns; rows = (table_at place content.db).rows; versions = slice_index_or content.versions place [] }

-- the tables, of which that at a place has other rows
abbrev pub rows_at : ℕ → List (List Cell) → List Table → List Table
rows_at place rows tables = slice_set tables place (record (slice_index_or tables place (record { name = []; columns = []; rows = [] })) { rows = rows })

-- ## Versions after a write

-- a table whose columns have other versions
abbrev pub stamped_table : List (List ℕ) → ℕ → List Column → KeptTable → KeptTable
stamped_table names version columns kept = record kept { versions = stamped names version columns kept.versions }

-- the tables once that at a place is stamped
abbrev pub stamped_at : List (List ℕ) → ℕ → List Heading → ℕ → List KeptTable → List KeptTable
stamped_at names version headings place kept =
    slice_set kept place (stamped_table names version (slice_index_or headings place (record { name = []; columns = [] })).columns (slice_index_or kept place (record { width = 0; rows = []; versions = [] })))

-- ## A table that is removed

-- the tables that don't have this name
abbrev pub headings_without : List ℕ → List Heading → List Heading
headings_without name [] = []
headings_without name (heading ∷ headings) = if bytes_eq heading.name name then headings_without name headings else heading ∷ headings_without name headings

-- their columns
abbrev pub kept_without : List ℕ → List Heading → List KeptTable → List KeptTable
kept_without name [] kept = []
kept_without name (heading ∷ headings) [] = []
kept_without name (heading ∷ headings) (first ∷ kept) = if bytes_eq heading.name name then kept_without name headings kept else first ∷ kept_without name headings kept
