-- The tables that a statement names, by the names that it calls them, and the places of their columns.
use Rattle.std.specs.Prelude.{ℕ, List, [], ◌∷◌, map, filter, flat_map, filter_map, find, zip, Bool, ◌&&◌, ◌==◌, true, false, bytes_eq, Option, Some, None, unwrap_or}
use Rattle.std.specs.List.{enumerate_from}
use Rattle.std.specs.Option.{option_map, option_map_or}
use Rattle.cell_core.specs.declared.cell.Cell.{Cell}
use Rattle.cell_core.specs.declared.table.Column.{Column}
use Rattle.cell_core.specs.declared.table.Table.{Table}
use Rattle.cell_core.specs.declared.table.Db.{Db}
use Rattle.cell_core.specs.Tables.{named_table}
use Rattle.sql_tree.specs.declared.tree.ColRef.{ColRef}
use Rattle.sql_tree.specs.declared.tree.FromItem.{FromItem}
use Rattle.sql_definitions.specs.declared.source.Source.{Source}
use Rattle.sql_definitions.specs.declared.source.Schema.{Schema}

-- a table as a statement calls it, with its columns
pub record NamedSource : Type 0 where
  pub name : List ℕ
  pub columns : List Column

-- the same with its rows
pub record NamedTable : Type 0 where
  pub name : List ℕ
  pub table : Table

abbrev pub source_of : NamedTable → NamedSource
source_of named = record { name = named.name; columns = named.table.columns }

abbrev pub rows_of : NamedTable → List (List Cell)
rows_of named = named.table.rows

-- ## Tables

-- the table of a schema with this name
abbrev pub source_named : List ℕ → Schema → Option Source
source_named name schema = find (λ (source : Source). bytes_eq source.table name) schema.tables

-- the tables of a database without their rows
abbrev pub schema_of : Db → Schema
schema_of db = record { tables = map (λ (table : Table). record { table = table.name; columns = table.columns }) db.tables }

-- the FROM name of a table, which is its own where it has no alias
abbrev pub from_name : FromItem → List ℕ
from_name from = unwrap_or from.alias from.table

-- the tables of FROM in a schema, under their FROM names
abbrev pub from_sources : List FromItem → Schema → List NamedSource
from_sources froms schema =
    filter_map (λ (from : FromItem). option_map (λ (source : Source). record { name = from_name from; columns = source.columns }) (source_named from.table schema)) froms

-- the tables of FROM in a database, under their FROM names
abbrev pub from_tables : List FromItem → Db → List NamedTable
from_tables froms db =
    filter_map (λ (from : FromItem). option_map (λ (table : Table). record { name = from_name from; table = table }) (named_table from.table db)) froms

-- tables under these names
abbrev pub called_sources : List (List ℕ) → List Source → List NamedSource
called_sources names sources =
    map (λ (at : List ℕ × Source). record { name = at.0; columns = at.1.columns }) (zip names sources)

-- ## Places

-- a reference may mean this column of this table
abbrev pub means : ColRef → NamedSource → Column → Bool
means ref source column = option_map_or (λ table. bytes_eq table source.name) ref.table true && bytes_eq ref.column column.name

-- the columns of one table that a reference may mean, as places: the table's number beside the column's
abbrev pub places_in : ColRef → ℕ × NamedSource → List (ℕ × ℕ)
places_in ref numbered =
    map (λ (at : ℕ × Column). (numbered.0, at.0)) (filter (λ (at : ℕ × Column). means ref numbered.1 at.1) (enumerate_from 0 numbered.1.columns))

-- the places of all columns that a reference may mean; tables and columns are counted from 0
abbrev pub places : List NamedSource → ColRef → List (ℕ × ℕ)
places sources ref = flat_map (places_in ref) (enumerate_from 0 sources)

-- the only element
abbrev pub only : List (ℕ × ℕ) → Option (ℕ × ℕ)
only (place ∷ []) = Some place
only _ = None

-- the place that a reference means, where it may mean one alone
abbrev pub place_of : List NamedSource → ColRef → Option (ℕ × ℕ)
place_of sources ref = only (places sources ref)

-- two references mean the same column
abbrev pub same_place : Option (ℕ × ℕ) → Option (ℕ × ℕ) → Bool
same_place (Some a) (Some b) = (a.0 == b.0) && (a.1 == b.1)
same_place _ _ = false
