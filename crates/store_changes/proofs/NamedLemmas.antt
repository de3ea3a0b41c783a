-- A table by its name, in a store and in the check.
use Rattle.std.proofs.Common.{◌≡◌, ℕ, List, [], ◌∷◌, ◌++◌, length, map, Bool, true, false, cond, Option, Some, None, refl, ap, sym, ◌∙◌}
use Rattle.std.specs.Prelude.{bytes_eq, find, is_some, slice_get}
use Rattle.std.specs.List.{list_any}
use Rattle.std.specs.Option.{option_map, option_map_or}
use Rattle.cell_core.specs.declared.table.Column.{Column}
use Rattle.cell_core.specs.declared.table.Table.{Table}
use Rattle.cell_core.specs.declared.table.Db.{Db}
use Rattle.cell_core.specs.Tables.{first_named, named_table, row_count}
use Rattle.sql_definitions.specs.declared.refusal.Refusal.{Refusal}
use Rattle.sql_definitions.specs.declared.refusal.Refusal.TheVariants.{KindsDiffer, TableExists}
use Rattle.sql_definitions.specs.declared.source.Source.{Source}
use Rattle.sql_definitions.specs.Check.{create_refusals, is_misfit_default, names_twice, over_table, refused_if}
use Rattle.sql_definitions.specs.Sources.{schema_of, source_named}
use Rattle.sql_definitions.specs.Valid.{IsValid}
use Rattle.sql_tree.specs.Names.{name_text}
use Rattle.sql_kinds.proofs.TableLemmas.{as_source, source_is}
use Rattle.table_store.specs.declared.heading.Heading.{Heading}
use Rattle.table_store.specs.Changes.{NamesDiffer, columns_of, rows_of}
use Rattle.table_store.specs.Headings.{headings_of}

abbrev pub as_heading : Table → Heading
as_heading table = record { name = table.name; columns = table.columns }

abbrev pub has_name : List ℕ → Heading → Bool
has_name name heading = bytes_eq heading.name name

-- the table without its rows is found where the table is
pub heading_is : (name : List ℕ) (db : Db) → find (has_name name) (headings_of db) ≡ option_map as_heading (named_table name db)
heading_is name db = go db.tables
  where
    go : (tables : List Table) → find (has_name name) (map as_heading tables) ≡ option_map as_heading (first_named name tables)
    go [] = refl
    go (table ∷ tables) = elim (bytes_eq table.name name) as (λ b. cond b (Some (as_heading table)) (find (has_name name) (map as_heading tables)) ≡ option_map as_heading (cond b (Some table) (first_named name tables))) [
      | true ↦ refl
      | false ↦ go tables
    ]

-- a table that is there
pub record IsThere (name : List ℕ) (db : Db) : Type 0 where
  pub table : Table
  pub found : named_table name db ≡ Some table

-- what is accepted over a table is over one that is there
pub there : (name : List ℕ) (db : Db) (change : Source → List Refusal) → slice_get (over_table name (source_named name (schema_of db)) change) 0 ≡ None → IsThere name db
there name db change e = go (named_table name db) refl
  where
    go : (found : Option Table) → named_table name db ≡ found → IsThere name db
    go (Some table) is = record { table = table; found = is }
    go None is = let wrong : slice_get (over_table name None change) 0 ≡ None = sym (ap (λ o. slice_get (over_table name o change) 0) (source_is name db.tables ∙ ap (option_map as_source) is)) ∙ e in cc

abbrev made_over : List ℕ → List Column → Option Source → List Refusal
made_over name columns found = refused_if (is_some found) (TableExists (name_text name)) ++ names_twice (map (λ (column : Column). column.name) columns) ++ refused_if (list_any is_misfit_default columns) KindsDiffer

-- a table that is made isn't there
pub absent : (name : List ℕ) (columns : List Column) (db : Db) → slice_get (create_refusals name columns (schema_of db)) 0 ≡ None → named_table name db ≡ None
absent name columns db e = go (named_table name db) refl
  where
    go : (found : Option Table) → named_table name db ≡ found → named_table name db ≡ None
    go None is = is
    go (Some table) is =
        let here : source_named name (schema_of db) ≡ Some (as_source table) = source_is name db.tables ∙ ap (option_map as_source) is in
        let wrong : slice_get (made_over name columns (Some (as_source table))) 0 ≡ None = sym (ap (λ (o : Option Source). slice_get (made_over name columns o) 0) here) ∙ e in cc

module _ (name : List ℕ) (db : Db) (table : Table) (found : named_table name db ≡ Some table) (o : Option Heading) (seen : o ≡ find (has_name name) (headings_of db)) where
  pub told_heading : (heading : Heading) → o ≡ Some heading → heading ≡ as_heading table
  told_heading heading e = let is : ◌≡◌ {A = Option Heading} (Some heading) (Some (as_heading table)) = sym e ∙ seen ∙ heading_is name db ∙ ap (option_map as_heading) found in cc

  pub not_missing : o ≡ None → ⊥
  not_missing e = let is : ◌≡◌ {A = Option Heading} None (Some (as_heading table)) = sym e ∙ seen ∙ heading_is name db ∙ ap (option_map as_heading) found in cc

-- what there is of a table that is found
pub rows_found : (name : List ℕ) (db : Db) (table : Table) → named_table name db ≡ Some table → rows_of name db ≡ table.rows
rows_found name db table found = ap (λ (o : Option Table). option_map_or (λ (t : Table). t.rows) o []) found

pub columns_found : (name : List ℕ) (db : Db) (table : Table) → named_table name db ≡ Some table → columns_of name db ≡ table.columns
columns_found name db table found = ap (λ (o : Option Table). option_map_or (λ (t : Table). t.columns) o []) found

pub count_found : (name : List ℕ) (db : Db) (table : Table) → named_table name db ≡ Some table → row_count name db ≡ length table.rows
count_found name db table found = ap (λ (o : Option Table). option_map_or (λ (t : Table). length t.rows) o 0) found

pub count_rows : (name : List ℕ) (db : Db) → row_count name db ≡ length (rows_of name db)
count_rows name db = go (named_table name db)
  where
    go : (o : Option Table) → option_map_or (λ (t : Table). length t.rows) o 0 ≡ length (option_map_or (λ (t : Table). t.rows) o [])
    go None = refl
    go (Some table) = refl

-- the names of a valid database's tables differ
pub differ_in : (db : Db) → IsValid db → NamesDiffer db
differ_in db holds = holds.names
