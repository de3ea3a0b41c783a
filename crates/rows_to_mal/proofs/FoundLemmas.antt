-- The tables of a statement in a valid database: they are there, and have the columns that plans bind.
use Rattle.std.proofs.Common.{◌≡◌, ℕ, suc, zero, ◌<◌, List, [], ◌∷◌, length, true, false, cond, Option, Some, None, refl, ap, sym, ◌∙◌, subst, arith}
use Rattle.std.specs.Prelude.{bytes_eq, get_or}
use Rattle.std.specs.List.{AllByRecursion, list_any, list_all, cons_option}
use Rattle.std.specs.Option.{option_map, option_map_or, option_and_then}
use Rattle.std.proofs.lemmas.Bool.{and_parts, or_parts, not-true}
use Rattle.std.proofs.lemmas.Option.{same_Some}
use Rattle.cell_core.specs.declared.table.Column.{Column}
use Rattle.cell_core.specs.declared.table.Table.{Table}
use Rattle.cell_core.specs.declared.table.Db.{Db}
use Rattle.cell_core.specs.Pairs.{numbered}
use Rattle.cell_core.specs.Relations.{column_cells}
use Rattle.cell_core.specs.Tables.{first_named, named_table, column_place, names_differ}
use Rattle.sql_definitions.specs.declared.source.Source.{Source}
use Rattle.rows_to_mal.specs.Candidates.{no_column, column_name}
use Rattle.rows_to_mal.specs.Laws.{rows_in}
use Rattle.rows_to_mal.proofs.CandidateLemmas.{Binds}
use Rattle.sql_definitions.specs.Sources.{source_named, schema_of}
use Rattle.sql_definitions.specs.Check.{sources_named}
use Rattle.sql_definitions.specs.Valid.{column_names, are_valid_columns, fits_columns, is_valid_table, IsValid}
use Rattle.sql_kinds.proofs.NameLemmas.{same_name, own_name}
use Rattle.sql_kinds.proofs.RowLemmas.{columns_differ}
use Rattle.sql_kinds.proofs.TableLemmas.{as_source, source_is, found_holds}

-- the database has the table, and it is valid
pub record InDb (db : Db) (source : Source) : Type 0 where
  pub table : Table
  pub named : named_table source.table db ≡ Some table
  pub is : as_source table ≡ source
  pub valid : is_valid_table table ≡ true

-- ## Tables

pub name_of : (name : List ℕ) (tables : List Table) (table : Table) → first_named name tables ≡ Some table → table.name ≡ name
name_of name [] table e = cc
name_of name (first ∷ tables) table e =
    elim (bytes_eq first.name name) as (λ b. bytes_eq first.name name ≡ b → cond b (Some first) (first_named name tables) ≡ Some table → table.name ≡ name) [
      | true ↦ λ same found. subst (λ (t : Table). t.name ≡ name) (same_Some first table found) (same_name first.name name same)
      | false ↦ λ other found. name_of name tables table found
    ] refl e

pub as_found : (o : Option Table) (source : Source) → option_map as_source o ≡ Some source → (table : Table) × (o ≡ Some table) × (as_source table ≡ source)
as_found None source e = cc
as_found (Some table) source e = (table, refl, same_Some (as_source table) source e)

pub in_db : (db : Db) → IsValid db → (name : List ℕ) (source : Source) → source_named name (schema_of db) ≡ Some source → InDb db source
in_db db holds name source e =
    let found = as_found (first_named name db.tables) source (sym (source_is name db.tables) ∙ e) in
    record {
      table = found.0;
      named = ap (λ n. first_named n db.tables) (sym (ap (λ (s : Source). s.table) found.2) ∙ name_of name db.tables found.0 found.1) ∙ found.1;
      is = found.2;
      valid = found_holds name db.tables found.0 holds.tables found.1;
    }

one_more : (db : Db) (found : Option Source) (others : List Source) → ((source : Source) → found ≡ Some source → InDb db source) → AllByRecursion (InDb db) others
    → AllByRecursion (InDb db) (cons_option found others)
one_more db None others f a = a
one_more db (Some source) others f a = (f source refl, a)

-- the tables of a statement are all there
pub all_in_db : (db : Db) → IsValid db → (names : List (List ℕ)) → AllByRecursion (InDb db) (sources_named names (schema_of db))
all_in_db db holds [] = tt
all_in_db db holds (name ∷ names) = one_more db (source_named name (schema_of db)) (sources_named names (schema_of db)) (in_db db holds name) (all_in_db db holds names)

-- ## Columns

none_below : (n : ℕ) → n < 0 → ⊥
none_below n h = omega arith

fewer : (n l : ℕ) → suc n < suc l → n < l
fewer n l h = omega arith

other_at : (name : List ℕ) (columns : List Column) (place : ℕ) → list_any (bytes_eq name) (column_names columns) ≡ false → place < length columns
    → bytes_eq name (get_or columns place no_column).name ≡ false
other_at name [] place none few = absurd (none_below place few)
other_at name (column ∷ columns) zero none few = (or_parts _ _ none).0
other_at name (column ∷ columns) (suc place) none few = other_at name columns place (or_parts _ _ none).1 (fewer place (length columns) few)

-- where names differ a column's name means its place
place_of_own : (columns : List Column) (place : ℕ) → names_differ (column_names columns) ≡ true → place < length columns → column_place (get_or columns place no_column).name columns ≡ Some place
place_of_own [] place differ few = absurd (none_below place few)
place_of_own (column ∷ columns) zero differ few = ap (λ b. cond b (Some 0) (option_map suc (column_place column.name columns))) (own_name column.name)
place_of_own (column ∷ columns) (suc place) differ few =
    ap (λ b. cond b (Some 0) (option_map suc (column_place (get_or columns place no_column).name columns)))
    (other_at column.name columns place (not-true _ (and_parts _ _ differ).0) (fewer place (length columns) few))
    ∙ ap (option_map suc) (place_of_own columns place (and_parts _ _ differ).1 (fewer place (length columns) few))

some_columns : (columns : List Column) → are_valid_columns columns ≡ true → 0 < length columns
some_columns [] e = cc
some_columns (column ∷ columns) e = omega arith

module _ (db : Db) (source : Source) (there : InDb db source) where
  rows_are : rows_in db source ≡ there.table.rows
  rows_are = ap (λ o. option_map_or (λ (t : Table). t.rows) o []) there.named

  columns_are : there.table.columns ≡ source.columns
  columns_are = ap (λ (s : Source). s.columns) there.is

  pub columns_valid : are_valid_columns source.columns ≡ true
  columns_valid = ap are_valid_columns (sym columns_are) ∙ (and_parts (are_valid_columns there.table.columns) (list_all (fits_columns there.table.columns) there.table.rows) there.valid).0

  -- the rows fit the columns
  pub rows_fit : list_all (fits_columns source.columns) (rows_in db source) ≡ true
  rows_fit =
      ap (list_all (fits_columns source.columns)) rows_are
      ∙ ap (λ columns. list_all (fits_columns columns) there.table.rows) (sym columns_are)
      ∙ (and_parts (are_valid_columns there.table.columns) (list_all (fits_columns there.table.columns) there.table.rows) there.valid).1

  pub has_columns : 0 < length source.columns
  has_columns = some_columns source.columns columns_valid

  -- the database binds each of its columns
  pub binds_in : Binds db source (rows_in db source)
  binds_in = record {
    column = λ place few.
        ap (option_and_then (λ (t : Table). option_map (λ p. numbered (column_cells p t.rows)) (column_place (column_name source place) t.columns))) there.named
        ∙ ap (λ columns. option_map (λ p. numbered (column_cells p there.table.rows)) (column_place (column_name source place) columns)) columns_are
        ∙ ap (option_map (λ p. numbered (column_cells p there.table.rows))) (place_of_own source.columns place (columns_differ source.columns columns_valid) few)
        ∙ ap (λ rows. Some (numbered (column_cells place rows))) (sym rows_are);
  }
