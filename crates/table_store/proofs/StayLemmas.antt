-- What stays of a database in which a table has other rows.
use Rattle.std.proofs.Common.{◌≡◌, ℕ, List, [], ◌∷◌, ◌++◌, length, map, true, false, cond, Option, Some, None, IfSome, refl, ap, sym, subst, ◌∙◌}
use Rattle.std.specs.Prelude.{bytes_eq}
use Rattle.std.specs.Option.{option_map_or}
use Rattle.cell_core.specs.declared.cell.Cell.{Cell}
use Rattle.cell_core.specs.declared.table.Table.{Table}
use Rattle.cell_core.specs.declared.table.Db.{Db}
use Rattle.cell_core.specs.Tables.{first_named, with_new_rows, names_differ}
use Rattle.table_columns.specs.Rows.{AreWide}
use Rattle.table_store.specs.Changes.{NamesDiffer, columns_of, with_rows}

module _ (name : List ℕ) (rows : List (List Cell)) where
  names_stay : (tables : List Table) → map (λ (t : Table). t.name) (map (with_new_rows name rows) tables) ≡ map (λ (t : Table). t.name) tables
  names_stay [] = refl
  names_stay (t ∷ tables) =
      elim (bytes_eq t.name name) as (λ b. (cond b (record t { rows = rows }) t).name ∷ map (λ (t : Table). t.name) (map (with_new_rows name rows) tables) ≡ t.name ∷ map (λ (t : Table). t.name) tables) [
        | true ↦ ap (λ more. t.name ∷ more) (names_stay tables)
        | false ↦ ap (λ more. t.name ∷ more) (names_stay tables)
      ]

  columns_stay : (other : List ℕ) (tables : List Table)
      → option_map_or (λ (t : Table). t.columns) (first_named other (map (with_new_rows name rows) tables)) [] ≡ option_map_or (λ (t : Table). t.columns) (first_named other tables) []
  columns_stay other [] = refl
  columns_stay other (t ∷ tables) =
      elim (bytes_eq t.name name) as (λ b. option_map_or (λ (t : Table). t.columns)
      (cond (bytes_eq (cond b (record t { rows = rows }) t).name other) (Some (cond b (record t { rows = rows }) t)) (first_named other (map (with_new_rows name rows) tables))) []
      ≡ option_map_or (λ (t : Table). t.columns) (cond (bytes_eq t.name other) (Some t) (first_named other tables)) []) [
        | true ↦ by_name (columns_stay other tables) (record t { rows = rows }) refl
        | false ↦ by_name (columns_stay other tables) t refl
      ]
    where
      by_name : option_map_or (λ (t : Table). t.columns) (first_named other (map (with_new_rows name rows) tables)) [] ≡ option_map_or (λ (t : Table). t.columns) (first_named other tables) []
          → (u : Table) → u.columns ≡ t.columns
          → option_map_or (λ (t : Table). t.columns) (cond (bytes_eq t.name other) (Some u) (first_named other (map (with_new_rows name rows) tables))) []
          ≡ option_map_or (λ (t : Table). t.columns) (cond (bytes_eq t.name other) (Some t) (first_named other tables)) []
      by_name rest u same = elim (bytes_eq t.name other) as (λ b. option_map_or (λ (t : Table). t.columns) (cond b (Some u) (first_named other (map (with_new_rows name rows) tables))) []
          ≡ option_map_or (λ (t : Table). t.columns) (cond b (Some t) (first_named other tables)) []) [
            | true ↦ same
            | false ↦ rest
          ]

  -- names still differ, and each table has its columns
  pub still_differ : (db left : Db) → left ≡ with_rows name rows db → NamesDiffer db → NamesDiffer left
  still_differ db left is differ =
      subst (λ (d : Db). NamesDiffer d) (sym is) (subst (λ names. names_differ names ≡ true) (sym (names_stay db.tables)) differ)

  pub still_columns : (db left : Db) → left ≡ with_rows name rows db → (other : List ℕ) → columns_of other left ≡ columns_of other db
  still_columns db left is other = ap (λ (d : Db). columns_of other d) is ∙ columns_stay other db.tables

-- rows as wide as the columns of a table fit it, if it is there
pub wide_if : (width : ℕ) (rows : List (List Cell)) (found : Option Table) → length (option_map_or (λ (t : Table). t.columns) found []) ≡ width → AreWide width rows
    → IfSome found (λ (t : Table). AreWide (length t.columns) rows)
wide_if width rows None long wide = tt
wide_if width rows (Some t) long wide = subst (λ w. AreWide w rows) (sym long) wide

-- one more row
pub wide_push : (width : ℕ) (rows : List (List Cell)) (row : List Cell) → AreWide width rows → length row ≡ width → AreWide width (rows ++ row ∷ [])
wide_push width [] row wide long = (long, tt)
wide_push width (r ∷ rows) row wide long = (wide.0, wide_push width rows row wide.1 long)
