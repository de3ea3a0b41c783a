-- Versions of columns, once a table is replaced, stamped, added or gone.
use Rattle.std.proofs.Common.{◌≡◌, ℕ, zero, suc, List, [], ◌∷◌, length, map, Bool, true, false, ◌||◌, cond, Option, Some, None, refl, ap, sym, ◌∙◌, arith}
use Rattle.std.specs.Prelude.{bytes_eq}
use Rattle.std.specs.List.{list_any}
use Rattle.std.specs.Option.{option_map, option_map_or}
use Rattle.cell_core.specs.declared.table.Column.{Column}
use Rattle.cell_core.specs.declared.table.Table.{Table}
use Rattle.cell_core.specs.Tables.{first_named}
use Rattle.std.proofs.lemmas.Slice.Eq.{bytes_eq-Decides}
use Rattle.table_store.specs.declared.heading.Heading.{Heading}
use Rattle.table_columns.specs.Rows.{KeptTable, stamped}
use Rattle.table_store.specs.Content.{column_version, version_in}
use Rattle.table_store.specs.Kept.{AreKept, heading_place, stamped_at, table_from, tables_from}

abbrev pub versions_from : List KeptTable → List (List ℕ)
versions_from kept = map (λ (k : KeptTable). k.versions) kept

same_name : (a b : List ℕ) → bytes_eq a b ≡ true → a ≡ b
same_name a b e = (bytes_eq-Decides a b).0 e

-- the table has a column of this name
abbrev pub has_named : List ℕ → List Column → Bool
has_named name columns = list_any (λ (c : Column). bytes_eq c.name name) columns

-- ## Stamps

-- a column with one of the names has the new version
pub stamped_has : (names : List (List ℕ)) (version : ℕ) (name : List ℕ) (columns : List Column) (versions : List ℕ) → length versions ≡ length columns
    → list_any (bytes_eq name) names ≡ true → has_named name columns ≡ true → column_version name columns (stamped names version columns versions) ≡ version
stamped_has names version name [] versions long one has = cc
stamped_has names version name (column ∷ columns) [] long one has = absurd (omega arith)
stamped_has names version name (column ∷ columns) (v ∷ versions) long one has =
    elim (bytes_eq column.name name) as (λ b. bytes_eq column.name name ≡ b → (b || has_named name columns) ≡ true
    → cond b (cond (list_any (bytes_eq column.name) names) version v) (column_version name columns (stamped names version columns versions)) ≡ version) [
      | true ↦ λ same _. ap (λ b. cond b version v) (ap (λ n. list_any (bytes_eq n) names) (same_name column.name name same) ∙ one)
      | false ↦ λ _ rest. stamped_has names version name columns versions (omega arith) one rest
    ] refl has

-- a column without one of the names has the version that it had
pub stamped_other : (names : List (List ℕ)) (version : ℕ) (name : List ℕ) (columns : List Column) (versions : List ℕ)
    → list_any (bytes_eq name) names ≡ false → column_version name columns (stamped names version columns versions) ≡ column_version name columns versions
stamped_other names version name [] versions none = refl
stamped_other names version name (column ∷ columns) [] none = refl
stamped_other names version name (column ∷ columns) (v ∷ versions) none =
    elim (bytes_eq column.name name) as (λ b. bytes_eq column.name name ≡ b
    → cond b (cond (list_any (bytes_eq column.name) names) version v) (column_version name columns (stamped names version columns versions)) ≡ cond b v (column_version name columns versions)) [
      | true ↦ λ same. ap (λ b. cond b version v) (ap (λ n. list_any (bytes_eq n) names) (same_name column.name name same) ∙ none)
      | false ↦ λ _. stamped_other names version name columns versions none
    ] refl

module _ (table : List ℕ) (names : List (List ℕ)) (version : ℕ) (column : List ℕ) where
  -- the versions once the table at a place is stamped
  abbrev pub versions_at : List Heading → List KeptTable → ℕ → List (List ℕ)
  versions_at headings kept place = versions_from (stamped_at names version headings place kept)

  abbrev pub version_at : List Heading → List KeptTable → ℕ → ℕ
  version_at headings kept place = version_in table column (tables_from headings kept) (versions_at headings kept place)

  -- the version of a column of the table at the place of its name, with one of the names
  pub table_stamped : (headings : List Heading) (kept : List KeptTable) (place : ℕ)
      → AreKept headings kept → heading_place table headings ≡ Some place → list_any (bytes_eq column) names ≡ true
      → option_map_or (λ (t : Table). has_named column t.columns) (first_named table (tables_from headings kept)) false ≡ true
      → version_at headings kept place ≡ version
  table_stamped [] kept place are at one has = cc
  table_stamped (heading ∷ headings) [] place are at one has = absurd are
  table_stamped (heading ∷ headings) (k ∷ kept) place are at one has =
      elim (bytes_eq heading.name table) as (λ b. bytes_eq heading.name table ≡ b → cond b (Some 0) (option_map suc (heading_place table headings)) ≡ Some place
      → option_map_or (λ (t : Table). has_named column t.columns) (cond b (Some (table_from heading k)) (first_named table (tables_from headings kept))) false ≡ true
      → version_at (heading ∷ headings) (k ∷ kept) place ≡ version) [
        | true ↦ λ same here has. by_place_here place same here has
        | false ↦ λ other here has. by_place_other (λ p at has. table_stamped headings kept p are.1 at one has) place (heading_place table headings) refl other here has
      ] refl at has
    where
      by_place_here : (p : ℕ) → bytes_eq heading.name table ≡ true → Some 0 ≡ Some p → has_named column heading.columns ≡ true → version_at (heading ∷ headings) (k ∷ kept) p ≡ version
      by_place_here zero same here has =
          ap (λ b. cond b (column_version column heading.columns (stamped names version heading.columns k.versions)) (version_in table column (tables_from headings kept) (versions_from kept))) same
          ∙ stamped_has names version column heading.columns k.versions are.0.versions one has
      by_place_here (suc p) same here has = let wrong : 0 ≡ suc p = cc in absurd (omega arith)

      by_place_other : ((p : ℕ) → heading_place table headings ≡ Some p → option_map_or (λ (t : Table). has_named column t.columns) (first_named table (tables_from headings kept)) false ≡ true → version_at headings kept p ≡ version)
          → (p : ℕ) (found : Option ℕ) → heading_place table headings ≡ found → bytes_eq heading.name table ≡ false → option_map suc found ≡ Some p
          → option_map_or (λ (t : Table). has_named column t.columns) (first_named table (tables_from headings kept)) false ≡ true → version_at (heading ∷ headings) (k ∷ kept) p ≡ version
      by_place_other rest p None is other here has = cc
      by_place_other rest zero (Some q) is other here has = let wrong : suc q ≡ 0 = cc in absurd (omega arith)
      by_place_other rest (suc p) (Some q) is other here has =
          ap (λ b. cond b (column_version column heading.columns k.versions) (version_at headings kept p)) other
          ∙ rest p (is ∙ (let same : q ≡ p = cc in ap Some same)) has

  abbrev pub old_version : List ℕ → List Heading → List KeptTable → ℕ
  old_version other headings kept = version_in other column (tables_from headings kept) (versions_from kept)

  -- the version of a column of any table, without one of the names
  pub unnamed_stays : (other : List ℕ) (headings : List Heading) (kept : List KeptTable) (place : ℕ) → list_any (bytes_eq column) names ≡ false
      → version_in other column (tables_from headings kept) (versions_at headings kept place) ≡ old_version other headings kept
  unnamed_stays other [] kept place none = refl
  unnamed_stays other (heading ∷ headings) [] place none = refl
  unnamed_stays other (heading ∷ headings) (k ∷ kept) zero none =
      ap (λ v. cond (bytes_eq heading.name other) v (old_version other headings kept)) (stamped_other names version column heading.columns k.versions none)
  unnamed_stays other (heading ∷ headings) (k ∷ kept) (suc place) none =
      ap (cond (bytes_eq heading.name other) (column_version column heading.columns k.versions)) (unnamed_stays other headings kept place none)

  -- the version of a column of another table
  pub other_stays : (other : List ℕ) (headings : List Heading) (kept : List KeptTable) (place : ℕ) → heading_place table headings ≡ Some place → bytes_eq other table ≡ false
      → version_in other column (tables_from headings kept) (versions_at headings kept place) ≡ old_version other headings kept
  other_stays other [] kept place at differ = refl
  other_stays other (heading ∷ headings) [] place at differ = refl
  other_stays other (heading ∷ headings) (k ∷ kept) zero at differ =
      elim (bytes_eq heading.name other) as (λ b. bytes_eq heading.name other ≡ b
      → cond b (column_version column heading.columns (stamped names version heading.columns k.versions)) (old_version other headings kept) ≡ cond b (column_version column heading.columns k.versions) (old_version other headings kept)) [
        | true ↦ λ same. absurd (not_here (bytes_eq heading.name table) refl same)
        | false ↦ λ _. refl
      ] refl
    where
      not_here : (b : Bool) → bytes_eq heading.name table ≡ b → bytes_eq heading.name other ≡ true → ⊥
      not_here true here same =
          let wrong : true ≡ false = sym here ∙ ap (λ n. bytes_eq n table) (same_name heading.name other same) ∙ differ in cc
      not_here false here same = no_zero (heading_place table headings) (ap (λ b. cond b (Some 0) (option_map suc (heading_place table headings))) (sym here) ∙ at)
        where
          no_zero : (found : Option ℕ) → option_map suc found ≡ Some 0 → ⊥
          no_zero None e = cc
          no_zero (Some q) e = let wrong : suc q ≡ 0 = cc in omega arith
  other_stays other (heading ∷ headings) (k ∷ kept) (suc place) at differ =
      ap (cond (bytes_eq heading.name other) (column_version column heading.columns k.versions)) (other_stays other headings kept place (further (bytes_eq heading.name table) (heading_place table headings) at) differ)
    where
      further : (b : Bool) (found : Option ℕ) → cond b (Some 0) (option_map suc found) ≡ Some (suc place) → found ≡ Some place
      further true found e = let wrong : 0 ≡ suc place = cc in absurd (omega arith)
      further false None e = cc
      further false (Some q) e = let same : suc q ≡ suc place = cc in ap Some (omega arith)
