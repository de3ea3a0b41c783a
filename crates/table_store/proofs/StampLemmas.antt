-- What a stamp leaves of the versions of all columns.
use Rattle.std.proofs.Common.{◌≡◌, ℕ, zero, suc, List, [], ◌∷◌, ◌++◌, length, take, arith, Bool, true, false, ◌&&◌, Some, None, refl, ap, sym, subst, ◌∙◌}
use Rattle.std.specs.Prelude.{bytes_eq}
use Rattle.std.specs.List.{list_any}
use Rattle.std.proofs.lemmas.Bool.{and_parts}
use Rattle.std.proofs.lemmas.Slice.Eq.{bytes_eq-Decides}
use Rattle.cell_core.specs.declared.table.Db.{Db}
use Rattle.cell_core.specs.Tables.{has_column}
use Rattle.table_columns.specs.Rows.{KeptTable}
use Rattle.table_store.specs.declared.heading.Heading.{Heading}
use Rattle.pool_policy.specs.declared.touched.Touched.{Touched}
use Rattle.table_store.specs.Content.{version_in}
use Rattle.table_store.specs.Kept.{AreKept, heading_place, stamped_at, tables_from}
use Rattle.pool_policy.specs.Versions.{is_of}
use Rattle.table_store.proofs.AddedLemmas.{not_found}
use Rattle.table_store.proofs.TableLemmas.{kept_stamped, tables_stamped}
use Rattle.table_store.proofs.VersionLemmas.{versions_from, table_stamped, unnamed_stays, other_stays}

module _ (touched : Touched) (version : ℕ) (headings : List Heading) (kept : List KeptTable) (are : AreKept headings kept) where
  pub none_stamped : heading_place touched.table headings ≡ None → (table column : List ℕ) → is_of touched table column ≡ true
      → has_column table column (record { tables = tables_from headings kept }) ≡ true → ⊥
  none_stamped none table column one has =
      let same : table ≡ touched.table = (bytes_eq-Decides table touched.table).0 (and_parts _ _ one).0 in
      not_found touched.table column headings kept none (subst (λ t. has_column t column (record { tables = tables_from headings kept }) ≡ true) same has)

  abbrev pub after_stamp : ℕ → List KeptTable
  after_stamp place = stamped_at touched.columns version headings place kept

  pub touched_stamped : (place : ℕ) → heading_place touched.table headings ≡ Some place → (table column : List ℕ) → is_of touched table column ≡ true
      → has_column table column (record { tables = tables_from headings kept }) ≡ true
      → version_in table column (tables_from headings (after_stamp place)) (versions_from (after_stamp place)) ≡ version
  touched_stamped place at table column one has =
      let same : table ≡ touched.table = (bytes_eq-Decides table touched.table).0 (and_parts _ _ one).0 in
      ap (λ tables. version_in table column tables (versions_from (after_stamp place))) (tables_stamped touched.columns version headings kept place)
      ∙ ap (λ t. version_in t column (tables_from headings kept) (versions_from (after_stamp place))) same
      ∙ table_stamped touched.table touched.columns version column headings kept place are at (and_parts _ _ one).1
      (subst (λ t. has_column t column (record { tables = tables_from headings kept }) ≡ true) same has)

  pub others_stamped : (place : ℕ) → heading_place touched.table headings ≡ Some place → (table column : List ℕ) → is_of touched table column ≡ false
      → version_in table column (tables_from headings (after_stamp place)) (versions_from (after_stamp place)) ≡ version_in table column (tables_from headings kept) (versions_from kept)
  others_stamped place at table column none =
      ap (λ tables. version_in table column tables (versions_from (after_stamp place))) (tables_stamped touched.columns version headings kept place)
      ∙ by_case (bytes_eq table touched.table) refl none
    where
      by_case : (b : Bool) → bytes_eq table touched.table ≡ b → (b && list_any (bytes_eq column) touched.columns) ≡ false
          → version_in table column (tables_from headings kept) (versions_from (after_stamp place)) ≡ version_in table column (tables_from headings kept) (versions_from kept)
      by_case false differ none = other_stays touched.table touched.columns version column table headings kept place at differ
      by_case true same none = unnamed_stays touched.table touched.columns version column table headings kept place none

  pub are_stamped : (place : ℕ) (ks : List KeptTable) → ks ≡ after_stamp place → AreKept headings ks
  are_stamped place ks is = subst (λ (x : List KeptTable). AreKept headings x) (sym is) (kept_stamped touched.columns version headings kept place are)

  tables_are : (place : ℕ) (ks : List KeptTable) → ks ≡ after_stamp place → tables_from headings ks ≡ tables_from headings kept
  tables_are place ks is = ap (tables_from headings) is ∙ tables_stamped touched.columns version headings kept place

  pub db_is : (place : ℕ) (ks : List KeptTable) → ks ≡ after_stamp place → ◌≡◌ {A = Db} (record { tables = tables_from headings ks }) (record { tables = tables_from headings kept })
  db_is place ks is = ap (λ tables. record { tables = tables }) (tables_are place ks is)

  pub touched_is : (place : ℕ) (ks : List KeptTable) → ks ≡ after_stamp place → heading_place touched.table headings ≡ Some place → (table column : List ℕ) → is_of touched table column ≡ true
      → has_column table column (record { tables = tables_from headings ks }) ≡ true → version_in table column (tables_from headings ks) (versions_from ks) ≡ version
  touched_is place ks is at table column one has =
      ap (λ (x : List KeptTable). version_in table column (tables_from headings x) (versions_from x)) is
      ∙ touched_stamped place at table column one (subst (λ tables. has_column table column (record { tables = tables }) ≡ true) (tables_are place ks is) has)

  pub others_is : (place : ℕ) (ks : List KeptTable) → ks ≡ after_stamp place → heading_place touched.table headings ≡ Some place → (table column : List ℕ) → is_of touched table column ≡ false
      → version_in table column (tables_from headings ks) (versions_from ks) ≡ version_in table column (tables_from headings kept) (versions_from kept)
  others_is place ks is at table column none =
      ap (λ (x : List KeptTable). version_in table column (tables_from headings x) (versions_from x)) is ∙ others_stamped place at table column none

-- a list after which others are cut off
pub all_taken : (n : ℕ) (xs ys : List KeptTable) → n ≡ length xs → take n (xs ++ ys) ≡ xs
all_taken zero [] ys e = refl
all_taken zero (x ∷ xs) ys e = absurd (omega arith)
all_taken (suc n) [] ys e = absurd (omega arith)
all_taken (suc n) (x ∷ xs) ys e = ap (λ more. x ∷ more) (all_taken n xs ys (omega arith))
