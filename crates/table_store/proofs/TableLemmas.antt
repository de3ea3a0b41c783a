-- Tables that are kept as columns.
use Rattle.std.proofs.Common.{◌≡◌, ℕ, zero, suc, ◌<◌, List, [], ◌∷◌, ◌++◌, length, map, true, false, cond, Option, Some, None, refl, ap, sym, ◌∙◌, arith, slice_set}
use Rattle.std.specs.Prelude.{bytes_eq, slice_index_or}
use Rattle.std.specs.Option.{option_map}
use Rattle.cell_core.specs.declared.table.Column.{Column}
use Rattle.cell_core.specs.declared.table.Table.{Table}
use Rattle.cell_core.specs.Tables.{column_place}
use Rattle.table_columns.specs.Rows.{KeptTable, stamped}
use Rattle.table_store.specs.declared.heading.Heading.{Heading}
use Rattle.table_store.specs.Kept.{AreKept, IsKept, stamped_at, stamped_table, table_from, tables_from}
use Rattle.table_store.proofs.VersionLemmas.{versions_from}

-- ## Lengths

pub kept_long : (headings : List Heading) (kept : List KeptTable) → AreKept headings kept → length kept ≡ length headings
kept_long [] [] are = refl
kept_long [] (k ∷ kept) are = absurd are
kept_long (s ∷ headings) [] are = absurd are
kept_long (s ∷ headings) (k ∷ kept) are = ap suc (kept_long headings kept are.1)

pub tables_long : (headings : List Heading) (kept : List KeptTable) → AreKept headings kept → length (tables_from headings kept) ≡ length headings
tables_long [] [] are = refl
tables_long [] (k ∷ kept) are = absurd are
tables_long (s ∷ headings) [] are = absurd are
tables_long (s ∷ headings) (k ∷ kept) are = ap suc (tables_long headings kept are.1)

length_stamped : (names : List (List ℕ)) (version : ℕ) (columns : List Column) (versions : List ℕ) → length (stamped names version columns versions) ≡ length versions
length_stamped names version [] versions = refl
length_stamped names version (column ∷ columns) [] = refl
length_stamped names version (column ∷ columns) (v ∷ versions) = ap suc (length_stamped names version columns versions)

-- ## The schema

abbrev pub as_heading : Table → Heading
as_heading table = record { name = table.name; columns = table.columns }

pub schema_again : (headings : List Heading) (kept : List KeptTable) → AreKept headings kept → map as_heading (tables_from headings kept) ≡ headings
schema_again [] [] are = refl
schema_again [] (k ∷ kept) are = absurd are
schema_again (s ∷ headings) [] are = absurd are
schema_again (s ∷ headings) (k ∷ kept) are = ap (λ more. s ∷ more) (schema_again headings kept are.1)

-- ## Stamps

-- a table whose versions are stamped
pub stamped_kept : (names : List (List ℕ)) (version : ℕ) (s : Heading) (k : KeptTable) → IsKept s k → IsKept s (stamped_table names version s.columns k)
stamped_kept names version s k is = record { width = is.width; versions = length_stamped names version s.columns k.versions ∙ is.versions }

module _ (names : List (List ℕ)) (version : ℕ) where
  pub kept_stamped : (headings : List Heading) (kept : List KeptTable) (place : ℕ) → AreKept headings kept → AreKept headings (stamped_at names version headings place kept)
  kept_stamped [] [] place are = tt
  kept_stamped [] (k ∷ kept) place are = absurd are
  kept_stamped (heading ∷ headings) [] place are = absurd are
  kept_stamped (heading ∷ headings) (first ∷ kept) zero are = (stamped_kept names version heading first are.0, are.1)
  kept_stamped (heading ∷ headings) (first ∷ kept) (suc place) are = (are.0, kept_stamped headings kept place are.1)

  pub tables_stamped : (headings : List Heading) (kept : List KeptTable) (place : ℕ) → tables_from headings (stamped_at names version headings place kept) ≡ tables_from headings kept
  tables_stamped [] kept place = refl
  tables_stamped (heading ∷ headings) [] zero = refl
  tables_stamped (heading ∷ headings) [] (suc place) = refl
  tables_stamped (heading ∷ headings) (first ∷ kept) zero = refl
  tables_stamped (heading ∷ headings) (first ∷ kept) (suc place) = ap (λ more. table_from heading first ∷ more) (tables_stamped headings kept place)

  pub set_stamped : (headings : List Heading) (kept : List KeptTable) (place : ℕ) (s : Heading) (k new : KeptTable) → AreKept headings kept → place < length headings
      → s ≡ slice_index_or headings place s → k ≡ slice_index_or kept place k → new ≡ stamped_table names version s.columns k → slice_set kept place new ≡ stamped_at names version headings place kept
  set_stamped [] kept place s k new are within is_s is_k is_new = absurd (omega arith)
  set_stamped (heading ∷ headings) [] place s k new are within is_s is_k is_new = absurd are
  set_stamped (heading ∷ headings) (first ∷ kept) zero s k new are within is_s is_k is_new =
      ap (λ (x : KeptTable). x ∷ kept) (is_new ∙ ap (λ (t : Heading). stamped_table names version t.columns k) is_s ∙ ap (stamped_table names version heading.columns) is_k)
  set_stamped (heading ∷ headings) (first ∷ kept) (suc place) s k new are within is_s is_k is_new =
      ap (λ more. first ∷ more) (set_stamped headings kept place s k new are.1 (omega arith) is_s is_k is_new)

pub width_of : (headings : List Heading) (kept : List KeptTable) (place : ℕ) (s : Heading) (k : KeptTable) → AreKept headings kept → place < length headings
    → length (slice_index_or headings place s).columns ≡ (slice_index_or kept place k).width
width_of [] kept place s k are within = absurd (omega arith)
width_of (heading ∷ headings) [] place s k are within = absurd are
width_of (heading ∷ headings) (first ∷ kept) zero s k are within = sym are.0.width
width_of (heading ∷ headings) (first ∷ kept) (suc place) s k are within = width_of headings kept place s k are.1 (omega arith)

-- ## One more table

pub tables_more : (headings : List Heading) (kept : List KeptTable) (s : Heading) (k : KeptTable) → AreKept headings kept
    → tables_from (headings ++ s ∷ []) (kept ++ k ∷ []) ≡ tables_from headings kept ++ table_from s k ∷ []
tables_more [] [] s k are = refl
tables_more [] (first ∷ kept) s k are = absurd are
tables_more (heading ∷ headings) [] s k are = absurd are
tables_more (heading ∷ headings) (first ∷ kept) s k are = ap (λ more. table_from heading first ∷ more) (tables_more headings kept s k are.1)

pub versions_more : (kept : List KeptTable) (k : KeptTable) → versions_from (kept ++ k ∷ []) ≡ versions_from kept ++ k.versions ∷ []
versions_more [] k = refl
versions_more (first ∷ kept) k = ap (λ more. first.versions ∷ more) (versions_more kept k)

pub versions_long : (headings : List Heading) (kept : List KeptTable) → AreKept headings kept → length (versions_from kept) ≡ length (tables_from headings kept)
versions_long [] [] are = refl
versions_long [] (k ∷ kept) are = absurd are
versions_long (s ∷ headings) [] are = absurd are
versions_long (s ∷ headings) (k ∷ kept) are = ap suc (versions_long headings kept are.1)

pub kept_more : (headings : List Heading) (kept : List KeptTable) (s : Heading) (k : KeptTable) → AreKept headings kept → IsKept s k → AreKept (headings ++ s ∷ []) (kept ++ k ∷ [])
kept_more [] [] s k are is = (is, tt)
kept_more [] (first ∷ kept) s k are is = absurd are
kept_more (heading ∷ headings) [] s k are is = absurd are
kept_more (heading ∷ headings) (first ∷ kept) s k are is = (are.0, kept_more headings kept s k are.1 is)

-- ## A column

pub column_within : (name : List ℕ) (columns : List Column) (place : ℕ) → column_place name columns ≡ Some place → place < length columns
column_within name [] place at = cc
column_within name (column ∷ columns) place at =
    elim (bytes_eq column.name name) as (λ b. cond b (Some 0) (option_map suc (column_place name columns)) ≡ Some place → place < suc (length columns)) [
      | true ↦ λ e. (let zero_is : 0 ≡ place = cc in omega arith)
      | false ↦ λ e. behind (λ q is. column_within name columns q is) (column_place name columns) refl e
    ] at
  where
    behind : ((q : ℕ) → column_place name columns ≡ Some q → q < length columns) → (found : Option ℕ) → column_place name columns ≡ found → option_map suc found ≡ Some place → place < suc (length columns)
    behind again None is e = cc
    behind again (Some q) is e = let next : suc q ≡ place = cc in let low : q < length columns = again q is in omega arith
