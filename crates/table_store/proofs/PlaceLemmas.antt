-- A table at a place, and the tables once it is replaced.
use Rattle.std.proofs.Common.{◌≡◌, ℕ, zero, suc, ◌<◌, List, [], ◌∷◌, ◌++◌, length, map, Bool, true, false, not, cond, Option, Some, None, refl, ap, sym, subst, ◌∙◌, arith, slice_set}
use Rattle.std.specs.Prelude.{bytes_eq, slice_index_or}
use Rattle.std.specs.List.{list_any}
use Rattle.std.specs.Option.{option_map}
use Rattle.std.proofs.lemmas.Bool.{and_parts, or_parts}
use Rattle.std.proofs.lemmas.Slice.Eq.{bytes_eq-Decides}
use Rattle.cell_core.specs.declared.cell.Cell.{Cell}
use Rattle.cell_core.specs.declared.table.Column.{Column}
use Rattle.cell_core.specs.declared.table.Table.{Table}
use Rattle.cell_core.specs.Tables.{first_named, names_differ}
use Rattle.table_columns.specs.Rows.{KeptTable}
use Rattle.table_store.specs.declared.heading.Heading.{Heading}
use Rattle.table_store.specs.Content.{Content, column_version, version_in}
use Rattle.table_store.specs.Kept.{AreKept, IsKept, content_from, heading_at, heading_place, kept_at, rows_at, table_from, table_place, tables_from}
use Rattle.table_store.proofs.TableLemmas.{tables_long}
use Rattle.table_store.proofs.VersionLemmas.{versions_from}

abbrev pub no_table : Table
no_table = record { name = []; columns = []; rows = [] }

-- ## Where a table is

pub same_place : (name : List ℕ) (headings : List Heading) (kept : List KeptTable) → AreKept headings kept → heading_place name headings ≡ table_place name (tables_from headings kept)
same_place name [] [] are = refl
same_place name [] (k ∷ kept) are = absurd are
same_place name (heading ∷ headings) [] are = absurd are
same_place name (heading ∷ headings) (k ∷ kept) are =
    ap (λ found. cond (bytes_eq heading.name name) (Some 0) (option_map suc found)) (same_place name headings kept are.1)

pub heading_there : (headings : List Heading) (kept : List KeptTable) (place : ℕ) (found : Heading) → AreKept headings kept → place < length headings
    → found ≡ slice_index_or headings place found → found ≡ heading_at place (record { tables = tables_from headings kept })
heading_there [] kept place found are within is = absurd (omega arith)
heading_there (heading ∷ headings) [] place found are within is = absurd are
heading_there (heading ∷ headings) (k ∷ kept) zero found are within is = is
heading_there (heading ∷ headings) (k ∷ kept) (suc place) found are within is = heading_there headings kept place found are.1 (omega arith) is

pub kept_there : (headings : List Heading) (kept : List KeptTable) (place : ℕ) (found : KeptTable) → AreKept headings kept → place < length headings
    → found ≡ slice_index_or kept place found → found ≡ kept_at place (content_from headings kept)
kept_there [] kept place found are within is = absurd (omega arith)
kept_there (heading ∷ headings) [] place found are within is = absurd are
kept_there (heading ∷ headings) (k ∷ kept) zero found are within is =
    is ∙ ap (λ w. record { width = w; rows = k.rows; versions = k.versions }) are.0.width
kept_there (heading ∷ headings) (k ∷ kept) (suc place) found are within is = kept_there headings kept place found are.1 (omega arith) is

pub beside_there : (headings : List Heading) (kept : List KeptTable) (place : ℕ) (found : KeptTable) → AreKept headings kept → place < length headings
    → found ≡ slice_index_or kept place found → length found.versions ≡ found.width
beside_there [] kept place found are within is = absurd (omega arith)
beside_there (heading ∷ headings) [] place found are within is = absurd are
beside_there (heading ∷ headings) (k ∷ kept) zero found are within is =
    ap (λ (x : KeptTable). length x.versions) is ∙ are.0.versions ∙ sym are.0.width ∙ sym (ap (λ (x : KeptTable). x.width) is)
beside_there (heading ∷ headings) (k ∷ kept) (suc place) found are within is = beside_there headings kept place found are.1 (omega arith) is

-- a place among the tables is one among what is kept of them
pub place_within : (headings : List Heading) (kept : List KeptTable) (content : Content) (place : ℕ) → AreKept headings kept → content_from headings kept ≡ content
    → place < length content.db.tables → place < length headings
place_within headings kept content place are view within =
    subst (λ n. place < n) (sym (ap (λ (x : Content). length x.db.tables) view) ∙ tables_long headings kept are) within

-- ## A table that is replaced

pub replaced_are : (headings : List Heading) (kept : List KeptTable) (place : ℕ) (heading : Heading) (table : KeptTable) → AreKept headings kept → IsKept heading table
    → AreKept (slice_set headings place heading) (slice_set kept place table)
replaced_are [] [] place heading table are is = tt
replaced_are [] (k ∷ kept) place heading table are is = absurd are
replaced_are (s ∷ headings) [] place heading table are is = absurd are
replaced_are (s ∷ headings) (k ∷ kept) zero heading table are is = (is, are.1)
replaced_are (s ∷ headings) (k ∷ kept) (suc place) heading table are is = (are.0, replaced_are headings kept place heading table are.1 is)

pub replaced_tables : (headings : List Heading) (kept : List KeptTable) (place : ℕ) (heading : Heading) (table : KeptTable) → AreKept headings kept
    → tables_from (slice_set headings place heading) (slice_set kept place table) ≡ slice_set (tables_from headings kept) place (table_from heading table)
replaced_tables [] [] place heading table are = refl
replaced_tables [] (k ∷ kept) place heading table are = absurd are
replaced_tables (s ∷ headings) [] place heading table are = absurd are
replaced_tables (s ∷ headings) (k ∷ kept) zero heading table are = refl
replaced_tables (s ∷ headings) (k ∷ kept) (suc place) heading table are = ap (λ more. table_from s k ∷ more) (replaced_tables headings kept place heading table are.1)

pub replaced_versions : (kept : List KeptTable) (place : ℕ) (table : KeptTable) → versions_from (slice_set kept place table) ≡ slice_set (versions_from kept) place table.versions
replaced_versions [] place table = refl
replaced_versions (k ∷ kept) zero table = refl
replaced_versions (k ∷ kept) (suc place) table = ap (λ more. k.versions ∷ more) (replaced_versions kept place table)

-- ## The table with a name

pub named_there : (name : List ℕ) (tables : List Table) (place : ℕ) → table_place name tables ≡ Some place → first_named name tables ≡ Some (slice_index_or tables place no_table)
named_there name [] place at = cc
named_there name (t ∷ tables) place at =
    elim (bytes_eq t.name name) as (λ b. cond b (Some 0) (option_map suc (table_place name tables)) ≡ Some place
    → cond b (Some t) (first_named name tables) ≡ Some (slice_index_or (t ∷ tables) place no_table)) [
      | true ↦ λ e. (let first : 0 ≡ place = cc in ap (λ p. Some (slice_index_or (t ∷ tables) p no_table)) first)
      | false ↦ λ e. further (λ q is. named_there name tables q is) (table_place name tables) refl e
    ] at
  where
    further : ((q : ℕ) → table_place name tables ≡ Some q → first_named name tables ≡ Some (slice_index_or tables q no_table)) → (found : Option ℕ) → table_place name tables ≡ found
        → option_map suc found ≡ Some place → first_named name tables ≡ Some (slice_index_or (t ∷ tables) place no_table)
    further again None is e = cc
    further again (Some q) is e = let next : suc q ≡ place = cc in again q is ∙ ap (λ p. Some (slice_index_or (t ∷ tables) p no_table)) next

pub not_named : (name : List ℕ) (tables : List Table) → table_place name tables ≡ None → first_named name tables ≡ None
not_named name [] at = refl
not_named name (t ∷ tables) at =
    elim (bytes_eq t.name name) as (λ b. cond b (Some 0) (option_map suc (table_place name tables)) ≡ None → cond b (Some t) (first_named name tables) ≡ None) [
      | true ↦ λ e. cc
      | false ↦ λ e. not_named name tables (behind (table_place name tables) e)
    ] at
  where
    behind : (found : Option ℕ) → option_map suc found ≡ None → found ≡ None
    behind None e = refl
    behind (Some q) e = cc

module _ (name : List ℕ) (f : Table → Table) where
  abbrev pub changed_if : Table → Table
  changed_if t = cond (bytes_eq t.name name) (f t) t

  -- without a table of the name all stay
  pub none_changes : (tables : List Table) → table_place name tables ≡ None → map changed_if tables ≡ tables
  none_changes [] at = refl
  none_changes (t ∷ tables) at =
      elim (bytes_eq t.name name) as (λ b. cond b (Some 0) (option_map suc (table_place name tables)) ≡ None → cond b (f t) t ∷ map changed_if tables ≡ t ∷ tables) [
        | true ↦ λ e. cc
        | false ↦ λ e. ap (λ more. t ∷ more) (none_changes tables (behind (table_place name tables) e))
      ] at
    where
      behind : (found : Option ℕ) → option_map suc found ≡ None → found ≡ None
      behind None e = refl
      behind (Some q) e = cc

  others_stay : (tables : List Table) → list_any (bytes_eq name) (map (λ (t : Table). t.name) tables) ≡ false → map changed_if tables ≡ tables
  others_stay [] none = refl
  others_stay (t ∷ tables) none =
      ap (λ b. cond b (f t) t ∷ map changed_if tables) (other_way name t.name (or_parts _ _ none).0) ∙ ap (λ more. t ∷ more) (others_stay tables (or_parts _ _ none).1)
    where
      other_way : (a b : List ℕ) → bytes_eq a b ≡ false → bytes_eq b a ≡ false
      other_way a b differ = by_case (bytes_eq b a) refl
        where
          by_case : (t : Bool) → bytes_eq b a ≡ t → bytes_eq b a ≡ false
          by_case false e = e
          by_case true e = let wrong : true ≡ false = sym ((bytes_eq-Decides a b).1 (sym ((bytes_eq-Decides b a).0 e))) ∙ differ in cc

  -- where names differ, the one table of the name changes
  pub one_changes : (tables : List Table) (place : ℕ) → names_differ (map (λ (t : Table). t.name) tables) ≡ true → table_place name tables ≡ Some place
      → slice_set tables place (f (slice_index_or tables place no_table)) ≡ map changed_if tables
  one_changes [] place differ at = cc
  one_changes (t ∷ tables) place differ at =
      elim (bytes_eq t.name name) as (λ b. bytes_eq t.name name ≡ b → cond b (Some 0) (option_map suc (table_place name tables)) ≡ Some place
      → slice_set (t ∷ tables) place (f (slice_index_or (t ∷ tables) place no_table)) ≡ cond b (f t) t ∷ map changed_if tables) [
        | true ↦ λ same e. (let first : 0 ≡ place = cc in
            ap (λ p. slice_set (t ∷ tables) p (f (slice_index_or (t ∷ tables) p no_table))) (sym first)
            ∙ ap (λ more. f t ∷ more) (sym (others_stay tables (subst (λ n. list_any (bytes_eq n) (map (λ (x : Table). x.name) tables) ≡ false) ((bytes_eq-Decides t.name name).0 same) (none_twice _ (and_parts _ _ differ).0)))))
        | false ↦ λ _ e. further (λ q is. one_changes tables q (and_parts _ _ differ).1 is) (table_place name tables) refl e
      ] refl at
    where
      none_twice : (b : Bool) → not b ≡ true → b ≡ false
      none_twice false e = refl
      none_twice true e = cc

      further : ((q : ℕ) → table_place name tables ≡ Some q → slice_set tables q (f (slice_index_or tables q no_table)) ≡ map changed_if tables)
          → (found : Option ℕ) → table_place name tables ≡ found → option_map suc found ≡ Some place
          → slice_set (t ∷ tables) place (f (slice_index_or (t ∷ tables) place no_table)) ≡ t ∷ map changed_if tables
      further again None is e = cc
      further again (Some q) is e =
          let next : suc q ≡ place = cc in
          ap (λ p. slice_set (t ∷ tables) p (f (slice_index_or (t ∷ tables) p no_table))) (sym next)
          ∙ ap (λ more. t ∷ more) (again q is)

-- ## Versions

pub same_versions : (versions : List (List ℕ)) (place : ℕ) → slice_set versions place (slice_index_or versions place []) ≡ versions
same_versions [] place = refl
same_versions (v ∷ versions) zero = refl
same_versions (v ∷ versions) (suc place) = ap (λ more. v ∷ more) (same_versions versions place)

module _ (table column : List ℕ) where
  -- other rows leave all versions
  pub rows_version : (rows : List (List Cell)) (tables : List Table) (versions : List (List ℕ)) (place : ℕ)
      → version_in table column (rows_at place rows tables) versions ≡ version_in table column tables versions
  rows_version rows [] versions place = refl
  rows_version rows (t ∷ tables) [] zero = refl
  rows_version rows (t ∷ tables) [] (suc place) = refl
  rows_version rows (t ∷ tables) (v ∷ versions) zero = refl
  rows_version rows (t ∷ tables) (v ∷ versions) (suc place) =
      ap (cond (bytes_eq t.name table) (column_version column t.columns v)) (rows_version rows tables versions place)

  last_version : (c : Column) (columns : List Column) (versions : List ℕ) → length versions ≡ length columns
      → column_version column (columns ++ c ∷ []) (versions ++ 0 ∷ []) ≡ column_version column columns versions
  last_version c [] [] long = elim (bytes_eq c.name column) as (λ b. ◌≡◌ {A = ℕ} (cond b 0 0) 0) [ true ↦ refl | false ↦ refl ]
  last_version c [] (v ∷ versions) long = absurd (omega arith)
  last_version c (d ∷ columns) [] long = absurd (omega arith)
  last_version c (d ∷ columns) (v ∷ versions) long = ap (cond (bytes_eq d.name column) v) (last_version c columns versions (omega arith))

  -- so does one more column, whose version is 0
  pub longer_version : (c : Column) (rows : List (List Cell)) (tables : List Table) (versions : List (List ℕ)) (place : ℕ)
      → length (slice_index_or versions place []) ≡ length (slice_index_or tables place no_table).columns
      → version_in table column (slice_set tables place (record (slice_index_or tables place no_table) { columns = (slice_index_or tables place no_table).columns ++ c ∷ []; rows = rows }))
      (slice_set versions place (slice_index_or versions place [] ++ 0 ∷ []))
      ≡ version_in table column tables versions
  longer_version c rows [] versions place long = refl
  longer_version c rows (t ∷ tables) [] zero long = refl
  longer_version c rows (t ∷ tables) [] (suc place) long = refl
  longer_version c rows (t ∷ tables) (v ∷ versions) zero long =
      ap (λ n. cond (bytes_eq t.name table) n (version_in table column tables versions)) (last_version c t.columns v long)
  longer_version c rows (t ∷ tables) (v ∷ versions) (suc place) long =
      ap (cond (bytes_eq t.name table) (column_version column t.columns v)) (longer_version c rows tables versions place long)
